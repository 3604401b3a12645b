-- What calls answer: nothing where what is exported serves, else why it does not.
use Rattle.std.specs.Prelude.{◌≡◌, ℕ, List, Option, Some, None}
use Rattle.cm_types.specs.Types.{Ty, FuncTy}
use Rattle.cm_types.specs.Signatures.{ItemTy, ExternTy}
use Rattle.cm_types_arena.specs.declared.moves.Move.{Move}
use Rattle.cm_types_arena.specs.Placed.{moved_by}
use Rattle.cm_types_arena.specs.Instances.{desc_of, replaced_desc}
use Rattle.cm_types_arena.specs.declared.instances.ItemDesc.{ItemDesc}
use Rattle.cm_validate_model.specs.Definitions.{ExportDef}
use Rattle.cm_match_model.specs.declared.fault.LinkReason.{LinkReason}
use Rattle.cm_match_model.specs.Imports.{ImportAt, LinkSet}
use Rattle.cm_match_model.specs.Links.{IsNotServed, IsServed}
use Rattle.cm_match_model.specs.Serving.{IsExternUnserved, IsUnserved, Serves, ServesExtern}

-- what an item is, as an import counts its resources
abbrev pub wanted_desc : List Ty → List FuncTy → Option Move → ItemDesc → ItemTy
wanted_desc types funcs by d = replaced_desc (moved_by by) (desc_of types funcs d)

-- a fact holds, or this is the reason that it does not
abbrev pub Judges : Type 0 → LinkReason → Option LinkReason → Type 0
Judges fact reason None = fact
Judges fact reason (Some r) = (r ≡ reason) × (fact → ⊥)

-- what is wanted is served by what is there, or is not for this reason
abbrev pub JudgesItem : LinkSet → ℕ → ItemTy → ℕ → Option ItemTy → Option LinkReason → Type 0
JudgesItem set c wanted d have None = (h : ItemTy) × (have ≡ Some h) × Serves set c wanted d h
JudgesItem set c wanted d have (Some r) = IsUnserved set c wanted d have r

-- what is imported is served by what is exported, or is not for this reason
abbrev pub JudgesExtern : LinkSet → ℕ → ExternTy → ℕ → ExportDef → Option LinkReason → Type 0
JudgesExtern set c x d e None = ServesExtern set c x d e
JudgesExtern set c x d e (Some r) = IsExternUnserved set c x d e r

-- an import is served, or is not for this reason
abbrev pub JudgesImport : LinkSet → ImportAt → Option LinkReason → Type 0
JudgesImport set i None = IsServed set i
JudgesImport set i (Some r) = IsNotServed set i r
