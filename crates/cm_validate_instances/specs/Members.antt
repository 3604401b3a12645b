-- What inline exports come to, among the types of an arena.
use Rattle.std.specs.Prelude.{◌≡◌, ℕ, true, List, [], map, length, Option, Some, None}
use Rattle.std.specs.List.{flat_map, list_all}
use Rattle.std.specs.Borrow.{Bor}
use Rattle.std.specs.declared.result.Result.{Result}
use Rattle.std.specs.declared.result.Result.TheVariants.{Ok, Err}
use Rattle.cm_types.specs.Types.{Ty, FuncTy}
use Rattle.cm_binary_model.specs.declared.instances.InlineExport.{InlineExport}
use Rattle.cm_validate_model.specs.declared.fault.ValidReason.{ValidReason}
use Rattle.cm_validate_model.specs.declared.fault.ValidReason.TheVariants as reason
use Rattle.cm_validate_model.specs.Definitions.{func_type_of}
use Rattle.cm_validate_model.specs.Reasons.{least}
use Rattle.cm_validate_model.specs.Rules.{member_broken}
use Rattle.cm_validate_model.specs.Scopes.{resource_id}
use Rattle.cm_validate_model.specs.Spaces.{Spaces, items_of_members, member_at}
use Rattle.cm_validate_model.specs.Spaces.{named_member as member_of_export}
use Rattle.cm_validate_instances.specs.Sketches.{sketch_func}
use Rattle.cm_validate_instances.specs.ItemSketches.{SketchedItem, named_sketch}
use Rattle.cm_validate_instances.specs.declared.item_sketches.ItemSketch.{ItemSketch}
use Rattle.cm_validate_instances.specs.declared.item_sketches.ItemSketch.TheVariants as item_sketch
use Rattle.cm_validate_types.specs.declared.entries.TypeEntry.{TypeEntry}
use Rattle.cm_validate_types.specs.declared.entries.TypeEntry.TheVariants as entry
use Rattle.cm_validate_entries.specs.ComponentSpaces.{AreTypesOf, IsComponentOf}
use Rattle.cm_validate_entries.specs.Entries.{func_def, is_member_there, member_def, named_member}
use Rattle.cm_validate_entries.specs.declared.entries.MemberEntry.{MemberEntry}
use Rattle.cm_validate_entries.specs.declared.entries.MemberEntry.TheVariants as member
use Rattle.cm_validate_entries.specs.declared.spaces.ComponentSpaces.{ComponentSpaces}

-- these are the functions, the instances and the types of the spaces of a component
pub record Stand (types : List Ty) (funcs : List FuncTy) (c : ComponentSpaces)
    (es : List TypeEntry) (s : Spaces) : Type 0 where
  pub component : IsComponentOf types funcs c s
  pub types_of : AreTypesOf types funcs es s

-- the member that a type is: a value type or a resource
abbrev pub entry_answer : TypeEntry → Result MemberEntry ValidReason
entry_answer (entry.Value p) = Ok (member.Value p)
entry_answer (entry.Resource n) = Ok (member.Resource n)
entry_answer _ = Err reason.WrongSort

abbrev pub type_answer : Option TypeEntry → Result MemberEntry ValidReason
type_answer None = Err reason.NoSuchIndex
type_answer (Some e) = entry_answer e

-- an export names a member and violates no rule, or violates a rule and names none
pub record IsFine (types : List Ty) (funcs : List FuncTy) (s : Spaces) (e : InlineExport)
    (m : MemberEntry) : Type 0 where
  pub fine : member_broken s e ≡ []
  pub names : member_at s e.sort e.index ≡ Some (member_def types funcs m)
  pub there : is_member_there (length types) (length funcs) m ≡ true

pub record IsBroken (s : Spaces) (e : InlineExport) (r : ValidReason) : Type 0 where
  pub broken : Some r ≡ least (member_broken s e)
  pub none : items_of_members (member_of_export s e) ≡ []

abbrev pub IsAnswered : List Ty → List FuncTy → Spaces → InlineExport
    → Result MemberEntry ValidReason → Type 0
IsAnswered types funcs s e (Ok m) = IsFine types funcs s e m
IsAnswered types funcs s e (Err r) = IsBroken s e r

-- the sketch of the item that a member is
abbrev pub sketch_member : List FuncTy → MemberEntry → ItemSketch
sketch_member funcs (member.Func f) =
    item_sketch.Func (sketch_func (func_type_of (func_def funcs f)))
sketch_member funcs (member.Value p) = item_sketch.Type
sketch_member funcs (member.Resource n) = item_sketch.Resource (resource_id n)

-- the sketches of the items that an export comes to
abbrev pub export_sketches : Spaces → InlineExport → List SketchedItem
export_sketches s e = map named_sketch (items_of_members (member_of_export s e))

-- the members of exports that violate no rule
pub record AreMembers (types : List Ty) (funcs : List FuncTy) (s : Spaces)
    (es : List InlineExport) (members : List (Bor (List ℕ) × MemberEntry)) : Type 0 where
  pub same : map (named_member types funcs) members ≡ flat_map (member_of_export s) es
  pub there :
      list_all (λ e. is_member_there (length types) (length funcs) e.1) members ≡ true
