-- Whether a component fits a world of a text (WIT.md, "Worlds"; the faults and their order are this
-- project's own choice).
use Rattle.std.specs.Prelude.{◌≡◌, ◌⊎◌, ℕ, List, [], ◌∷◌}
use Rattle.cm_types.specs.Signatures.{SignatureTy}
use Rattle.cm_wit_conforms.specs.Conformance.{Conforms, IsFirstFault}
use Rattle.cm_wit_conforms.specs.declared.fault.ConformReason.TheVariants as conform
use Rattle.cm_wit_package.specs.Packages.{IsRefused}
use Rattle.cm_wit_package.specs.Texts.{IsPackage}
use Rattle.cm_wit_signature.specs.Faults.{IsFaultOfWorld, IsWorldSignature}
use Rattle.cm_wit_reading.specs.Trees.{File}
use Rattle.cm_tool_files.specs.declared.unfit.UnfitReason.{UnfitReason}
use Rattle.cm_tool_files.specs.declared.unfit.UnfitReason.TheVariants as reason

-- A text is a package, whose world of this full name has this signature.
abbrev pub HasWorld : List ℕ → List ℕ → SignatureTy → Type 0
HasWorld text name world = (f : File) × IsPackage text f × IsWorldSignature (f ∷ []) name world

-- A signature fits the world of this full name of a text.
abbrev pub ConformsTo : List ℕ → List ℕ → SignatureTy → Type 0
ConformsTo text name have = (world : SignatureTy) × HasWorld text name world × Conforms have world

-- Why a signature does not fit the world of this full name of a text, or that memory was refused:
-- the text is no package, and this is its first fault; or it is one, and this is the fault of the
-- world; or the world has a signature, and this is the first fault against it.
abbrev pub IsUnfit : List ℕ → List ℕ → SignatureTy → UnfitReason → Type 0
IsUnfit text name have (reason.Wit e) = IsRefused text e
IsUnfit text name have (reason.World e) =
    (f : File) × IsPackage text f × IsFaultOfWorld (f ∷ []) name e
IsUnfit text name have (reason.Signature e) =
    (world : SignatureTy) × HasWorld text name world
    × ((e.reason ≡ conform.Memory) ⊎ IsFirstFault have world e.item e.reason)
IsUnfit text name have reason.Memory = Unit {0}
