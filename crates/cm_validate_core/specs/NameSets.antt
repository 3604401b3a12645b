-- Sets of names, ASCII case aside.
use Rattle.std.specs.Prelude.{◌≡◌, ◌||◌, Bool, ℕ, List, not}
use Rattle.std.specs.List.{list_any}
use Rattle.std.specs.Str.{bytes_eq}
use Rattle.cm_types.specs.Names.{is_same_name}
use Rattle.cm_names.specs.TextTables.{texts_of}
use Rattle.cm_validate_model.specs.declared.fault.ValidReason.{ValidReason}
use Rattle.cm_validate_model.specs.declared.fault.ValidReason.TheVariants as reason
use Rattle.cm_validate_model.specs.Reasons.{unless}
use Rattle.cm_validate_core.specs.Names.{without_case}
use Rattle.cm_validate_core.specs.declared.name_set.NameSet.{NameSet}
use Rattle.cm_validate_core.specs.declared.names.FoldedName.{FoldedName}

-- the name, as it is written
abbrev pub name_of : FoldedName → List ℕ
name_of f = f.name

-- whether a set has a name
abbrev pub is_known : NameSet → List ℕ → Bool
is_known s name = list_any (bytes_eq (without_case name)) (texts_of s.folded)

-- the rules that a name violates after those of a set
abbrev pub known_broken : List ℕ → NameSet → List ValidReason
known_broken name s = unless (not (is_known s name)) reason.DuplicateName

-- a set has just these names
abbrev pub Knows : NameSet → List (List ℕ) → Type 0
Knows s names = (name : List ℕ) → is_known s name ≡ list_any (is_same_name name) names

-- a set has the names of an earlier one
abbrev pub KnowsSame : NameSet → NameSet → Type 0
KnowsSame old new = (name : List ℕ) → is_known new name ≡ is_known old name

-- a set has the names of an earlier one, and these
abbrev pub KnowsMore : NameSet → NameSet → List (List ℕ) → Type 0
KnowsMore old new names =
    (name : List ℕ)
    → is_known new name ≡ (is_known old name || list_any (is_same_name name) names)
