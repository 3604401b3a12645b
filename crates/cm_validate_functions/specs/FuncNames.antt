-- The names of functions as users write them: `interface#function`, or the name of a function that
-- stands alone (this project's own choice, after the names that tools give to core functions).
use Rattle.std.specs.Prelude.{ℕ, ◌==◌, Bool, List, Option, Some, None, if◌then◌else◌}
use Rattle.std.specs.List.{list_any, before_first, after_first}
use Rattle.cm_validate_functions.specs.declared.names.FuncName.{FuncName}
use Rattle.std.specs.Option.{option_map}

-- the name of a function: that of its interface, if it is in one, and its own
pub record NameParts : Type 0 where
  pub interface : Option (List ℕ)
  pub name : List ℕ

-- the mark between the two
abbrev pub is_hash : ℕ → Bool
is_hash b = b == 35

-- what a text names
abbrev pub parts_of : List ℕ → NameParts
parts_of text =
    if list_any is_hash text
    then record {
      interface = Some (before_first is_hash text);
      name = after_first is_hash text;
    }
    else record { interface = None; name = text }

-- what the code's name is
abbrev pub name_parts : FuncName → NameParts
name_parts n = record { interface = option_map (λ i. i.now) n.interface; name = n.name.now }
