-- The keys by which the instances of a world are found, and what they use.
use Rattle.std.specs.Prelude.{ℕ, Bool, true, false, List, Option, codes}
use Rattle.std.specs.Option.{option_map}
use Rattle.cm_names.specs.Keys.{Key}
use Rattle.cm_wit_reading.specs.Trees.{UsedName}
use Rattle.cm_wit_tables.specs.Declarations.{Declaration, brought}
use Rattle.cm_wit_tables.specs.Worlds.{Instance, used_as}

-- the word for a side
abbrev pub side_word : Bool → List ℕ
side_word true = codes "export"
side_word false = codes "import"

-- the key of an instance: its interface, and its side
abbrev pub instance_key : Instance → Key
instance_key x = (x.interface, side_word x.exported)

-- a used type, in the list of this number, of the list that has it, if there is one
abbrev pub brought_from : ℕ → Option ℕ → UsedName → Declaration
brought_from l from u = record {
  in_list = l;
  name = used_as u;
  is = brought (option_map (λ i. (i, u.name)) from);
}
