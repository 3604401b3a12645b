-- The value that a call passes (CanonicalABI.md, "Lifting and Lowering Values").
use Rattle.std.specs.Prelude.{◌+◌, ◌≤◌, ◌<◌, ◌⊎◌, List, length}
use Rattle.cm_types.specs.declared.core_value.CoreValue.{CoreValue}
use Rattle.cm_types.specs.Types.{Fields, fields, tuple_type}
use Rattle.cm_types.specs.Values.{Val}
use Rattle.cm_layout.specs.Sizes.{align_of, size_of}
use Rattle.cm_layout.specs.Flattening.{flat_of_fields}
use Rattle.cm_abi_model.specs.Numbers.{wrapped_at}
use Rattle.cm_abi_model.specs.Views.{View, Way, flat_limit}
use Rattle.cm_abi_model.specs.Texts.{IsAligned}
use Rattle.cm_abi_model.specs.Shows.{Shows}
use Rattle.cm_abi_model.specs.FlatShows.{FlatShows}

-- the core values are the tuple of the types, each in its slots
pub record FlatDenotes (w : View) (way : Way) (types : Fields) (slots : List CoreValue) (v : Val)
    : Type 0 where
  pub fits : length (flat_of_fields types) ≤ flat_limit way
  pub shown : FlatShows w slots (fields tuple_type types) 0 v

-- the types take too many core values, and one is a pointer to their tuple in memory, which is
-- aligned and lies in the memory as a whole
pub record SpilledDenotes (w : View) (way : Way) (types : Fields) (slots : List CoreValue) (v : Val)
    : Type 0 where
  pub spilled : flat_limit way < length (flat_of_fields types)
  pub aligned : IsAligned (align_of (fields tuple_type types)) (wrapped_at 4 slots 0)
  pub inside : wrapped_at 4 slots 0 + size_of (fields tuple_type types) ≤ length w.memory
  pub shown : Shows w (fields tuple_type types) (wrapped_at 4 slots 0) v

-- in a view, the core values denote a value, the tuple of these types, passed that way
abbrev pub Denotes : View → Way → Fields → List CoreValue → Val → Type 0
Denotes w way types slots v = FlatDenotes w way types slots v ⊎ SpilledDenotes w way types slots v
