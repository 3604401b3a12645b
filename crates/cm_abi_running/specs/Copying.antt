-- What values are copied from, and what they are given where they go.
use Rattle.std.specs.Prelude.{ℕ, List, map}
use Rattle.cm_types.specs.Values.{Val}
use Rattle.cm_layout.specs.Shapes.{Shape}
use Rattle.cm_abi_model.specs.declared.encoding.StringEncoding.{StringEncoding}
use Rattle.cm_abi_model.specs.Stores.{Given}
use Rattle.cm_abi_model.specs.declared.record.PartRecord.{PartRecord}
use Rattle.cm_abi_store.specs.Storing.{given_of}
use Rattle.cm_abi_running.specs.declared.copier.Copier.{Copier}
use Rattle.cm_abi_running.specs.Shown.{value_at}

-- The memory that values are copied from, and how strings are encoded there; what the values are
-- given where they go; and how many bytes each part takes there.
pub record Copying : Type 0 where
  pub memory : List ℕ
  pub encoding : StringEncoding
  pub given : Given
  pub sizes : List ℕ

-- how many bytes a part takes where it is stored, by its record
abbrev pub size_kept : PartRecord → ℕ
size_kept r = r.size

-- that of the code's
abbrev pub copying_of : Copier → Copying
copying_of c =
    record {
      memory = c.memory.now;
      encoding = c.encoding;
      given = given_of c.target;
      sizes = map size_kept c.records.now;
    }

-- the value that the source shows at an address
abbrev pub shown_to : Copying → Shape → ℕ → Val
shown_to c sh p = value_at c.memory c.encoding sh p

-- what is copied from there, where this is given
abbrev pub given_for : Copying → Given → Copying
given_for c g = record c { given = g }
