-- Lifting what a call passes (CanonicalABI.md, "Lifting and Lowering Values").
use Rattle.std.specs.Prelude.{◌≡◌, ℕ, ◌<◌, Bool, List, map, Some}
use Rattle.cm_types.specs.declared.core_value.CoreValue.{CoreValue}
use Rattle.cm_types.specs.Types.{Fields}
use Rattle.cm_types.specs.Values.{Val}
use Rattle.cm_handles.specs.Handles.{Handles, handle_at}
use Rattle.cm_handles.specs.declared.handle.Handle.{Handle}
use Rattle.cm_abi_model.specs.declared.encoding.StringEncoding.{StringEncoding}
use Rattle.cm_abi_model.specs.Denotes.{Denotes}
use Rattle.cm_abi_model.specs.Taken.{Transferable, after_met, lent_of, met, tags_of, taken_of}
use Rattle.cm_abi_model.specs.Views.{View, Way}

-- the handles of the giver, those taken out of its table and the indices lent, each in order
pub record Hands : Type 0 where
  pub table : Handles
  pub owns : List Handle
  pub lends : List ℕ

-- each handle is lent fewer times
abbrev pub LendsBelow : ℕ → Handles → Type 0
LendsBelow n table = (index : ℕ) (h : Handle) → handle_at table index ≡ Some h → h.lends < n

-- a view of this memory, this table and this encoding
pub record IsGivenBy (w : View) (memory : List ℕ) (table : Handles) (encoding : StringEncoding)
    : Type 0 where
  pub memory_is : w.memory ≡ memory
  pub table_is : w.table ≡ table
  pub encoding_is : w.encoding ≡ encoding

-- A value was lifted in a view: the core values denote it, and it can be handed over. The handles
-- that it owns are out of the table, and those that it borrows are lent once more, in reading
-- order; no other handle is changed. The tags are those of its strings, in reading order.
pub record Lifts (w : View) (way : Way) (types : Fields) (slots : List CoreValue) (v : Val)
    (tags : List Bool) (h : Hands) : Type 0 where
  pub denoted : Denotes w way types slots v
  pub transferable : Transferable w way types slots v
  pub tagged : tags ≡ tags_of (met w way types slots v)
  pub table : h.table ≡ after_met w.table (met w way types slots v)
  pub owns : map Some h.owns ≡ map (handle_at w.table) (taken_of (met w way types slots v))
  pub lends : h.lends ≡ lent_of (met w way types slots v)
