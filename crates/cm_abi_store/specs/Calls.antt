-- What the values of a call are stored by (CanonicalABI.md, "Lifting and Lowering Values").
use Rattle.std.specs.Prelude.{ℕ, ◌+◌, ◌<◌, ◌≤◌, length}
use Rattle.cm_types.specs.Types.{Fields}
use Rattle.cm_types.specs.Values.{Val, HasType}
use Rattle.cm_layout.specs.Laid.{Laid}
use Rattle.cm_layout.specs.Shapes.{LayoutTy}
use Rattle.cm_abi_model.specs.declared.encoding.StringEncoding.{StringEncoding}
use Rattle.cm_abi_model.specs.Parts.{handle_count}
use Rattle.cm_abi_model.specs.Receives.{call_kinds}
use Rattle.cm_abi_model.specs.Regions.{ArePlaced}
use Rattle.cm_abi_model.specs.Requests.{call_parts, tuple_of}
use Rattle.cm_abi_model.specs.Stores.{Given, place_of}
use Rattle.cm_abi_model.specs.Views.{Way}
use Rattle.cm_abi_store.specs.Fitting.{Fits}
use Rattle.cm_abi_store.specs.FlatLowering.{IsPassedIn}

-- A value of the types of a call can be stored in a memory of so many bytes and passed in so many
-- slots: each of its parts has a place in the memory, each of its handles a number, and there is a
-- slot for each core value.
pub record IsProvided (way : Way) (types : Fields) (v : Val) (target : StringEncoding) (g : Given)
    (memory_length slot_count : ℕ) : Type 0 where
  pub typed : HasType (tuple_of types) v
  pub placed : ArePlaced target memory_length g 0 (call_parts way types v)
  pub places : length (call_parts way types v) ≤ length g.places
  pub numbers : handle_count v ≤ length g.numbers
  pub slots : length (call_kinds way types) ≤ slot_count

-- The tuple of the values can be stored by this layout in a memory of so many bytes: it is the
-- first part, whose place is in the memory, and the parts of the values follow it; of so many slots
-- the first is for its place.
pub record IsSpilledTuple (l : LayoutTy) (v : Val) (g : Given) (memory_length slot_count : ℕ)
    : Type 0 where
  pub laid : Laid l.head.size l.shape
  pub inside : place_of g 0 + l.head.size ≤ memory_length
  pub fits : Fits memory_length g l.shape v 1 0
  pub place : 0 < length g.places
  pub slot : 0 < slot_count

-- The values of the tuple can be passed by this layout in so many slots, and what is behind them
-- stored in a memory of so many bytes.
pub record IsFlatTuple (l : LayoutTy) (v : Val) (g : Given) (memory_length slot_count : ℕ)
    : Type 0 where
  pub passed : IsPassedIn l.head.width l.shape
  pub inside : l.head.width ≤ slot_count
  pub fits : Fits memory_length g l.shape v 0 0
