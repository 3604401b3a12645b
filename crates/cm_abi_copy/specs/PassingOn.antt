-- What is known of the values of a call that are to be copied (CanonicalABI.md, "Lifting and
-- Lowering Values").
use Rattle.std.specs.Prelude.{◌≡◌, ℕ, List}
use Rattle.cm_types.specs.Types.{Fields}
use Rattle.cm_types.specs.Values.{Val}
use Rattle.cm_layout.specs.Layouts.{layout_of}
use Rattle.cm_layout.specs.Shapes.{layout_of_fields_at}
use Rattle.cm_abi_model.specs.Denotes.{Denotes}
use Rattle.cm_abi_model.specs.Requests.{call_parts}
use Rattle.cm_abi_model.specs.Views.{View}
use Rattle.cm_abi_model.specs.Ways.{way_of}
use Rattle.cm_abi_lift.specs.declared.passed.Passed.{Passed}
use Rattle.cm_abi_model.specs.Telling.{TellAll}
use Rattle.cm_abi_store.specs.Calls.{IsProvided}
use Rattle.cm_abi_store.specs.Storing.{given_of}
use Rattle.cm_abi_running.specs.declared.copier.Copier.{Copier}

-- Values that core values pass can be passed on, to a receiver with so many bytes of memory and so
-- many slots: the layout is that of the tuple of their types; in some view of the source, whichever
-- handles its table has, the core values denote them; the records tell their parts, wherever these
-- begin; each part has a place, each handle a number, and each core value a slot.
pub record CanBePassedOn (memory_length slot_count : ℕ) (from : Copier) (passed : Passed)
    (types : Fields) (v : Val) : Type 0 where
  pub layout : layout_of passed.layout.now ≡ layout_of_fields_at types
  pub view : View
  pub memory : view.memory ≡ from.memory.now
  pub encoding : view.encoding ≡ from.encoding
  pub denoted : Denotes view (way_of passed.way) types passed.slots.now v
  pub starts : List ℕ
  pub told : TellAll view from.target.encoding from.records.now
      (call_parts (way_of passed.way) types v) starts
  pub provided : IsProvided (way_of passed.way) types v from.target.encoding
      (given_of from.target) memory_length slot_count
