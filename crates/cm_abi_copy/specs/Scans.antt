-- Scanning what a call passes, by the walk of the code (CanonicalABI.md, "Lifting and Lowering
-- Values").
use Rattle.std.specs.Prelude.{◌≡◌, ℕ, ◌+◌, List, [], Ok, ◌⊎◌}
use Rattle.cm_types.specs.declared.core_value.CoreValue.{CoreValue}
use Rattle.cm_types.specs.Types.{Fields}
use Rattle.cm_types.specs.Values.{Val}
use Rattle.cm_handles.specs.Handles.{Handles}
use Rattle.cm_layout.specs.Shapes.{LayoutTy, layout_of_fields_at}
use Rattle.cm_abi_model.specs.declared.encoding.StringEncoding.{StringEncoding}
use Rattle.cm_abi_model.specs.declared.fault.AbiFault.{AbiFault}
use Rattle.cm_abi_model.specs.declared.fault.AbiFault.TheVariants as fault
use Rattle.cm_abi_model.specs.Answered.{unanswered}
use Rattle.cm_abi_model.specs.Denotes.{Denotes}
use Rattle.cm_abi_model.specs.LiftStops.{LiftStops}
use Rattle.cm_abi_model.specs.Receives.{leaves_in}
use Rattle.cm_abi_model.specs.Requests.{call_parts, tuple_of}
use Rattle.cm_abi_model.specs.Scanned.{Scanned}
use Rattle.cm_abi_model.specs.Taken.{MAX_CONTENT, Transferable}
use Rattle.cm_abi_model.specs.Views.{View}
use Rattle.cm_abi_model.specs.Ways.{way_of}
use Rattle.cm_abi_load.specs.Outcomes.{State}
use Rattle.cm_abi_load.specs.Reading.{Source}
use Rattle.cm_abi_lift.specs.FlatReading.{read_passed}
use Rattle.cm_abi_lift.specs.FlatRecords.{passed_records}
use Rattle.cm_abi_lift.specs.Lifts.{fresh}
use Rattle.cm_abi_lift.specs.declared.passed.Passed.{Passed}

-- what is read from
abbrev pub giver_of : List ℕ → Handles → StringEncoding → Source
giver_of memory table encoding = record { memory = memory; table = table; encoding = encoding }

-- What is kept of a value that was scanned: a record of each part, with the requests for them, none
-- of them answered, from one encoding to another; its handles, each as its type has it, in reading
-- order; and how many bytes its strings and lists are. No numbers were given.
pub record IsKept (w : Source) (target : StringEncoding) (limit : ℕ) (l : LayoutTy)
    (slots : List CoreValue) (v : Val) (s : Scanned) : Type 0 where
  pub parts : s.parts ≡ unanswered (passed_records w target limit l slots v) w.encoding target
  pub handles : (types : Fields) → l ≡ layout_of_fields_at types
      → s.handles ≡ leaves_in (tuple_of types) v
  pub after : State
  pub read : read_passed w limit l slots fresh ≡ Ok (v, after)
  pub content : s.content + after.left ≡ MAX_CONTENT
  pub not_given : s.numbers ≡ []

-- Nothing is to be kept of what core values pass: a value is read, it has no part, and no handle is
-- met.
pub record KeepsNothing (w : Source) (target : StringEncoding) (limit : ℕ) (l : LayoutTy)
    (slots : List CoreValue) : Type 0 where
  pub v : Val
  pub after : State
  pub read : read_passed w limit l slots fresh ≡ Ok (v, after)
  pub parts : passed_records w target limit l slots v ≡ []
  pub handles : after.handles ≡ []

-- Why what is passed is not scanned in a view.
pub record IsFaultOfScan (w : View) (types : Fields) (passed : Passed) (f : AbiFault)
    : Type 0 where
  -- it is the first in reading order that is wrong, or there is no memory
  pub first : (f ≡ fault.EngineMemory)
      ⊎ LiftStops w (way_of passed.way) types passed.slots.now f
  -- of a value that has no part and no handle there is none
  pub something : (v : Val) → Denotes w (way_of passed.way) types passed.slots.now v
      → call_parts (way_of passed.way) types v ≡ [] → leaves_in (tuple_of types) v ≡ [] → ⊥
  -- of a value that can be handed over there is none but that there is no memory
  pub memory : (v : Val) → Denotes w (way_of passed.way) types passed.slots.now v
      → Transferable w (way_of passed.way) types passed.slots.now v → f ≡ fault.EngineMemory
