-- Copying the values of a call to its receiver (CanonicalABI.md, "Lifting and Lowering Values").
use Rattle.std.specs.Prelude.{◌≡◌, ℕ, List, None}
use Rattle.cm_types.specs.declared.core_value.CoreKind.{CoreKind}
use Rattle.cm_types.specs.declared.core_value.CoreValue.{CoreValue}
use Rattle.cm_types.specs.Types.{Fields}
use Rattle.cm_types.specs.Values.{Val}
use Rattle.cm_handles.specs.Handles.{Handles}
use Rattle.cm_layout.specs.Layouts.{layout_of}
use Rattle.cm_layout.specs.Shapes.{layout_of_fields_at}
use Rattle.cm_abi_model.specs.Answered.{IsAllAnswered, Requesting, all_requests}
use Rattle.cm_abi_model.specs.Answering.{first_fault}
use Rattle.cm_abi_model.specs.Copies.{IsReceivingIn, PartsAreApart, given_by, handles_of_values}
use Rattle.cm_abi_model.specs.Giving.{Gives}
use Rattle.cm_abi_model.specs.Receives.{NoneImplemented, Passes, Receives, call_bytes, call_kinds}
use Rattle.cm_abi_model.specs.Scanned.{GoesOn, Scanned}
use Rattle.cm_abi_model.specs.Stores.{Framed}
use Rattle.cm_abi_model.specs.Views.{View, Way}
use Rattle.cm_abi_model.specs.Ways.{way_of}
use Rattle.cm_abi_model.specs.declared.receiver.Receiver.{Receiver}
use Rattle.cm_abi_copy.specs.declared.found.Found.{Found}

-- A value that was scanned can be copied into a memory of so many bytes, and passed in core values
-- of these kinds: the layout is that of the types, and the memory is the giver's, where the value
-- goes on as it was found; all its requests are answered, each answer is aligned with its region in
-- the memory, and the kinds are those of its types.
pub record FoundCanBeCopied (memory_length : ℕ) (kinds : List CoreKind) (giver : View) (f : Found)
    (s : Scanned) (answers : List ℕ) (types : Fields) (v : Val) : Type 0 where
  pub layout : layout_of f.passed.layout.now ≡ layout_of_fields_at types
  pub memory : giver.memory ≡ f.memory.now
  pub found : GoesOn giver (way_of f.passed.way) types f.passed.slots.now v s
  pub answered : IsAllAnswered s.parts answers
  pub fine : first_fault memory_length (all_requests s.parts) answers ≡ None
  pub kinds_are : kinds ≡ call_kinds (way_of f.passed.way) types

-- A value was copied to its receiver: its memory, its table and the core values pass the value, the
-- memory is changed by the bytes of the value alone, and the table by its handles.
pub record IsCopied (to : Receiver) (way : Way) (types : Fields) (v : Val) (parts : Requesting)
    (answers : List ℕ) (before after : List ℕ) (old new : Handles) (slots : List CoreValue)
    (numbers : List ℕ) : Type 0 where
  -- the regions of its parts have no address in common
  pub apart : PartsAreApart parts answers
  -- the receiver has the value: each part at its answer, each handle by its number
  pub received : (w : View) → IsReceivingIn w parts.target to after new
      → Receives w way types slots (given_by parts answers types v to old) v
  -- the core values denote it in the receiver's view, where that implements the resource of none of
  -- its handles
  pub denoted : (w : View) → IsReceivingIn w parts.target to after new
      → w.encoding ≡ parts.target → NoneImplemented w (handles_of_values types v)
      → Passes w way types slots v
  -- the bytes of the value were written, each at its address, and no other byte
  pub framed : Framed before after (call_bytes (given_by parts answers types v to old) way types v)
  -- exactly its handles were added to the table, under these numbers
  pub gives : Gives to old new (handles_of_values types v) numbers
