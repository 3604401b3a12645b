-- The parameters of a call that are copied (CanonicalABI.md, "Lifting and Lowering Values").
use Rattle.std.specs.Prelude.{◌≡◌, ◌⊎◌, ◌≤◌, ◌^◌, ⊤, ℕ, List, length, map, take, slice_get, None}
use Rattle.std.specs.Prelude.{Some}
use Rattle.cm_types.specs.Types.{Fields}
use Rattle.cm_types.specs.Values.{Val}
use Rattle.cm_types.specs.declared.core_value.CoreValue.{CoreValue}
use Rattle.cm_handles.specs.Handles.{Handles}
use Rattle.cm_abi_copy.specs.Copies.{IsCopied}
use Rattle.cm_abi_model.specs.Answered.{Requesting, all_requests}
use Rattle.cm_abi_model.specs.Answering.{answer_fault, first_fault}
use Rattle.cm_abi_model.specs.Copies.{IsFaultOfCopying, handles_of_values}
use Rattle.cm_abi_model.specs.Numbers.{slot_number}
use Rattle.cm_abi_model.specs.Views.{params}
use Rattle.cm_abi_model.specs.declared.encoding.StringEncoding.{StringEncoding}
use Rattle.cm_abi_model.specs.declared.fault.AbiFault.{AbiFault}
use Rattle.cm_abi_model.specs.declared.receiver.Receiver.{Receiver}
use Rattle.cm_abi_model.specs.declared.request.Request.{Request}
use Rattle.huxarte_c_calls.specs.declared.call.Call.{Call}
use Rattle.huxarte_c_calls.specs.declared.fault.CallFault.{CallFault}
use Rattle.huxarte_c_calls.specs.declared.fault.CallFault.TheVariants as fault
use Rattle.huxarte_c_calls.specs.declared.handles.HuxHandle.{HuxHandle}
use Rattle.huxarte_c_calls.specs.Asking.{IsPassed, IsValueRefusal, requests_of}
use Rattle.huxarte_c_calls.specs.HandedOver.{IsTableFault, handles_of}
use Rattle.huxarte_c_calls.specs.Texts.{written}

-- ---- answers

-- Answer k, from 0, is the first that will not do in a memory of so many bytes.
pub record IsFirstBad (memory_length : ℕ) (rs : List Request) (answers : List ℕ) (k : ℕ)
    (f : AbiFault) : Type 0 where
  pub before : first_fault memory_length rs (take k answers) ≡ None
  pub request : Request
  pub asked : slice_get rs k ≡ Some request
  pub answer : ℕ
  pub given : slice_get answers k ≡ Some answer
  pub fails : answer_fault memory_length request answer ≡ Some f

-- why answers to requests are refused: the first that will not do, or there are not as many
abbrev pub AreBadAnswers : ℕ → List Request → List ℕ → CallFault → Type 0
AreBadAnswers memory_length rs answers (fault.Answer k f) =
    IsFirstBad memory_length rs answers k f
AreBadAnswers memory_length rs answers (fault.Answers n) =
    (n ≡ length answers) × (length answers ≡ length rs → ⊥)
AreBadAnswers memory_length rs answers _ = ⊥

-- ---- a copy

-- Values of these types were copied to their receiver, which answered all requests for their parts:
-- its memory, its table and the core values pass the values, nothing else of the memory is changed,
-- and the numbers stand for their handles.
pub record AreCopied (to : Receiver) (target : StringEncoding) (types : Fields) (v : Val)
    (rs : List Request) (answers : List ℕ) (before after : List ℕ) (old new : Handles)
    (slots : List CoreValue) (numbers : List ℕ) : Type 0 where
  pub all_answered : length answers ≡ length rs
  pub fine : first_fault (length before) rs answers ≡ None
  pub parts : Requesting
  pub asked : all_requests parts ≡ rs
  pub stored_in : parts.target ≡ target
  pub copied : IsCopied to params types v parts answers before after old new slots numbers

-- why they are not copied, in a memory of so many bytes
abbrev pub AreNotCopied : Receiver → Fields → Val → List Request → List ℕ → ℕ → Handles
    → CallFault → Type 0
AreNotCopied to types v rs answers memory_length table fault.TooLarge = 2 ^ 32 ≤ memory_length
AreNotCopied to types v rs answers memory_length table (fault.Value f) =
    (p : Requesting) × (all_requests p ≡ rs)
    × IsFaultOfCopying p answers to table (handles_of_values types v) f
AreNotCopied to types v rs answers memory_length table r =
    AreBadAnswers memory_length rs answers r

-- ---- what C sees

-- what a copy writes to: the memory of the callee, the slots of its core values, and the numbers
-- that stand for handles
pub record Room : Type 0 where
  pub memory : List ℕ
  pub slots : List ℕ
  pub numbers : List ℕ

-- Values were copied into rooms of C's: the slots have the numbers of the core values that pass
-- them, and as many of the numbers of their handles as there is room for are written.
pub record AreDelivered (c : Call) (to : Receiver) (types : Fields) (v : Val) (rs : List Request)
    (handles : List HuxHandle) (answers : List ℕ) (before after : Room) (wanted : ℕ)
    : Type 0 where
  pub table : Handles
  pub core_values : List CoreValue
  pub numbers : List ℕ
  pub copied : AreCopied to c.encodings.target types v rs answers before.memory after.memory
      (handles_of handles) table core_values numbers
  pub slots_are : after.slots ≡ map slot_number core_values
  pub numbers_are : after.numbers ≡ written before.numbers numbers
  pub wanted_is : wanted ≡ length numbers

-- why they were not, into a memory of so many bytes
abbrev pub AreUndelivered : Receiver → Fields → Val → List Request → List HuxHandle → List ℕ → ℕ
    → CallFault → Type 0
AreUndelivered to types v rs handles answers memory_length (fault.Handles f) =
    IsTableFault handles f
AreUndelivered to types v rs handles answers memory_length fault.Memory = ⊤
AreUndelivered to types v rs handles answers memory_length r =
    AreNotCopied to types v rs answers memory_length (handles_of handles) r

-- The parameters of a call were copied: its core values denote a value of these types in the view
-- of its giver, with this memory and these handles, and it is this value that was delivered.
pub record IsCopy (c : Call) (memory : List ℕ) (handles : List HuxHandle) (types : Fields)
    (to : Receiver) (callee_handles : List HuxHandle) (answers : List ℕ) (before after : Room)
    (wanted : ℕ) : Type 0 where
  pub value : Val
  pub passed : IsPassed c memory handles types value
  pub delivered : AreDelivered c to types value (requests_of c memory handles types value)
      callee_handles answers before after wanted

-- a value is passed, and was not delivered for this reason
pub record IsUndelivered (c : Call) (memory : List ℕ) (handles : List HuxHandle) (types : Fields)
    (to : Receiver) (callee_handles : List HuxHandle) (answers : List ℕ) (memory_length : ℕ)
    (r : CallFault) : Type 0 where
  pub value : Val
  pub passed : IsPassed c memory handles types value
  pub fails : AreUndelivered to types value (requests_of c memory handles types value)
      callee_handles answers memory_length r

-- there are not as many slots as core values pass the parameters
abbrev pub HasNoSlots : Call → Room → CallFault → Type 0
HasNoSlots c room fault.NoSlots = length room.slots ≡ length c.kinds.items → ⊥
HasNoSlots c room _ = ⊥

-- why the parameters of a call are not copied
abbrev pub IsNoCopy : Call → List ℕ → List HuxHandle → Fields → Receiver → List HuxHandle
    → List ℕ → Room → CallFault → Type 0
IsNoCopy c memory handles types to callee_handles answers room r =
    HasNoSlots c room r ⊎ (IsValueRefusal c memory handles types r
    ⊎ IsUndelivered c memory handles types to callee_handles answers (length room.memory) r)
