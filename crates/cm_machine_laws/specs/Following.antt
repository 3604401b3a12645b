-- What is known of the calls that go on: which values were sent and returned, what is on its way of
-- them, and which requests of theirs were made and answered (this project's own choice).
use Rattle.std.specs.Prelude.{◌≡◌, ⊤, List, [], ◌∷◌, length, Option, Some, None}
use Rattle.cm_types.specs.declared.core_value.CoreValue.{CoreValue}
use Rattle.cm_types.specs.Values.{Val}
use Rattle.cm_abi_model.specs.Views.{params, results}
use Rattle.cm_machine_model.specs.Memories.{memory_at}
use Rattle.cm_machine_model.specs.declared.frame.Call.{Call}
use Rattle.cm_machine_model.specs.declared.frame.Frame.{Frame}
use Rattle.cm_machine_model.specs.declared.frame.Phase.TheVariants as phase
use Rattle.cm_machine_model.specs.declared.frame.Purpose.TheVariants as purpose
use Rattle.cm_machine_model.specs.Passages.{Carries, HasAnswers, asked_for}
use Rattle.cm_machine_model.specs.State.{Passage, State}
use Rattle.cm_machine_laws.specs.Doing.{Asked, BodyReturn, Doing, LoweredCall, body, destroys}
use Rattle.cm_machine_laws.specs.Doing.{handing, placing, root, tidying}
use Rattle.cm_machine_model.specs.Stack.{top_of}
use Rattle.cm_machine_model.specs.Step.{as_values}
use Rattle.cm_machine_laws.specs.Entries.{ReceivesResult}
use Rattle.cm_machine_laws.specs.Told.{AsksFor, WasReturned, WasSent, answered_before, answers_back}
use Rattle.cm_machine_laws.specs.Told.{answers_in, returned_requests, sent_requests, sent_slots}

-- Of what was asked the latest is open, and all before it is answered.
abbrev pub IsOneOpen : List Asked → Type 0
IsOneOpen [] = ⊥
IsOneOpen (a ∷ earlier) = (a.answer ≡ None) × (length (answers_in earlier) ≡ length earlier)

-- The arguments of a call are being placed: the value that was sent is on its way, as the caller's
-- memory shows it still, and so far it was asked for as told.
pub record IsPlacing (s : State) (x : LoweredCall) (asked : List Asked) : Type 0 where
  pub v : Val
  pub sent : WasSent x v
  pub passage : Passage
  pub passage_is : s.passage ≡ Some passage
  pub slots_are : passage.slots ≡ sent_slots x
  pub carried : Carries (memory_at s.memories x.caller) x.link params passage v
  pub requests_are : asked_for x.link params passage v ≡ sent_requests x v
  pub answered : HasAnswers (sent_requests x v) (answers_in asked) passage
  pub so_far : AsksFor (sent_requests x v) [] asked
  pub one_open : IsOneOpen asked

-- The arguments of a call were placed: all of the value was asked for and answered.
pub record WasPlaced (x : LoweredCall) (asked : List Asked) : Type 0 where
  pub v : Val
  pub sent : WasSent x v
  pub so_far : AsksFor (sent_requests x v) [] asked
  pub all : length asked ≡ length (sent_requests x v)

-- The result of a call is being placed, as its arguments were; the callee gives it.
pub record IsHanding (s : State) (x : LoweredCall) (r : BodyReturn) (more : List Asked)
    : Type 0 where
  pub v : Val
  pub returned : WasReturned x r v
  pub passage : Passage
  pub callee_is : r.callee ≡ x.link.instance
  pub passage_is : s.passage ≡ Some passage
  pub slots_are : passage.slots ≡ r.values
  pub carried : Carries (memory_at s.memories x.link.instance) x.link results passage v
  pub requests_are : asked_for x.link results passage v ≡ returned_requests x r v
  pub answered : HasAnswers (returned_requests x r v) (answers_back x more) passage
  pub so_far : AsksFor (returned_requests x r v) (answered_before x) more
  pub one_open : IsOneOpen more

-- The result of a call was placed.
pub record WasHanded (x : LoweredCall) (r : BodyReturn) (more : List Asked) : Type 0 where
  pub v : Val
  pub returned : WasReturned x r v
  pub so_far : AsksFor (returned_requests x r v) (answered_before x) more
  pub all : length (answers_back x more) ≡ length (returned_requests x r v)

-- The result of a call stands with the caller while the callee tidies up, and the frame on top
-- keeps the core values that the caller gets back.
pub record IsKept (s : State) (x : LoweredCall) (r : BodyReturn) (more : List Asked)
    : Type 0 where
  pub v : Val
  pub returned : WasReturned x r v
  pub callee_is : r.callee ≡ x.link.instance
  pub result : Option CoreValue
  pub with_frame : (f : Frame) (call : Call) (other : Option CoreValue)
      → top_of s.stack ≡ Some f → f.purpose ≡ purpose.Call call
      → call.phase ≡ phase.PostReturn other → other ≡ result
  pub received : ReceivesResult s x r more (as_values result) v

-- what is known of the latest that goes on
abbrev pub IsFollowed : State → Doing → Type 0
IsFollowed s (root i) = ⊤
IsFollowed s (placing x asked) = IsPlacing s x asked
IsFollowed s (body x asked) = WasPlaced x asked
IsFollowed s (handing x asked r more) = WasPlaced x asked × IsHanding s x r more
IsFollowed s (tidying x asked r more) =
    WasPlaced x asked × WasHanded x r more × IsKept s x r more
IsFollowed s (destroys dropper i) = ⊤

-- what is known of what goes on below it, which made a call
abbrev pub IsBelow : Doing → Type 0
IsBelow (root i) = ⊤
IsBelow (placing x asked) = ⊥
IsBelow (body x asked) = WasPlaced x asked
IsBelow (handing x asked r more) = ⊥
IsBelow (tidying x asked r more) = ⊥
IsBelow (destroys dropper i) = ⊤

abbrev pub AreBelow : List Doing → Type 0
AreBelow [] = ⊤
AreBelow (d ∷ ds) = IsBelow d × AreBelow ds

-- All that goes on is followed.
abbrev pub AreFollowed : State → List Doing → Type 0
AreFollowed s [] = ⊤
AreFollowed s (d ∷ ds) = IsFollowed s d × AreBelow ds
