-- Keeping an answer to a request for the value on its way (CanonicalABI.md, "Storing", `trap_if`
-- behind `realloc`).
use Rattle.std.specs.Prelude.{◌≡◌, ℕ, true, List, [], ◌∷◌, ◌++◌, Some, None, length, slice_get}
use Rattle.cm_abi_model.specs.Answered.{all_requests}
use Rattle.cm_abi_model.specs.Answering.{answer_fault}
use Rattle.cm_abi_model.specs.declared.fault.AbiFault.{AbiFault}
use Rattle.cm_abi_model.specs.declared.request.Request.{Request}
use Rattle.cm_machine_model.specs.declared.event.Trap.{Trap}
use Rattle.cm_machine_model.specs.Memories.{memory_at}
use Rattle.cm_machine_model.specs.Passages.{HasAnswers, IsAnswered}
use Rattle.cm_machine_model.specs.Step.{trap_of}
use Rattle.cm_machine_parts.specs.States.{state_of}
use Rattle.cm_machine_parts.specs.declared.state.State.{State as CodedState}
use Rattle.cm_machine_calls.specs.Going.{passage_now}

-- a value is on its way, these answers are those to the first of its requests, and this one is next
pub record CanAnswer (s : CodedState) (rs : List Request) (answers : List ℕ) (r : Request) : Type 0
  where
    pub passes : s.passing.scan.has_value ≡ true
    pub all : all_requests s.passing.scan.parts ≡ rs
    pub has : HasAnswers rs answers (passage_now s)
    pub next : slice_get rs (length answers) ≡ Some r

-- the answer is kept, it will do, and nothing else is changed
pub record KeepsAnswer (old new : CodedState) (rs : List Request) (answers : List ℕ) (r : Request)
    (receiver at : ℕ) : Type 0 where
  pub is : state_of new ≡ record (state_of old) { passage = Some (passage_now new) }
  pub passes : new.passing.scan.has_value ≡ true
  pub kept : IsAnswered rs (passage_now old) at (passage_now new)
  pub has : HasAnswers rs (answers ++ at ∷ []) (passage_now new)
  pub all : all_requests new.passing.scan.parts ≡ rs
  pub source : new.passing.scan.parts.source ≡ old.passing.scan.parts.source
  pub target : new.passing.scan.parts.target ≡ old.passing.scan.parts.target
  pub lends : new.passing.scan.lends ≡ old.passing.scan.lends
  pub fine : answer_fault (length (memory_at old.memories receiver)) r at ≡ None

-- it will not do in a memory of so many bytes
abbrev pub StopsAnswer : ℕ → Request → ℕ → Trap → Type 0
StopsAnswer length r at t =
    (f : AbiFault) × (answer_fault length r at ≡ Some f) × (t ≡ trap_of f)
