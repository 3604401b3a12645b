-- Pieces of a file, one after another.
use Rattle.std.specs.Prelude.{◌≡◌, ◌⊎◌, ◌↔◌, ℕ, ◌+◌, List, ◌++◌, length, None, Err, IsErrAnd}
use Rattle.cm_binary_forms.specs.declared.fault.DecodeFault.{DecodeFault}
use Rattle.cm_binary_forms.specs.declared.fault.DecodeReason.TheVariants.{Memory}
use Rattle.cm_binary.specs.Answers.{AreBytes, IsAnswer}
use Rattle.cm_binary.specs.After.{Held, Answer, After}

-- The answer is what the bytes come to, or that memory was refused.
abbrev pub Decodes : List ℕ → Answer → Type 0
Decodes bytes answer = IsErrAnd answer (λ f. f.reason ≡ Memory) ⊎ IsAnswer bytes answer

-- The fault is the first one of these bytes whatever follows them.
abbrev pub StaysFault : List ℕ → DecodeFault → Type 0
StaysFault bytes f = (more : List ℕ) → AreBytes (bytes ++ more) → IsAnswer (bytes ++ more) (Err f)

-- No fault is the first one of these bytes whatever follows them.
abbrev pub IsOpen : List ℕ → Type 0
IsOpen bytes = (f : DecodeFault) → StaysFault bytes f → ⊥

-- These bytes have come, of which the last ones were not fed yet: whatever follows, the answer is
-- that of all of them.
pub record HasCome (d : Held) (unfed bytes : List ℕ) : Type 0 where
  pub fed : List ℕ
  pub parts : bytes ≡ fed ++ unfed
  pub are_bytes : AreBytes bytes
  pub counted : d.fault ≡ None → d.read.offset + length d.kept ≡ length fed
  pub answers : (more : List ℕ) (answer : Answer) → AreBytes (bytes ++ more)
      → After d (unfed ++ more) answer ↔ IsAnswer (bytes ++ more) answer
