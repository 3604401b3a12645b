-- A text is refused for want of memory alone, and bytes that are none at one place alone.
use Rattle.std.proofs.Common.{◌≡◌, ℕ, List, ap, arith, inl, inr}
use Rattle.std.proofs.lemmas.Bool.{cases_lt}
use Rattle.cm_text.specs.declared.fault.TextFault.{TextFault}
use Rattle.cm_text.specs.declared.fault.TextFault.TheVariants.{IllFormed, Memory}
use Rattle.cm_text.specs.Fault.{IsIllFormed, IsMemory}
use Rattle.cm_text.specs.Text.{IsText, IsTextUpTo}
use Rattle.cm_text.proofs.TextLemmas.{Laws, not_text}

pub only_memory : (has : ℕ → Type 0) (spell : ℕ → List ℕ) → Laws has spell → (fault : TextFault) (cs bytes : List ℕ)
    → IsIllFormed fault (IsTextUpTo has spell bytes) → IsText has spell cs bytes → IsMemory fault
only_memory has spell laws (IllFormed at) cs bytes up text = not_text has spell laws bytes cs at up text
only_memory has spell laws Memory cs bytes up text = tt

-- bytes are a text up to one place at most
one_place : (has : ℕ → Type 0) (spell : ℕ → List ℕ) (bytes : List ℕ) (m n : ℕ)
    → IsTextUpTo has spell bytes m → IsTextUpTo has spell bytes n → m ≡ n
one_place has spell bytes m n first second = elim (cases_lt m n) [
  | inl below ↦ absurd (first.longest n second.front.0 below second.front.1)
  | inr over ↦ elim (cases_lt n m) [
    | inl above ↦ absurd (second.longest m first.front.0 above first.front.1)
    | inr under ↦ omega arith
  ]
]

pub only_fault : (has : ℕ → Type 0) (spell : ℕ → List ℕ) (bytes : List ℕ) (fault : TextFault) (n : ℕ)
    → IsIllFormed fault (IsTextUpTo has spell bytes) → IsTextUpTo has spell bytes n → fault ≡ IllFormed n
only_fault has spell bytes (IllFormed at) n up other = ap IllFormed (one_place has spell bytes at n up other)
only_fault has spell bytes Memory n up other = absurd up
