-- Answers that have no fault, in a memory that may grow.
use Rattle.std.proofs.Common.{◌≡◌, ℕ, ◌+◌, ◌%◌, ◌≤◌, Bool, true, false, List, [], ◌∷◌, ◌++◌, length, Option, Some, None, refl, arith}
use Rattle.std.specs.Prelude.{◌==◌, if◌then◌else◌, nat_lt, not, slice_get}
use Rattle.std.specs.Option.{IsSomeAnd, option_map}
use Rattle.std.proofs.lemmas.Bool.{le-ltb, ltb-false}
use Rattle.cm_abi_model.specs.declared.fault.AbiFault.{AbiFault}
use Rattle.cm_abi_model.specs.declared.fault.AbiFault.TheVariants as fault
use Rattle.cm_abi_model.specs.declared.request.Request.{Request}
use Rattle.cm_abi_model.specs.Answering.{answer_fault, first_fault}
use Rattle.cm_abi_model.specs.Answered.{next_of, with_old}
use Rattle.cm_abi_model.proofs.AnsweringLaws.{both_none, still_fine, before_one}

some_fault : (f : AbiFault) → Some f ≡ None → ⊥
some_fault f is = cc

by_test : (b c d : Bool) → (if b then Some fault.Misaligned else (if c then Some fault.PointerBounds else None)) ≡ None → (c ≡ false → d ≡ false)
    → (if b then Some fault.Misaligned else (if d then Some fault.PointerBounds else None)) ≡ None
by_test true c d is less = absurd (some_fault fault.Misaligned is)
by_test false true d is less = absurd (some_fault fault.PointerBounds is)
by_test false false d is less = rw (less refl) refl

one_longer : (n m : ℕ) (r : Request) (at : ℕ) → n ≤ m → answer_fault n r at ≡ None → answer_fault m r at ≡ None
one_longer n m r at le is =
    by_test (not (at % r.align == 0)) (nat_lt n (at + r.size)) (nat_lt m (at + r.size)) is
    (λ no. let within = ltb-false n (at + r.size) no in le-ltb m (at + r.size) (omega (arith, le, within)))

-- what is said of a request is said of it with any old pointer
about : (P : Request → Type 0) (old other : List ℕ) (o : Option Request) → IsSomeAnd (option_map (with_old old) o) (λ r. P r.0) → IsSomeAnd (option_map (with_old other) o) (λ r. P r.0)
about P old other None h = h
about P old other (Some r) h = h

pub kept_fine : (n m : ℕ) (rs : List Request) (answers : List ℕ) (at : ℕ) → n ≤ m → first_fault n rs answers ≡ None
    → IsSomeAnd (next_of rs answers) (λ r. answer_fault m r.0 at ≡ None) → first_fault m rs (answers ++ at ∷ []) ≡ None
kept_fine n m [] answers at le is next = refl
kept_fine n m (r ∷ rs) [] at le is next = both_none (answer_fault m r at) (first_fault m rs []) next (still_fine n m rs [] le (nothing n rs))
  where
    nothing : (k : ℕ) (qs : List Request) → first_fault k qs [] ≡ None
    nothing k [] = refl
    nothing k (q ∷ qs) = refl
kept_fine n m (r ∷ rs) (a ∷ answers) at le is next =
    let h = before_one (answer_fault n r a) (first_fault n rs answers) is in
    both_none (answer_fault m r a) (first_fault m rs (answers ++ at ∷ [])) (one_longer n m r a le h.0)
    (kept_fine n m rs answers at le h.1 (about (λ q. answer_fault m q at ≡ None) (a ∷ answers) answers (slice_get rs (length answers)) next))
