-- Laws of what Answering defines, for this crate and those above it.
use Rattle.std.proofs.Common.{List, [], ◌≡◌, refl, ◌∷◌, Option, None, Some, ℕ, ◌≤◌, ◌+◌}
use Rattle.std.specs.Prelude.{not, ◌%◌, ◌==◌}
use Rattle.cm_abi_model.proofs.FaultLaws.{still_fine_by}
use Rattle.cm_abi_model.specs.Answering.{places_of, fault_before, first_fault, answer_fault}
use Rattle.cm_abi_model.specs.declared.fault.AbiFault.{AbiFault}
use Rattle.cm_abi_model.specs.declared.request.Request.{Request}

-- where nothing is answered yet, the first requests have no answers
pub none_placed : (rs : List Request) → places_of rs [] ≡ []
none_placed [] = refl
none_placed (r ∷ rs) = refl

pub before_one : (f later : Option AbiFault) → fault_before f later ≡ None → (f ≡ None) × (later ≡ None)
before_one None later h = (refl, h)
before_one (Some f) later h = absurd (cc)

pub both_none : (a b : Option AbiFault) → a ≡ None → b ≡ None → fault_before a b ≡ None
both_none a b x y = rw x y

pub still_fine : (n m : ℕ) (rs : List Request) (answers : List ℕ) → n ≤ m → first_fault n rs answers ≡ None → first_fault m rs answers ≡ None
still_fine n m [] answers le e = refl
still_fine n m (r ∷ rs) [] le e = refl
still_fine n m (r ∷ rs) (b ∷ answers) le e =
    let both = before_one (answer_fault n r b) (first_fault n rs answers) e in
    both_none (answer_fault m r b) (first_fault m rs answers) (still_fine_by n m (not (b % r.align == 0)) (b + r.size) le both.0) (still_fine n m rs answers le both.1)

pub no_fault : (n : ℕ) (rs : List Request) → first_fault n rs [] ≡ None
no_fault n [] = refl
no_fault n (r ∷ rs) = refl
