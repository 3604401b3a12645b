-- What holds of each answer of a call.
use Rattle.std.proofs.Common.{◌≡◌, Bool, true, false, ℕ, List, ◌++◌, length, take, drop, refl, sym, subst, ◌∙◌}
use Rattle.std.proofs.Math.Seq.{take-append_seam}
use Rattle.std.proofs.lemmas.Option.{none-some}
use Rattle.std.specs.Prelude.{IfErr, IsSome, IsTrue, MatchResult, None, Option, Some, OnErr, OnOk, Result, Ok, Err}

pub match_more : {T E : Type 0} (r : Result T E) (P Q : T → Type 0) (F G : E → Type 0) → ((x : T) → P x → Q x) → ((e : E) → F e → G e) → MatchResult r P F → MatchResult r Q G
match_more (Ok x) P Q F G ok err m = ok x m
match_more (Err e) P Q F G ok err m = err e m

pub err_more : {T E P Q : Type 0} (r : Result T E) → (P → Q) → OnErr r P → OnErr r Q
err_more (Ok x) f m = m
err_more (Err e) f m = f m

-- what a success leaves and what an error says, in one
pub match_of : {T E P Q : Type 0} (r : Result T E) (F : E → Type 0) → (P → Q) → OnOk r P → IfErr r F → MatchResult r (λ _. Q) F
match_of (Ok x) F f ok err = f ok
match_of (Err e) F f ok err = err

pub not_true : (b : Bool) → b ≡ false → IsTrue b → ⊥
not_true true is t = absurd (cc)
not_true false is t = cc

-- what a borrower wrote, as the owner has it again
pub written_back : {X : Type 0} (n : ℕ) (old new : List X) → n ≡ length old → length new ≡ length old → take n (new ++ drop (length new) old) ≡ new
written_back n old new is same = subst (λ (k : ℕ). take k (new ++ drop (length new) old) ≡ new) (same ∙ sym is) (take-append_seam new (drop (length new) old))

pub some_is : {X : Type 0} (o : Option X) (x : X) → o ≡ Some x → IsSome o
some_is None x is = absurd (none-some x is)
some_is (Some y) x is = refl
