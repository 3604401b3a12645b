-- Candidates by two tests that no export passes both.
use Rattle.std.proofs.Common.{◌≡◌, ◌∙◌, ℕ, Bool, true, false, List, [], ◌∷◌, refl, sym, ap, filter, inl, inr}
use Rattle.std.proofs.lemmas.Bool.{cases_Bool}
use Rattle.std.specs.Prelude.{◌||◌, ◌&&◌}
use Rattle.cm_match_model.specs.declared.candidates.Candidate.{Candidate}
use Rattle.cm_match_model.specs.declared.candidates.Candidate.TheVariants as candidate
use Rattle.cm_match_model.specs.Fitting.{NamedExport, only}
use Rattle.cm_match_model.specs.Fitting.{and_also}

and_several : (c : Candidate) → and_also candidate.Several c ≡ candidate.Several
and_several candidate.None = refl
and_several (candidate.One a b) = refl
and_several candidate.Several = refl

-- one more in front
front : (e : NamedExport) (es : List NamedExport) → only (e ∷ es) ≡ and_also (candidate.One e.component e.number) (only es)
front e [] = refl
front e (x ∷ []) = refl
front e (x ∷ y ∷ es) = refl

left : (a b c : Candidate) → and_also (and_also a b) c ≡ and_also a (and_also b c)
left candidate.None b c = refl
left (candidate.One x y) candidate.None c = refl
left (candidate.One x y) (candidate.One z w) candidate.None = refl
left (candidate.One x y) (candidate.One z w) (candidate.One u v) = refl
left (candidate.One x y) (candidate.One z w) candidate.Several = refl
left (candidate.One x y) candidate.Several candidate.None = refl
left (candidate.One x y) candidate.Several (candidate.One u v) = refl
left (candidate.One x y) candidate.Several candidate.Several = refl
left candidate.Several candidate.None c = refl
left candidate.Several (candidate.One z w) candidate.None = refl
left candidate.Several (candidate.One z w) (candidate.One u v) = refl
left candidate.Several (candidate.One z w) candidate.Several = refl
left candidate.Several candidate.Several candidate.None = refl
left candidate.Several candidate.Several (candidate.One u v) = refl
left candidate.Several candidate.Several candidate.Several = refl

-- one that is counted after others may be counted first
swapped : (a b : ℕ) (c d : Candidate) → and_also (candidate.One a b) (and_also c d) ≡ and_also c (and_also (candidate.One a b) d)
swapped a b candidate.None d = refl
swapped a b (candidate.One x y) candidate.None = refl
swapped a b (candidate.One x y) (candidate.One u v) = refl
swapped a b (candidate.One x y) candidate.Several = refl
swapped a b candidate.Several candidate.None = refl
swapped a b candidate.Several (candidate.One u v) = refl
swapped a b candidate.Several candidate.Several = refl

-- those of either test are those of the one and those of the other
pub split : (p q r : NamedExport → Bool) (es : List NamedExport)
    → ((e : NamedExport) → r e ≡ (p e || q e)) → ((e : NamedExport) → (p e && q e) ≡ false)
    → only (filter r es) ≡ and_also (only (filter p es)) (only (filter q es))
split p q r [] either apart = refl
split p q r (e ∷ es) either apart =
    let one = candidate.One e.component e.number in
    let rest = split p q r es either apart in
    elim (cases_Bool (p e)) [
      | inl y ↦
          let no : q e ≡ false = sym (ap (λ b. b && q e) y) ∙ apart e in
          let some : r e ≡ true = either e ∙ ap (λ b. b || q e) y in
          rw (y, no, some) (front e (filter r es) ∙ ap (and_also one) rest ∙ sym (left one (only (filter p es)) (only (filter q es))) ∙ ap (λ c. and_also c (only (filter q es))) (sym (front e (filter p es))))
      | inr n ↦ elim (cases_Bool (q e)) [
        | inl k ↦
            let some : r e ≡ true = either e ∙ ap (λ b. b || q e) n ∙ k in
            rw (n, k, some) (front e (filter r es) ∙ ap (and_also one) rest ∙ swapped e.component e.number (only (filter p es)) (only (filter q es)) ∙ ap (and_also (only (filter p es))) (sym (front e (filter q es))))
        | inr k ↦
            let none : r e ≡ false = either e ∙ ap (λ b. b || q e) n ∙ k in
            rw (n, k, none) rest
      ]
    ]
