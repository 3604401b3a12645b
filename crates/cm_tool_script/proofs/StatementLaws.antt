-- Words and what they are read as, one by one.
use Rattle.std.proofs.Common.{◌≡◌, ℕ, ◌+◌, ◌<◌, List, [], ◌∷◌, ◌++◌, length, get_or, take, map, Result, Ok, Err}
use Rattle.std.proofs.Common.{Bor, inl, inr, sym, ap, subst, ◌∙◌, arith, zero, suc}
use Rattle.std.specs.List.{AllZip}
use Rattle.std.specs.Result.{IsErrAnd}
use Rattle.std.proofs.lemmas.List.{get_or-map, take_more, length-map}
use Rattle.cm_tool_script.specs.Statements.{IsRead}
use Rattle.cm_tool_script.specs.declared.statement.LineFault.{LineFault}

-- one more of each
AllZip-push : {A B : Type 0} (R : A → B → Type 0) (xs : List A) (ys : List B) (x : A) (y : B)
    → AllZip R xs ys → R x y → AllZip R (xs ++ x ∷ []) (ys ++ y ∷ [])
AllZip-push R [] [] x y all one = (one, tt)
AllZip-push R [] (b ∷ ys) x y all one = absurd all
AllZip-push R (a ∷ xs) [] x y all one = absurd all
AllZip-push R (a ∷ xs) (b ∷ ys) x y all one = (all.0, AllZip-push R xs ys x y all.1 one)

-- what stands at a place is as said
AllZip-at : {A B : Type 0} (R : A → B → Type 0) (xs : List A) (ys : List B) (i : ℕ) (d : A)
    → i < length xs → AllZip R xs ys → (y : B) × R (get_or xs i d) y
AllZip-at R [] ys i d within all = absurd (omega arith)
AllZip-at R (a ∷ xs) [] i d within all = absurd all
AllZip-at R (a ∷ xs) (b ∷ ys) zero d within all = (b, all.0)
AllZip-at R (a ∷ xs) (b ∷ ys) (suc i) d within all = AllZip-at R xs ys i d (omega arith) all.1

-- one word more is read
pub read-more : {B : Type 0} (R : List ℕ → B → Type 0) (words : List (Bor (List ℕ))) (ys : List B)
    (i : ℕ) (d : Bor (List ℕ)) (y : B) → i < length words
    → AllZip R (take i (map (λ v. v.now) words)) ys → R (get_or words i d).now y
    → AllZip R (take (i + 1) (map (λ v. v.now) words)) (ys ++ y ∷ [])
read-more R words ys i d y within all one =
    let w : List ℕ = (get_or words i d).now in
    let texts : List (List ℕ) = map (λ v. v.now) words in
    let at : get_or texts i [] ≡ w = get_or-map (λ v. v.now) words i d [] within in
    let inside : i < length texts = omega (arith, length-map words (λ (v : Bor (List ℕ)). v.now)) in
    let more : take (i + 1) texts ≡ take i texts ++ w ∷ [] =
    take_more texts i [] inside ∙ ap (λ x. take i texts ++ x ∷ []) at in
    subst (λ xs. AllZip R xs (ys ++ y ∷ [])) (sym more) (AllZip-push R (take i texts) ys w y all one)

-- a word that is not as said, or no memory, is an answer for all words
pub refused-at : {B V : Type 0} (R : List ℕ → B → Type 0) (items : V → List B)
    (words : List (Bor (List ℕ))) (i : ℕ) (d : Bor (List ℕ)) (e : LineFault) (r : Result V LineFault)
    → i < length words → IsRead {A = B} (R (get_or words i d).now) (Err e) → IsErrAnd r (λ f. f ≡ e)
    → IsRead {A = V} (λ v. AllZip R (map (λ x. x.now) words) (items v)) r
refused-at R items words i d e (Ok v) within read is = absurd is
refused-at R items words i d e (Err f) within (inl memory) is = inl (is ∙ memory)
refused-at R items words i d e (Err f) within (inr (said, none)) is =
    let texts : List (List ℕ) = map (λ v. v.now) words in
    let at : get_or texts i [] ≡ (get_or words i d).now = get_or-map (λ v. v.now) words i d [] within in
    let inside : i < length texts = omega (arith, length-map words (λ (v : Bor (List ℕ)). v.now)) in
    inr (
      is ∙ said,
      λ v all.
          let found = AllZip-at R texts (items v) i [] inside all in
          none found.0 (subst (λ t. R t found.0) at found.1),
    )
