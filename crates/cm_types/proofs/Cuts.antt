-- Texts cut at a byte or behind a front.
use Rattle.std.proofs.Common.{◌≡◌, ◌≢◌, ℕ, suc, ◌<◌, List, [], ◌∷◌, ◌++◌, length, drop, get_or, Option, Some, None, refl, sym, ap, ◌∙◌, arith, inl, inr}
use Rattle.std.specs.Borrow.{Bor}
use Rattle.std.specs.Option.{MatchOption, option_copied}
use Rattle.std.specs.Str.Pattern.{FindsTextPrefix, StripsPrefix}
use Rattle.std.proofs.lemmas.Bool.{eq-eqb, ne_eqb, cases_eq}
use Rattle.std.proofs.lemmas.Str.Pattern.{IsSplitOnceResult, split_parts}
use Rattle.cm_types.specs.ExternNames.{cut, without_front}
use Rattle.cm_types.specs.ExternNameForms.{pair_view}

-- no byte of the text is c
abbrev pub Lacks : ℕ → List ℕ → Type 0
Lacks c bs = (i : ℕ) → i < length bs → get_or bs i 0 ≢ c

lacks_tail : (c b : ℕ) (bs : List ℕ) → Lacks c (b ∷ bs) → Lacks c bs
lacks_tail c b bs h i lt = h (suc i) (omega arith)

lacks_head : (c b : ℕ) (bs : List ℕ) → Lacks c (b ∷ bs) → b ≢ c
lacks_head c b bs h = h 0 (omega arith)

pub cut_none : (c : ℕ) (bs : List ℕ) → Lacks c bs → cut c bs ≡ None
cut_none c [] h = refl
cut_none c (b ∷ bs) h = rw (ne_eqb b c (lacks_head c b bs h), cut_none c bs (lacks_tail c b bs h)) refl

pub cut_at : (c : ℕ) (xs ys : List ℕ) → Lacks c xs → cut c (xs ++ c ∷ ys) ≡ Some (xs, ys)
cut_at c [] ys h = rw (eq-eqb c c refl) refl
cut_at c (x ∷ xs) ys h = rw (ne_eqb x c (lacks_head c x xs h), cut_at c xs ys (lacks_tail c x xs h)) refl

-- what `split_once` gives at an ASCII character
pub split_is_cut : (c : ℕ) (bs : List ℕ) (r : Option (Bor (List ℕ) × Bor (List ℕ))) → c < 128 → IsSplitOnceResult c bs r → pair_view r ≡ cut c bs
split_is_cut c bs None small h = sym (cut_none c bs (split_parts c bs None h small))
split_is_cut c bs (Some p) small h =
    let parts = split_parts c bs (Some p) h small in
    sym (ap (cut c) parts.0 ∙ cut_at c p.0.now p.1.now parts.1)

front_lacks : (front text : List ℕ) → ((rest : List ℕ) → text ≢ front ++ rest) → without_front front text ≡ None
front_lacks [] text h = absurd (h text refl)
front_lacks (c ∷ front) [] h = refl
front_lacks (c ∷ front) (b ∷ text) h = elim (cases_eq b c) [
  | inl e ↦ rw (eq-eqb b c e) (front_lacks front text (λ rest s. h rest (cc)))
  | inr n ↦ rw (ne_eqb b c n) refl
]

pub front_stands : (front rest : List ℕ) → without_front front (front ++ rest) ≡ Some rest
front_stands [] rest = refl
front_stands (c ∷ front) rest = rw (eq-eqb c c refl) (front_stands front rest)

-- what `strip_prefix` gives at a text
pub strip_is_without : (front text : List ℕ) (r : Option (Bor (List ℕ))) → MatchOption r (FindsTextPrefix front text None) (λ x. StripsPrefix (FindsTextPrefix front) text x.now) → option_copied r ≡ without_front front text
strip_is_without front text None h = sym (front_lacks front text h)
strip_is_without front text (Some x) h =
    let split : text ≡ front ++ drop h.0 text = h.1.1 in
    sym (ap (without_front front) split ∙ front_stands front (drop h.0 text) ∙ ap Some (sym h.2))
