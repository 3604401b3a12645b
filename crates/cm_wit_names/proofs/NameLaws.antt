-- Full names, part by part.
use Rattle.std.proofs.Common.{◌≡◌, ℕ, ◌+◌, ◌<◌, ◌≤◌, Bool, true, false, cond, nat_lt, List, [], ◌∷◌, ◌++◌, length, map, take, drop, get_or, refl, sym, ap, ◌∙◌, append_assoc, append-nil, arith}
use Rattle.std.specs.Char.{is_ascii_uppercase, to_ascii_lowercase}
use Rattle.std.proofs.lemmas.Bool.Decides.{nat_tests}
use Rattle.std.proofs.lemmas.List.{drop_all, drop_more, map-append, take_more}
use Rattle.cm_lemmas.proofs.Lists.{take_all}

pub ruleset fold_laws = (append_assoc, map-append)

-- ---- a text without a capital

lower : (b : ℕ) → is_ascii_uppercase b ≡ false → to_ascii_lowercase b ≡ b
lower b e = by (nat_lt b 65) (nat_lt b 91) refl refl
  where
    by : (s t : Bool) → nat_lt b 65 ≡ s → nat_lt b 91 ≡ t → cond s b (cond t (b + 32) b) ≡ b
    by true t p q = refl
    by false false p q = refl
    by false true p q = grind (arith, nat_tests, e, p, q)

pub lower_next : (text : List ℕ) (i : ℕ) → i < length text → is_ascii_uppercase (get_or text i 0) ≡ false → take i text ++ map to_ascii_lowercase (drop i text) ≡ take (i + 1) text ++ map to_ascii_lowercase (drop (i + 1) text)
lower_next text i lt e =
    let b = get_or text i 0 in
    let rest = map to_ascii_lowercase (drop (i + 1) text) in
    ap (λ (t : List ℕ). take i text ++ map to_ascii_lowercase t) (drop_more text i 0 lt)
    ∙ (ap (λ (c : ℕ). take i text ++ c ∷ rest) (lower b e)
    ∙ (sym (append_assoc (take i text) (b ∷ []) rest)
    ∙ ap (λ (t : List ℕ). t ++ rest) (sym (take_more text i 0 lt))))

pub lower_all : (text : List ℕ) (i : ℕ) → length text ≤ i → take i text ++ map to_ascii_lowercase (drop i text) ≡ text
lower_all text i le =
    ap (λ (t : List ℕ). take i text ++ map to_ascii_lowercase t) (drop_all i text le)
    ∙ (append-nil (take i text) ∙ take_all text i le)

pub ruleset lower_laws = (lower_next, lower_all)
