-- The n-th name among tokens, token by token.
use Rattle.std.proofs.Common.{◌≡◌, ℕ, suc, Bool, true, false, cond, List, [], ◌∷◌, slice_get, Some, None, refl, sym, ap, ◌∙◌}
use Rattle.cm_wit_tokens.specs.declared.token.Token.{Token}
use Rattle.cm_wit_projects_reading.specs.Places.{is_sought, sought_in}

-- What is sought among all is this one among the rest.
pub record Seeks (left : ℕ) (all : List Token) (number : ℕ) (rest : List Token) (before : ℕ) : Type 0 where
  pub is : slice_get (sought_in left rest) before ≡ slice_get (sought_in left all) number

pub seeks_start : (left : ℕ) (all : List Token) (number : ℕ) → Seeks left all number all number
seeks_start left all number = record { is = refl }

sought_by : (left : ℕ) (t : Token) (rest : List Token) (b : Bool) → is_sought left t ≡ b → sought_in left (t ∷ rest) ≡ cond b (t ∷ sought_in left rest) (sought_in left rest)
sought_by left t rest b e = ap (λ (c : Bool). cond c (t ∷ sought_in left rest) (sought_in left rest)) e

pub seeks_past : (left : ℕ) (all here rest : List Token) (number before : ℕ) (t : Token) → here ≡ t ∷ rest → is_sought left t ≡ false → Seeks left all number here before → Seeks left all number rest before
seeks_past left all here rest number before t e isnt s = record {
  is = sym (ap (λ (ts : List Token). slice_get (sought_in left ts) before) e ∙ ap (λ (ns : List Token). slice_get ns before) (sought_by left t rest false isnt)) ∙ s.is;
}

found_in : (left : ℕ) (all here rest : List Token) (number before : ℕ) (t : Token) → here ≡ t ∷ rest → is_sought left t ≡ true → Seeks left all number here before → slice_get (t ∷ sought_in left rest) before ≡ slice_get (sought_in left all) number
found_in left all here rest number before t e is s = sym (ap (λ (ts : List Token). slice_get (sought_in left ts) before) e ∙ ap (λ (ns : List Token). slice_get ns before) (sought_by left t rest true is)) ∙ s.is

pub seeks_next : (left : ℕ) (all here rest : List Token) (number before next : ℕ) (t : Token) → here ≡ t ∷ rest → is_sought left t ≡ true → suc next ≡ before → Seeks left all number here before → Seeks left all number rest next
seeks_next left all here rest number before next t e is n s = record {
  is = ap (λ (k : ℕ). slice_get (t ∷ sought_in left rest) k) n ∙ found_in left all here rest number before t e is s;
}

pub seeks_here : (left : ℕ) (all here rest : List Token) (number before : ℕ) (t : Token) → here ≡ t ∷ rest → is_sought left t ≡ true → before ≡ 0 → Seeks left all number here before → Some t ≡ slice_get (sought_in left all) number
seeks_here left all here rest number before t e is n s = ap (λ (k : ℕ). slice_get (t ∷ sought_in left rest) k) (sym n) ∙ found_in left all here rest number before t e is s

pub seeks_end : (left : ℕ) (all here : List Token) (number before : ℕ) → here ≡ [] → Seeks left all number here before → None ≡ slice_get (sought_in left all) number
seeks_end left all here number before e s = sym (ap (λ (ts : List Token). slice_get (sought_in left ts) before) e) ∙ s.is

pub ruleset sought_laws = (seeks_start, seeks_past, seeks_next, seeks_here, seeks_end)
