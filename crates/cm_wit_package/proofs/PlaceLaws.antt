-- The n-th name among tokens, token by token.
use Rattle.std.proofs.Common.{◌≡◌, ℕ, suc, Bool, true, false, cond, List, [], ◌∷◌, slice_get, Some, None, refl, sym, ap, ◌∙◌}
use Rattle.cm_wit_tokens.specs.declared.token.Token.{Token}
use Rattle.cm_wit_package.specs.Places.{is_name, names_in}

-- What is sought among all is this one among the rest.
pub record Seeks (all : List Token) (number : ℕ) (rest : List Token) (left : ℕ) : Type 0 where
  pub is : slice_get (names_in rest) left ≡ slice_get (names_in all) number

pub seeks_start : (all : List Token) (number : ℕ) → Seeks all number all number
seeks_start all number = record { is = refl }

names_by : (t : Token) (rest : List Token) (b : Bool) → is_name t.form ≡ b → names_in (t ∷ rest) ≡ cond b (t ∷ names_in rest) (names_in rest)
names_by t rest b e = ap (λ (c : Bool). cond c (t ∷ names_in rest) (names_in rest)) e

pub seeks_past : (all before rest : List Token) (number left : ℕ) (t : Token) → before ≡ t ∷ rest → is_name t.form ≡ false → Seeks all number before left → Seeks all number rest left
seeks_past all before rest number left t e isnt s = record {
  is = sym (ap (λ (ts : List Token). slice_get (names_in ts) left) e ∙ ap (λ (ns : List Token). slice_get ns left) (names_by t rest false isnt)) ∙ s.is;
}

found_in : (all before rest : List Token) (number left : ℕ) (t : Token) → before ≡ t ∷ rest → is_name t.form ≡ true → Seeks all number before left → slice_get (t ∷ names_in rest) left ≡ slice_get (names_in all) number
found_in all before rest number left t e is s = sym (ap (λ (ts : List Token). slice_get (names_in ts) left) e ∙ ap (λ (ns : List Token). slice_get ns left) (names_by t rest true is)) ∙ s.is

pub seeks_next : (all before rest : List Token) (number left next : ℕ) (t : Token) → before ≡ t ∷ rest → is_name t.form ≡ true → suc next ≡ left → Seeks all number before left → Seeks all number rest next
seeks_next all before rest number left next t e is n s = record {
  is = ap (λ (k : ℕ). slice_get (t ∷ names_in rest) k) n ∙ found_in all before rest number left t e is s;
}

pub seeks_here : (all before rest : List Token) (number left : ℕ) (t : Token) → before ≡ t ∷ rest → is_name t.form ≡ true → left ≡ 0 → Seeks all number before left → Some t ≡ slice_get (names_in all) number
seeks_here all before rest number left t e is n s = ap (λ (k : ℕ). slice_get (t ∷ names_in rest) k) (sym n) ∙ found_in all before rest number left t e is s

pub seeks_end : (all before : List Token) (number left : ℕ) → before ≡ [] → Seeks all number before left → None ≡ slice_get (names_in all) number
seeks_end all before number left e s = sym (ap (λ (ts : List Token). slice_get (names_in ts) left) e) ∙ s.is

pub ruleset place_laws = (seeks_start, seeks_past, seeks_next, seeks_here, seeks_end)
