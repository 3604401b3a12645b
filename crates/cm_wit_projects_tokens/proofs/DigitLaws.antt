-- What one more digit does to a number.
use Rattle.std.proofs.Common.{◌≡◌, ℕ, ◌+◌, ◌-◌, ◌*◌, ◌^◌, ◌<◌, ◌≤◌, Bool, true, false, ltb, if◌then◌else◌, List, length, drop, get_or, Option, Some, None, refl, sym, ap, ◌∙◌}
use Rattle.std.proofs.lemmas.Bool.{lt-ltb, le-ltb}
use Rattle.std.proofs.lemmas.List.{drop_more, drop_all}
use Rattle.cm_wit_tokens.specs.Tokens.{from_digits}

-- the number with the digit behind it
abbrev pub grown : ℕ → List ℕ → ℕ → ℕ
grown n ds i = n * 10 + (get_or ds i 0 - 48)

-- it is gone on with, where it fits
digit_turn : (n : ℕ) (ds : List ℕ) (i : ℕ) (fits : Bool) → i < length ds → ltb (grown n ds i) (2 ^ 32) ≡ fits → from_digits n (drop i ds) ≡ (if fits then from_digits (grown n ds i) (drop (i + 1) ds) else None)
unfolding from_digits
digit_turn n ds i fits lt e = rw (drop_more ds i 0 lt, e) refl

-- what is known of a number before a digit: the digits behind it make this of it
pub record Grows (all : Option ℕ) (n : ℕ) (ds : List ℕ) (i : ℕ) : Type 0 where
  pub is : all ≡ from_digits n (drop i ds)

pub grows_start : (ds : List ℕ) → Grows (from_digits 0 ds) 0 ds 0
grows_start ds = record { is = refl }

pub grows_on : (all : Option ℕ) (n m : ℕ) (ds : List ℕ) (i : ℕ) → i < length ds → m ≡ grown n ds i → m < 2 ^ 32 → Grows all n ds i → Grows all m ds (i + 1)
grows_on all n m ds i lt e fits g = record {
  is = g.is ∙ (digit_turn n ds i true lt (rw (← e) (lt-ltb m (2 ^ 32) fits)) ∙ ap (λ (k : ℕ). from_digits k (drop (i + 1) ds)) (sym e));
}

pub grows_past : (all : Option ℕ) (n : ℕ) (ds : List ℕ) (i : ℕ) → i < length ds → 2 ^ 32 ≤ grown n ds i → Grows all n ds i → None ≡ all
grows_past all n ds i lt over g = sym (g.is ∙ digit_turn n ds i false lt (le-ltb (grown n ds i) (2 ^ 32) over))

pub grows_end : (all : Option ℕ) (n : ℕ) (ds : List ℕ) (i : ℕ) → length ds ≤ i → Grows all n ds i → Some n ≡ all
unfolding from_digits
grows_end all n ds i le g = sym (g.is ∙ rw (drop_all i ds le) refl)

pub ruleset digit_laws = (grows_start, grows_on, grows_past, grows_end)
