-- The places of names that are read back.
use Rattle.std.proofs.Common.{◌≡◌, ℕ, zero, suc, true, false, List, [], ◌∷◌, Option, Ok, refl, sym, ap, ◌∙◌, inl, inr}
use Rattle.std.specs.List.{list_any}
use Rattle.std.specs.Str.{bytes_eq}
use Rattle.std.proofs.lemmas.Bool.{cases_Bool}
use Rattle.std.proofs.lemmas.Slice.Eq.{bytes_eq-Decides}
use Rattle.cm_values.specs.SpelledNames.{is_keyword, name_spelling}
use Rattle.cm_values.specs.Words.{name, place_in}
use Rattle.cm_values.specs.Premises.{AreNames, is_wordy}
use Rattle.cm_values.proofs.SpellWords.{Ends, Opens, escaped_name, or_false, plain_name, wordy_opens}

pub same_bytes : (l : List ℕ) → bytes_eq l l ≡ true
same_bytes l = (bytes_eq-Decides l l).1 refl

-- the name at a place
abbrev pub At : List (List ℕ) → ℕ → List ℕ → Type 0
At [] i l = ⊥
At (n ∷ ns) zero l = n ≡ l
At (n ∷ ns) (suc i) l = At ns i l

not_among : (n : List ℕ) (ns : List (List ℕ)) (i : ℕ) (l : List ℕ) → list_any (bytes_eq n) ns ≡ false → At ns i l → bytes_eq n l ≡ false
not_among n [] i l none at = absurd at
not_among n (m ∷ ns) zero l none at = ap (bytes_eq n) (sym at) ∙ (or_false _ _ none).0
not_among n (m ∷ ns) (suc i) l none at = not_among n ns i l (or_false _ _ none).1 at

pub place_at : (names : List (List ℕ)) (i : ℕ) (l : List ℕ) → AreNames names → At names i l → place_in names l ≡ Ok i
place_at [] i l are at = absurd at
place_at (n ∷ ns) zero l are at = rw (at, same_bytes l) refl
place_at (n ∷ ns) (suc i) l are at = rw (not_among n ns i l are.1 at, place_at ns i l are.2 at) refl

pub wordy_at : (names : List (List ℕ)) (i : ℕ) (l : List ℕ) → AreNames names → At names i l → is_wordy l ≡ true
wordy_at [] i l are at = absurd at
wordy_at (n ∷ ns) zero l are at = ap is_wordy (sym at) ∙ are.0
wordy_at (n ∷ ns) (suc i) l are at = wordy_at ns i l are.2 at

pub label_back : (l : List ℕ) (next : Option ℕ) → is_wordy l ≡ true → Ends next → name.Spells l (name_spelling l) next
label_back l next ok ends = elim (cases_Bool (is_keyword l)) [
  | inl e ↦ rw e (escaped_name l next ok ends)
  | inr e ↦ rw e (plain_name l next ok ends)
]

pub label_opens : (l : List ℕ) → is_wordy l ≡ true → Opens (name_spelling l)
label_opens l ok = elim (cases_Bool (is_keyword l)) [
  | inl e ↦ rw e (record { byte = 0x25; rest = l; is = refl; test = refl })
  | inr e ↦ rw e (wordy_opens l ok)
]
