-- What follows in a label behind one byte more.
use Rattle.std.proofs.Common.{◌≡◌, ℕ, Bool, true, false, ◌||◌, ◌==◌, List, [], ◌∷◌, refl, sym, ap, ◌∙◌, arith}
use Rattle.std.specs.Prelude.{◌&&◌}
use Rattle.std.specs.List.{list_all, slice_split, onto_first}
use Rattle.std.specs.Char.{is_ascii_lowercase, is_ascii_uppercase, is_ascii_digit}
use Rattle.std.proofs.lemmas.Bool.Decides.{nat_tests}
use Rattle.std.proofs.lemmas.List.Splits.{slice_split-cons_yes, slice_split-cons_no}
use Rattle.cm_types.specs.Names.{is_label, is_fragment, is_in_word, is_in_acronym}
use Rattle.cm_types.specs.LabelWalks.{fragments_end, is_rest}
use Rattle.cm_types.specs.declared.label_walk.Place.TheVariants as place

-- a byte more at the front of the first part
longer : (p : ℕ → Bool) (b : ℕ) (parts : List (List ℕ)) → fragments_end p (onto_first b parts) ≡ (p b && fragments_end p parts)
longer p b [] = by (p b)
  where
    by : (x : Bool) → ((x && true) && true) ≡ (x && true)
    by true = refl
    by false = refl
longer p b (f ∷ fs) = by (p b)
  where
    by : (x : Bool) → ((x && list_all p f) && list_all is_fragment fs) ≡ (x && (list_all p f && list_all is_fragment fs))
    by true = refl
    by false = refl

-- a letter at the front of the first part, and another byte there
word_first : (b : ℕ) (parts : List (List ℕ)) → is_ascii_lowercase b ≡ true → is_ascii_uppercase b ≡ false → list_all is_fragment (onto_first b parts) ≡ fragments_end is_in_word parts
word_first b [] l u = rw l refl
word_first b (f ∷ fs) l u = rw (l, u) (by (list_all is_in_word f))
  where
    by : (x : Bool) → ((x || false) && list_all is_fragment fs) ≡ (x && list_all is_fragment fs)
    by true = refl
    by false = refl

acronym_first : (b : ℕ) (parts : List (List ℕ)) → is_ascii_lowercase b ≡ false → is_ascii_uppercase b ≡ true → list_all is_fragment (onto_first b parts) ≡ fragments_end is_in_acronym parts
acronym_first b [] l u = rw (l, u) refl
acronym_first b (f ∷ fs) l u = rw (l, u) refl

none_first : (b : ℕ) (parts : List (List ℕ)) → is_ascii_lowercase b ≡ false → is_ascii_uppercase b ≡ false → list_all is_fragment (onto_first b parts) ≡ false
none_first b [] l u = rw (l, u) refl
none_first b (f ∷ fs) l u = rw (l, u) refl

letters_apart : (b : ℕ) → is_ascii_lowercase b ≡ true → is_ascii_uppercase b ≡ false
letters_apart b h = grind (arith, nat_tests)

lower_apart : (b : ℕ) → is_ascii_lowercase b ≡ true → (b == 45) ≡ false
lower_apart b h = grind (arith, nat_tests)

upper_apart : (b : ℕ) → is_ascii_uppercase b ≡ true → (b == 45) ≡ false
upper_apart b h = grind (arith, nat_tests)

word_apart : (b : ℕ) → is_in_word b ≡ true → (b == 45) ≡ false
word_apart b h = grind (arith, nat_tests)

acronym_apart : (b : ℕ) → is_in_acronym b ≡ true → (b == 45) ≡ false
acronym_apart b h = grind (arith, nat_tests)

-- the parts behind a byte that is no hyphen, and behind a hyphen
parts_on : (b : ℕ) (rest : List ℕ) → (b == 45) ≡ false → slice_split (λ x. x == 45) (b ∷ rest) ≡ onto_first b (slice_split (λ x. x == 45) rest)
parts_on b rest h = slice_split-cons_no (λ x. x == 45) b rest h

parts_cut : (b : ℕ) (rest : List ℕ) → (b == 45) ≡ true → slice_split (λ x. x == 45) (b ∷ rest) ≡ [] ∷ slice_split (λ x. x == 45) rest
parts_cut b rest h = slice_split-cons_yes (λ x. x == 45) b rest h

-- ---- at the begin of a fragment

pub word_begins : (b : ℕ) (rest : List ℕ) → is_ascii_lowercase b ≡ true → is_label (b ∷ rest) ≡ is_rest place.InWord rest
word_begins b rest l =
    ap (list_all is_fragment) (parts_on b rest (lower_apart b l))
    ∙ word_first b (slice_split (λ x. x == 45) rest) l (letters_apart b l)

pub acronym_begins : (b : ℕ) (rest : List ℕ) → is_ascii_lowercase b ≡ false → is_ascii_uppercase b ≡ true → is_label (b ∷ rest) ≡ is_rest place.InAcronym rest
acronym_begins b rest l u =
    ap (list_all is_fragment) (parts_on b rest (upper_apart b u))
    ∙ acronym_first b (slice_split (λ x. x == 45) rest) l u

pub nothing_begins : (b : ℕ) (rest : List ℕ) → is_ascii_lowercase b ≡ false → is_ascii_uppercase b ≡ false → is_label (b ∷ rest) ≡ false
nothing_begins b rest l u = by (b == 45) refl
  where
    by : (h : Bool) → (b == 45) ≡ h → is_label (b ∷ rest) ≡ false
    by true e = ap (list_all is_fragment) (parts_cut b rest e)
    by false e = ap (list_all is_fragment) (parts_on b rest e) ∙ none_first b (slice_split (λ x. x == 45) rest) l u

-- ---- within a fragment

goes_on : (p : ℕ → Bool) (b : ℕ) (rest : List ℕ) → p b ≡ true → (b == 45) ≡ false
    → fragments_end p (slice_split (λ x. x == 45) (b ∷ rest)) ≡ fragments_end p (slice_split (λ x. x == 45) rest)
goes_on p b rest h e =
    ap (fragments_end p) (parts_on b rest e) ∙ longer p b (slice_split (λ x. x == 45) rest)
    ∙ ap (λ x. x && fragments_end p (slice_split (λ y. y == 45) rest)) h

stops : (p : ℕ → Bool) (b : ℕ) (rest : List ℕ) → p b ≡ false → (b == 45) ≡ false
    → fragments_end p (slice_split (λ x. x == 45) (b ∷ rest)) ≡ false
stops p b rest h e =
    ap (fragments_end p) (parts_on b rest e) ∙ longer p b (slice_split (λ x. x == 45) rest)
    ∙ ap (λ x. x && fragments_end p (slice_split (λ y. y == 45) rest)) h

ends : (p : ℕ → Bool) (b : ℕ) (rest : List ℕ) → (b == 45) ≡ true
    → fragments_end p (slice_split (λ x. x == 45) (b ∷ rest)) ≡ is_label rest
ends p b rest e = ap (fragments_end p) (parts_cut b rest e)

pub word_goes_on : (b : ℕ) (rest : List ℕ) → is_in_word b ≡ true → is_rest place.InWord (b ∷ rest) ≡ is_rest place.InWord rest
word_goes_on b rest h = goes_on is_in_word b rest h (word_apart b h)

pub word_stops : (b : ℕ) (rest : List ℕ) → is_in_word b ≡ false → (b == 45) ≡ false → is_rest place.InWord (b ∷ rest) ≡ false
word_stops b rest h e = stops is_in_word b rest h e

pub word_ends : (b : ℕ) (rest : List ℕ) → (b == 45) ≡ true → is_rest place.InWord (b ∷ rest) ≡ is_label rest
word_ends b rest e = ends is_in_word b rest e

pub acronym_goes_on : (b : ℕ) (rest : List ℕ) → is_in_acronym b ≡ true → is_rest place.InAcronym (b ∷ rest) ≡ is_rest place.InAcronym rest
acronym_goes_on b rest h = goes_on is_in_acronym b rest h (acronym_apart b h)

pub acronym_stops : (b : ℕ) (rest : List ℕ) → is_in_acronym b ≡ false → (b == 45) ≡ false → is_rest place.InAcronym (b ∷ rest) ≡ false
acronym_stops b rest h e = stops is_in_acronym b rest h e

pub acronym_ends : (b : ℕ) (rest : List ℕ) → (b == 45) ≡ true → is_rest place.InAcronym (b ∷ rest) ≡ is_label rest
acronym_ends b rest e = ends is_in_acronym b rest e
