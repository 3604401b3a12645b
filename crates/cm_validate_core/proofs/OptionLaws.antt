-- Options of one kind, counted; memories told by their numbers.
use Rattle.std.proofs.Common.{◌≡◌, ◌≢◌, ℕ, ◌+◌, ◌<◌, ◌==◌, ◌&&◌, Bool, true, false, cond, nat_le, List, ◌∷◌, length, get_or, drop, Some, refl, sym, ap, ◌∙◌, arith}
use Rattle.std.specs.Prelude.{filter}
use Rattle.std.specs.Str.{bytes_eq}
use Rattle.std.proofs.lemmas.Bool.Decides.{nat_tests}
use Rattle.std.proofs.lemmas.Slice.Eq.{bytes_eq-Decides}
use Rattle.cm_validate_model.specs.Options.{is_same_export}
use Rattle.cm_validate_core.specs.NamedValues.{place_of}
use Rattle.cm_validate_core.specs.declared.entries.GuestMemory.{GuestMemory}
use Rattle.cm_validate_core.specs.Entries.{memory_of}
use Rattle.cm_validate_core.specs.CoreSpaces.{IsMemoryNumbered, MemoryNames}
use Rattle.cm_validate_core.proofs.PlaceLaws.{one_at}
use Rattle.cm_lemmas.proofs.Lists.{rest_from}
use Rattle.cm_lemmas.proofs.Bools.{bools}
use Rattle.cm_lemmas.proofs.Numbers.{eq_self, eq_of}
use Rattle.cm_lemmas.proofs.Options.{some_number}

-- ---- options of one kind

-- whether one at most is of the kind, where one was seen before or none
abbrev pub once_more : {A : Type 0} → (A → Bool) → Bool → List A → Bool
once_more p seen xs = nat_le (length (filter p xs)) (cond seen 0 1)

filter_yes : {A : Type 0} (p : A → Bool) (x : A) (xs : List A) → p x ≡ true → length (filter p (x ∷ xs)) ≡ 1 + length (filter p xs)
filter_yes p x xs e = rw e (omega arith)

filter_no : {A : Type 0} (p : A → Bool) (x : A) (xs : List A) → p x ≡ false → filter p (x ∷ xs) ≡ filter p xs
filter_no p x xs e = rw e refl

pub not_of_kind : {A : Type 0} (p : A → Bool) (xs : List A) (i : ℕ) (x : A) (seen all : Bool) → i < length xs → x ≡ get_or xs i x → p x ≡ false → once_more p seen (drop i xs) ≡ all → once_more p seen (drop (i + 1) xs) ≡ all
not_of_kind p xs i x seen all lt is no_ before =
    ap (λ ys. nat_le (length ys) (cond seen 0 1)) (sym (ap (filter p) (rest_from xs i x lt is) ∙ filter_no p x (drop (i + 1) xs) no_)) ∙ before

one_less : (n : ℕ) → nat_le n 0 ≡ nat_le (1 + n) 1
one_less n = grind (arith, nat_tests)

pub first_of_kind : {A : Type 0} (p : A → Bool) (xs : List A) (i : ℕ) (x : A) (all : Bool) → i < length xs → x ≡ get_or xs i x → p x ≡ true → once_more p false (drop i xs) ≡ all → once_more p true (drop (i + 1) xs) ≡ all
first_of_kind p xs i x all lt is e before =
    one_less (length (filter p (drop (i + 1) xs)))
    ∙ ap (λ n. nat_le n 1) (sym (ap (λ ys. length (filter p ys)) (rest_from xs i x lt is) ∙ filter_yes p x (drop (i + 1) xs) e))
    ∙ before

none_more : (n : ℕ) → nat_le (1 + n) 0 ≡ false
none_more n = grind (arith, nat_tests)

pub second_of_kind : {A : Type 0} (p : A → Bool) (xs : List A) (i : ℕ) (x : A) (all : Bool) → i < length xs → x ≡ get_or xs i x → p x ≡ true → once_more p true (drop i xs) ≡ all → false ≡ all
second_of_kind p xs i x all lt is e before =
    sym (none_more (length (filter p (drop (i + 1) xs))))
    ∙ ap (λ n. nat_le n 0) (sym (ap (λ ys. length (filter p ys)) (rest_from xs i x lt is) ∙ filter_yes p x (drop (i + 1) xs) e))
    ∙ before

-- ---- memories

pub same_number : (names : MemoryNames) (a b : GuestMemory) → IsMemoryNumbered names a → IsMemoryNumbered names b → (a.number == b.number) ≡ bytes_eq a.export.name.now b.export.name.now
same_number names a b m n = bools (a.number == b.number) (bytes_eq a.export.name.now b.export.name.now) there back
  where
    there : (a.number == b.number) ≡ true → bytes_eq a.export.name.now b.export.name.now ≡ true
    there e = (bytes_eq-Decides a.export.name.now b.export.name.now).1 (one_at names a.export.name.now b.export.name.now b.number (m ∙ ap Some (eq_of a.number b.number e)) n)

    back : bytes_eq a.export.name.now b.export.name.now ≡ true → (a.number == b.number) ≡ true
    back e =
        let t : a.export.name.now ≡ b.export.name.now = (bytes_eq-Decides a.export.name.now b.export.name.now).0 e in
        rw (some_number a.number b.number (sym m ∙ ap (λ x. place_of x names) t ∙ n)) (eq_self b.number)

-- of one core instance
pub same_there : (names : MemoryNames) (a b : GuestMemory) → a.export.instance ≡ b.export.instance → IsMemoryNumbered names a → IsMemoryNumbered names b → (a.number == b.number) ≡ is_same_export (memory_of a) (memory_of b)
same_there names a b e m n =
    same_number names a b m n
    ∙ sym (ap (λ t. t && bytes_eq a.export.name.now b.export.name.now) (ap (λ x. x == b.export.instance) e ∙ eq_self b.export.instance))

-- of two
other_of : (x y : ℕ) → x ≢ y → (x == y) ≡ false
other_of x y e = grind (arith, nat_tests)

pub other_there : (a b : GuestMemory) → a.export.instance ≢ b.export.instance → (a.export.instance == b.export.instance) ≡ is_same_export (memory_of a) (memory_of b)
other_there a b e =
    let f = other_of a.export.instance b.export.instance e in
    f ∙ sym (ap (λ t. t && bytes_eq a.export.name.now b.export.name.now) f)
