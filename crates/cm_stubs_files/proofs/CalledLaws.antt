-- The first and the last of some imports, as what they call.
use Rattle.std.proofs.Common.{◌≡◌, ◌∙◌, ℕ, List, ◌++◌, length, map, ap, sym}
use Rattle.std.specs.Prelude.{◌-◌, ◌&&◌, Bool, true, take, drop}
use Rattle.std.specs.List.{list_all}
use Rattle.std.proofs.lemmas.List.{drop-map, length-map, take-append-drop, take-map}
use Rattle.std.proofs.lemmas.List.Folds.{list_all-append}
use Rattle.cm_lemmas.proofs.Bools.{both_left, both_right}
use Rattle.cm_types.specs.Signatures.{NamedExtern, SignatureTy}
use Rattle.cm_stubs_files.specs.Called.{called}

abbrev signature_by : List NamedExtern → List NamedExtern → SignatureTy
signature_by imports exports = record { imports = imports; exports = exports }

-- what is made of the first and the last of some is called
pub called_is : {A : Type 0} (f : A → NamedExtern) (xs : List A) (count : ℕ)
    → signature_by (map f (take (length xs - count) xs)) (map f (drop (length xs - count) xs))
    ≡ called count (map f xs)
called_is f xs count =
    ap (λ i. signature_by i (map f (drop (length xs - count) xs)))
    (sym (take-map f (length xs - count) xs))
    ∙ ap (signature_by (take (length xs - count) (map f xs)))
    (sym (drop-map f (length xs - count) xs))
    ∙ ap (λ n. signature_by (take (n - count) (map f xs)) (drop (n - count) (map f xs)))
    (sym (length-map xs f))

parts : {A : Type 0} (test : A → Bool) (n : ℕ) (xs : List A) → list_all test xs ≡ true
    → (list_all test (take n xs) && list_all test (drop n xs)) ≡ true
parts test n xs is =
    sym (list_all-append test (take n xs) (drop n xs))
    ∙ ap (list_all test) (take-append-drop n xs) ∙ is

pub first_there : {A : Type 0} (test : A → Bool) (n : ℕ) (xs : List A) → list_all test xs ≡ true
    → list_all test (take n xs) ≡ true
first_there test n xs is =
    both_left (list_all test (take n xs)) (list_all test (drop n xs)) (parts test n xs is)

pub last_there : {A : Type 0} (test : A → Bool) (n : ℕ) (xs : List A) → list_all test xs ≡ true
    → list_all test (drop n xs) ≡ true
last_there test n xs is =
    both_right (list_all test (take n xs)) (list_all test (drop n xs)) (parts test n xs is)
