-- Results of each element of a list, and checks of each.
use Rattle.std.proofs.Common.{◌≡◌, ℕ, ◌+◌, ◌<◌, ◌≤◌, List, [], ◌∷◌, ◌++◌, length, map, drop, get_or, Option, Some, None, Result, Ok, Err, refl, sym, ap, ◌∙◌, ◌⊎◌, inl, inr, append_assoc, append-nil}
use Rattle.std.specs.Prelude.{option_to_list}
use Rattle.std.proofs.lemmas.List.{drop_all, map-append}
use Rattle.cm_lemmas.proofs.Lists.{next_element}
use Rattle.cm_lemmas.proofs.Results.{err_of, ok_of}
use Rattle.cm_wit_projects.specs.declared.fault.ResolveFault.{ResolveFault}
use Rattle.cm_wit_projects.specs.Faults.{IsMemory, each_from, first, in_front, none_of}

-- ---- results

-- these, and then those of a result
abbrev pub joined : {A : Type 0} → List A → Result (List A) ResolveFault → Result (List A) ResolveFault
joined xs (Ok ys) = Ok (xs ++ ys)
joined xs (Err e) = Err e

joined_none : {A : Type 0} (r : Result (List A) ResolveFault) → joined [] r ≡ r
joined_none (Ok ys) = refl
joined_none (Err e) = refl

joined_push : {A : Type 0} (xs : List A) (x : A) (r : Result (List A) ResolveFault) → joined xs (in_front (Ok x) r) ≡ joined (xs ++ x ∷ []) r
joined_push {A} xs x (Ok ys) = ap (λ (l : List A). ok_of ResolveFault l) (sym (append_assoc xs (x ∷ []) ys))
joined_push xs x (Err e) = refl

-- What was read, and what the rest gives, is what all give.
pub record Reads {A B X Y : Type 0} (view : X → A) (shown : Y → B) (read : ℕ → B → Result A ResolveFault) (ys : List Y) (i : ℕ) (out : List X) : Type 0 where
  pub is : joined (map view out) (each_from read i (map shown (drop i ys))) ≡ each_from read 0 (map shown ys)

pub reads_start : {A B X Y : Type 0} (view : X → A) (shown : Y → B) (read : ℕ → B → Result A ResolveFault) (ys : List Y) → Reads view shown read ys 0 []
reads_start view shown read ys = record { is = joined_none (each_from read 0 (map shown ys)) }

pub reads_on : {A B X Y : Type 0} (view : X → A) (shown : Y → B) (read : ℕ → B → Result A ResolveFault) (ys : List Y) (i : ℕ) (out : List X) (y : Y) (x : X) → i < length ys → y ≡ get_or ys i y → read i (shown y) ≡ Ok (view x) → Reads view shown read ys i out → Reads view shown read ys (i + 1) (out ++ x ∷ [])
reads_on {A} {B} view shown read ys i out y x lt e h f =
    let rest : Result (List A) ResolveFault = each_from read (i + 1) (map shown (drop (i + 1) ys)) in
    record {
      is = ap (λ (l : List A). joined l rest) (map-append view out (x ∷ []))
          ∙ (sym (joined_push (map view out) (view x) rest)
          ∙ (sym (ap (λ (r : Result A ResolveFault). joined (map view out) (in_front r rest)) h)
          ∙ (sym (ap (λ (bs : List B). joined (map view out) (each_from read i bs)) (next_element shown ys i y lt e)) ∙ f.is)));
    }

pub reads_fail : {A B X Y : Type 0} (view : X → A) (shown : Y → B) (read : ℕ → B → Result A ResolveFault) (ys : List Y) (i : ℕ) (out : List X) (y : Y) (fault : ResolveFault) → i < length ys → y ≡ get_or ys i y → read i (shown y) ≡ Err fault → Reads view shown read ys i out → each_from read 0 (map shown ys) ≡ Err fault
reads_fail {A} {B} view shown read ys i out y fault lt e h f =
    let rest : Result (List A) ResolveFault = each_from read (i + 1) (map shown (drop (i + 1) ys)) in
    sym f.is
    ∙ (ap (λ (bs : List B). joined (map view out) (each_from read i bs)) (next_element shown ys i y lt e)
    ∙ ap (λ (r : Result A ResolveFault). joined (map view out) (in_front r rest)) h)

pub reads_all : {A B X Y : Type 0} (view : X → A) (shown : Y → B) (read : ℕ → B → Result A ResolveFault) (ys : List Y) (i : ℕ) (out : List X) → length ys ≤ i → Reads view shown read ys i out → each_from read 0 (map shown ys) ≡ Ok (map view out)
reads_all {A} {B} {X} {Y} view shown read ys i out le f =
    sym f.is
    ∙ (ap (λ (zs : List Y). joined (map view out) (each_from read i (map shown zs))) (drop_all i ys le)
    ∙ ap (λ (l : List A). ok_of ResolveFault l) (append-nil (map view out)))

pub reads_error : {A B X Y : Type 0} (view : X → A) (shown : Y → B) (read : ℕ → B → Result A ResolveFault) (ys : List Y) (i : ℕ) (out : List X) (y : Y) (fault : ResolveFault) → i < length ys → y ≡ get_or ys i y → IsMemory fault ⊎ (read i (shown y) ≡ Err fault) → Reads view shown read ys i out → IsMemory fault ⊎ (each_from read 0 (map shown ys) ≡ Err fault)
reads_error view shown read ys i out y fault lt e h f = elim h [
  | inl m ↦ inl m
  | inr q ↦ inr (reads_fail view shown read ys i out y fault lt e q f)
]

pub ruleset read_laws = (reads_start, reads_on, reads_error, reads_all)

-- ---- checks

nothing_wrong : (part rest : List ResolveFault) → none_of part ≡ Ok tt → none_of (part ++ rest) ≡ none_of rest
nothing_wrong [] rest h = refl
nothing_wrong (e ∷ es) rest h = absurd cc

wrong_first : (part rest : List ResolveFault) (e : ResolveFault) → none_of part ≡ Err e → none_of (part ++ rest) ≡ Err e
wrong_first [] rest e h = absurd cc
wrong_first (d ∷ es) rest e h = h

pub no_fault : (o : Option ResolveFault) → o ≡ None → none_of (option_to_list o) ≡ Ok tt
no_fault o h = ap (λ (p : Option ResolveFault). none_of (option_to_list p)) h

pub one_fault : (o : Option ResolveFault) (e : ResolveFault) → o ≡ Some e → none_of (option_to_list o) ≡ Err e
one_fault o e h = ap (λ (p : Option ResolveFault). none_of (option_to_list p)) h

-- What is wrong with all is what is wrong with the rest.
pub record Checks {A B : Type 0} (view : A → B) (F : ℕ → List B → List ResolveFault) (xs : List A) (i : ℕ) : Type 0 where
  pub is : none_of (F 0 (map view xs)) ≡ none_of (F i (map view (drop i xs)))

pub checks_start : {A B : Type 0} (view : A → B) (F : ℕ → List B → List ResolveFault) (xs : List A) → Checks view F xs 0
checks_start view F xs = record { is = refl }

here : {A B : Type 0} (view : A → B) (F : ℕ → List B → List ResolveFault) (xs : List A) (i : ℕ) (x : A) (part : List ResolveFault) → i < length xs → x ≡ get_or xs i x → ((ys : List B) → F i (view x ∷ ys) ≡ part ++ F (i + 1) ys) → Checks view F xs i → none_of (F 0 (map view xs)) ≡ none_of (part ++ F (i + 1) (map view (drop (i + 1) xs)))
here {A} {B} view F xs i x part lt e s f =
    f.is
    ∙ (ap (λ (ys : List B). none_of (F i ys)) (next_element view xs i x lt e)
    ∙ ap none_of (s (map view (drop (i + 1) xs))))

pub checks_on : {A B : Type 0} (view : A → B) (F : ℕ → List B → List ResolveFault) (xs : List A) (i : ℕ) (x : A) (part : List ResolveFault) → i < length xs → x ≡ get_or xs i x → ((ys : List B) → F i (view x ∷ ys) ≡ part ++ F (i + 1) ys) → none_of part ≡ Ok tt → Checks view F xs i → Checks view F xs (i + 1)
checks_on view F xs i x part lt e s h f = record {
  is = here view F xs i x part lt e s f ∙ nothing_wrong part (F (i + 1) (map view (drop (i + 1) xs))) h;
}

pub checks_fail : {A B : Type 0} (view : A → B) (F : ℕ → List B → List ResolveFault) (xs : List A) (i : ℕ) (x : A) (part : List ResolveFault) (fault : ResolveFault) → i < length xs → x ≡ get_or xs i x → ((ys : List B) → F i (view x ∷ ys) ≡ part ++ F (i + 1) ys) → none_of part ≡ Err fault → Checks view F xs i → none_of (F 0 (map view xs)) ≡ Err fault
checks_fail view F xs i x part fault lt e s h f = here view F xs i x part lt e s f ∙ wrong_first part (F (i + 1) (map view (drop (i + 1) xs))) fault h

pub checks_all : {A B : Type 0} (view : A → B) (F : ℕ → List B → List ResolveFault) (xs : List A) (i : ℕ) → length xs ≤ i → F i [] ≡ [] → Checks view F xs i → none_of (F 0 (map view xs)) ≡ Ok tt
checks_all {A} view F xs i le none f =
    f.is
    ∙ (ap (λ (zs : List A). none_of (F i (map view zs))) (drop_all i xs le)
    ∙ ap none_of none)

pub checks_error : {A B : Type 0} (view : A → B) (F : ℕ → List B → List ResolveFault) (xs : List A) (i : ℕ) (x : A) (part : List ResolveFault) (fault : ResolveFault) → i < length xs → x ≡ get_or xs i x → ((ys : List B) → F i (view x ∷ ys) ≡ part ++ F (i + 1) ys) → IsMemory fault ⊎ (none_of part ≡ Err fault) → Checks view F xs i → IsMemory fault ⊎ (none_of (F 0 (map view xs)) ≡ Err fault)
checks_error view F xs i x part fault lt e s h f = elim h [
  | inl m ↦ inl m
  | inr q ↦ inr (checks_fail view F xs i x part fault lt e s q f)
]

-- two checks, one behind the other
pub both_clear : (part rest : List ResolveFault) → none_of part ≡ Ok tt → none_of rest ≡ Ok tt → none_of (part ++ rest) ≡ Ok tt
both_clear part rest h k = nothing_wrong part rest h ∙ k

pub first_wrong : (part rest : List ResolveFault) (e : ResolveFault) → none_of part ≡ Err e → none_of (part ++ rest) ≡ Err e
first_wrong part rest e h = wrong_first part rest e h

pub second_wrong : (part rest : List ResolveFault) (e : ResolveFault) → none_of part ≡ Ok tt → none_of rest ≡ Err e → none_of (part ++ rest) ≡ Err e
second_wrong part rest e h k = nothing_wrong part rest h ∙ k

pub first_error : (part rest : List ResolveFault) (e : ResolveFault) → IsMemory e ⊎ (none_of part ≡ Err e) → IsMemory e ⊎ (none_of (part ++ rest) ≡ Err e)
first_error part rest e h = elim h [ inl m ↦ inl m | inr q ↦ inr (wrong_first part rest e q) ]

-- the faults of things, of which there is a first one or none
pub none_wrong : {A : Type 0} (fault : A → ResolveFault) (xs : List A) → first xs ≡ None → none_of (map fault xs) ≡ Ok tt
none_wrong fault [] e = refl
none_wrong fault (x ∷ xs) e = absurd cc

pub one_wrong : {A : Type 0} (fault : A → ResolveFault) (xs : List A) (x : A) → first xs ≡ Some x → none_of (map fault xs) ≡ Err (fault x)
one_wrong fault [] x e = absurd cc
one_wrong {A} fault (y ∷ xs) x e = let same : y ≡ x = cc in ap (λ (z : A). err_of (Unit {0}) (fault z)) same

pub ruleset check_laws = (checks_start, checks_all)
