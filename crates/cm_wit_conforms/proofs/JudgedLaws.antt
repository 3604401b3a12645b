-- What is judged: the entries up to the first that finds nothing.
use Rattle.std.proofs.Common.{◌≡◌, ◌&&◌, Bool, true, false, if◌then◌else◌, List, [], ◌∷◌, ◌++◌, inl, inr, refl, sym, ap, subst, ◌∙◌, append_assoc}
use Rattle.std.proofs.lemmas.Bool.{cases_Bool}
use Rattle.std.proofs.lemmas.List.Folds.{list_all-append}
use Rattle.cm_wit_conforms.specs.Comparisons.{Comparison, nothing, two_sorts, two_funcs, two_types, two_resources, Entry}
use Rattle.cm_wit_conforms.specs.Conformance.{AllFit, Fits, IsFirstIn}
use Rattle.cm_types_arena.specs.declared.types.Types.{Types}
use Rattle.cm_wit_conforms.specs.Walks.{IsJudged, are_found, is_found, judged}
use Rattle.cm_wit_conforms.specs.declared.judged.Judged.{Judged}
use Rattle.cm_wit_conforms.specs.declared.fault.ConformItem.{ConformItem}
use Rattle.cm_wit_conforms.specs.declared.fault.ConformReason.{ConformReason}
use Rattle.cm_lemmas.proofs.Bools.{true_not_false}

-- ---- more entries

pub judged_more : (xs ys : List Entry) → are_found xs ≡ true → judged (xs ++ ys) ≡ xs ++ judged ys
judged_more [] ys found = refl
judged_more (x ∷ xs) ys found = elim (cases_Bool (is_found x.what)) [
  | inl y ↦ ap (λ (b : Bool). x ∷ (if b then judged (xs ++ ys) else [])) y ∙ ap (λ (es : List Entry). x ∷ es) (judged_more xs ys (sym (ap (λ (b : Bool). b && are_found xs) y) ∙ found))
  | inr n ↦ absurd (true_not_false (sym found ∙ ap (λ (b : Bool). b && are_found xs) n))
]

pub judged_all : (xs : List Entry) → are_found xs ≡ true → judged xs ≡ xs
judged_all [] found = refl
judged_all (x ∷ xs) found = elim (cases_Bool (is_found x.what)) [
  | inl y ↦ ap (λ (b : Bool). x ∷ (if b then judged xs else [])) y ∙ ap (λ (es : List Entry). x ∷ es) (judged_all xs (sym (ap (λ (b : Bool). b && are_found xs) y) ∙ found))
  | inr n ↦ absurd (true_not_false (sym found ∙ ap (λ (b : Bool). b && are_found xs) n))
]

pub judged_still : (xs ys : List Entry) → are_found xs ≡ false → judged (xs ++ ys) ≡ judged xs
judged_still [] ys found = absurd cc
judged_still (x ∷ xs) ys found = elim (cases_Bool (is_found x.what)) [
  | inl y ↦
      ap (λ (b : Bool). x ∷ (if b then judged (xs ++ ys) else [])) y
      ∙ (ap (λ (es : List Entry). x ∷ es) (judged_still xs ys (sym (ap (λ (b : Bool). b && are_found xs) y) ∙ found))
      ∙ sym (ap (λ (b : Bool). x ∷ (if b then judged xs else [])) y))
  | inr n ↦ ap (λ (b : Bool). x ∷ (if b then judged (xs ++ ys) else [])) n ∙ sym (ap (λ (b : Bool). x ∷ (if b then judged xs else [])) n)
]

one_judged : (e : Entry) → judged (e ∷ []) ≡ e ∷ []
one_judged e = elim (cases_Bool (is_found e.what)) [
  | inl y ↦ ap (λ (b : Bool). e ∷ (if b then judged [] else [])) y
  | inr n ↦ ap (λ (b : Bool). e ∷ (if b then judged [] else [])) n
]

pub judged_one : (xs : List Entry) (e : Entry) → are_found xs ≡ true → judged (xs ++ e ∷ []) ≡ judged xs ++ e ∷ []
judged_one xs e found =
    judged_more xs (e ∷ []) found
    ∙ (ap (λ (es : List Entry). xs ++ es) (one_judged e) ∙ sym (ap (λ (es : List Entry). es ++ e ∷ []) (judged_all xs found)))

pub found_one : (xs : List Entry) (e : Entry) → are_found xs ≡ true → are_found (xs ++ e ∷ []) ≡ is_found e.what
found_one xs e found = list_all-append (λ (x : Entry). is_found x.what) xs (e ∷ []) ∙ (ap (λ (b : Bool). b && (is_found e.what && true)) found ∙ and_true (is_found e.what))
  where
    and_true : (b : Bool) → (b && true) ≡ b
    and_true true = refl
    and_true false = refl

pub found_not : (xs ys : List Entry) → are_found xs ≡ false → are_found (xs ++ ys) ≡ false
found_not xs ys found = list_all-append (λ (x : Entry). is_found x.what) xs ys ∙ ap (λ (b : Bool). b && are_found ys) found

-- ---- all of them

fits_found : (all : List Entry) (what : Comparison) → Fits all what → is_found what ≡ true
fits_found all nothing h = absurd h
fits_found all two_sorts h = refl
fits_found all (two_funcs f g) h = refl
fits_found all (two_types x y) h = refl
fits_found all (two_resources a b) h = refl

pub all_judged : (all es : List Entry) → AllFit all (judged es) → AllFit all es
all_judged all [] h = tt
all_judged all (e ∷ es) h =
    let more : judged (e ∷ es) ≡ e ∷ judged es = ap (λ (b : Bool). e ∷ (if b then judged es else [])) (fits_found all e.what h.0) in
    (h.0, all_judged all es (rest (subst (λ (xs : List Entry). AllFit all xs) more h)))
  where
    rest : AllFit all (e ∷ judged es) → AllFit all (judged es)
    rest g = g.1

-- what is judged is the front of all
pub judged_front : (es : List Entry) → (rest : List Entry) × (es ≡ judged es ++ rest)
judged_front [] = ([], refl)
judged_front (e ∷ es) = elim (cases_Bool (is_found e.what)) [
  | inl y ↦
      let f = judged_front es in
      (f.0, ap (λ (xs : List Entry). e ∷ xs) f.1 ∙ sym (ap (λ (b : Bool). (e ∷ (if b then judged es else [])) ++ f.0) y))
  | inr n ↦ (es, sym (ap (λ (b : Bool). (e ∷ (if b then judged es else [])) ++ es) n))
]

pub first_judged : (all es : List Entry) (item : ConformItem) (r : ConformReason) → IsFirstIn all (judged es) item r → IsFirstIn all es item r
first_judged all es item r f =
    let g = judged_front es in record {
      front = f.front;
      entry = f.entry;
      rest = f.rest ++ g.0;
      split = g.1 ∙ (ap (λ (xs : List Entry). xs ++ g.0) f.split ∙ append_assoc f.front (f.entry ∷ f.rest) g.0);
      before = f.before;
      unfit = f.unfit;
      place = f.place;
      reason = f.reason;
    }

-- behind what finds nothing, nothing is judged
pub judged_end : (h w : Types) (xs ys : List Entry) (j : Judged) → j.found ≡ false → IsJudged h w xs j → IsJudged h w (xs ++ ys) j
judged_end h w xs ys j stops is =
    let found : are_found xs ≡ false = sym is.found ∙ stops in
    record { entries = is.entries ∙ sym (judged_still xs ys found); found = stops ∙ sym (found_not xs ys found) }
