-- What one more key does to a table of first keys.
use Rattle.std.proofs.Common.{◌≡◌, ◌==◌, ◌&&◌, ◌||◌, ℕ, ◌+◌, ◌<◌, ◌≤◌, Bool, true, false, cond, if◌then◌else◌, not, List, [], ◌∷◌, ◌++◌, length, slice_get, Option, Some, None, IfSome, is_some, Result, Ok, Err, refl, sym, ap, subst, ◌∙◌, inl, inr, arith}
use Rattle.std.specs.BTreeMap.{IsUnchanged, Updates, get, is_at}
use Rattle.std.specs.Cmp.{tied_then}
use Rattle.std.specs.List.{list_any, position_from}
use Rattle.std.specs.Map.{lookup}
use Rattle.std.specs.Option.{option_and_then}
use Rattle.std.specs.Prelude.{OnErr, OnOk}
use Rattle.std.specs.Ordering.{is_eq, nat_cmp}
use Rattle.std.specs.Str.{bytes_eq}
use Rattle.std.proofs.lemmas.Bool.{cases_Bool}
use Rattle.std.proofs.lemmas.Bool.Decides.{nat_tests}
use Rattle.std.proofs.lemmas.Option.{slice_get_within}
use Rattle.cm_names.specs.Distinct.{AreDistinct}
use Rattle.cm_names.specs.KeyTables.{or_else}
use Rattle.cm_names.specs.TextNumbers.{number_in}
use Rattle.cm_names.proofs.KeyLaws.{or_none}
use Rattle.cm_names.proofs.NumberLaws.{numbered, one_text, number_stays, number_added, distinct_more, has_number}
use Rattle.cm_wit_names.specs.Pairs.{pair_cmp}
use Rattle.cm_wit_names.specs.FirstKeys.{first_under, place_in, found_in}
use Rattle.cm_wit_names.specs.Others.{NotesOther, Others}
use Rattle.cm_lemmas.proofs.Bools.{both_true, true_not_false}
use Rattle.cm_lemmas.proofs.Lists.{absent, any_there, get_left, get_last, same_text, text_same}
use Rattle.cm_lemmas.proofs.Numbers.{eq_of, eq_true}
use Rattle.cm_lemmas.proofs.Options.{none_some, some_number}
use Rattle.cm_lemmas.proofs.Orders.{same_number}

-- ---- pairs

pub same_pair : (a b : ℕ × ℕ) → is_eq (pair_cmp a b) ≡ ((a.0 == b.0) && (a.1 == b.1))
same_pair a b =
    sym (tied_then (nat_cmp a.0 b.0) (nat_cmp a.1 b.1))
    ∙ ap (λ t. t && is_eq (nat_cmp a.1 b.1)) (same_number a.0 b.0)
    ∙ ap (λ t. (a.0 == b.0) && t) (same_number a.1 b.1)

-- ---- names

-- what is not there has no number
pub no_number : (ts : List (List ℕ)) (t : List ℕ) (i : ℕ) → list_any (bytes_eq t) ts ≡ false → position_from (bytes_eq t) i ts ≡ None
no_number [] t i h = refl
no_number (x ∷ ts) t i h = elim (cases_Bool (bytes_eq t x)) [
  | inl e ↦ absurd (true_not_false (sym (any_there (x ∷ ts) t 0 (ap (λ (y : List ℕ). Some y) (sym (same_text t x e)))) ∙ h))
  | inr e ↦
      ap (λ b. cond b (Some i) (position_from (bytes_eq t) (i + 1) ts)) e
      ∙ no_number ts t (i + 1) (sym (ap (λ b. b || list_any (bytes_eq t) ts) e) ∙ h)
]

pub is_absent : (ts : List (List ℕ)) (t : List ℕ) (i : ℕ) → position_from (bytes_eq t) i ts ≡ None → list_any (bytes_eq t) ts ≡ false
is_absent [] t i e = refl
is_absent (x ∷ ts) t i e = elim (cases_Bool (bytes_eq t x)) [
  | inl h ↦ none_some i (sym e ∙ ap (λ b. cond b (Some i) (position_from (bytes_eq t) (i + 1) ts)) h)
  | inr h ↦ ap (λ b. b || list_any (bytes_eq t) ts) h ∙ is_absent ts t (i + 1) (sym (ap (λ b. cond b (Some i) (position_from (bytes_eq t) (i + 1) ts)) h) ∙ e)
]

-- where each name is there once, one that is found has the number where it stands
pub number_is : (ts : List (List ℕ)) (t : List ℕ) (o : Option ℕ) → AreDistinct ts → IfSome o (λ n. slice_get ts n ≡ Some t) → is_some o ≡ list_any (bytes_eq t) ts → o ≡ number_in ts t
number_is ts t None d there known = sym (no_number ts t 0 (sym known))
number_is ts t (Some n) d there known = sym (has_number ts t n d there)

-- another name that is added changes nothing
none_stays : (ts : List (List ℕ)) (t x : List ℕ) (i : ℕ) → position_from (bytes_eq t) i ts ≡ None → bytes_eq t x ≡ false → position_from (bytes_eq t) i (ts ++ x ∷ []) ≡ None
none_stays [] t x i e k = ap (λ b. cond b (Some i) None) k
none_stays (y ∷ ts) t x i e k = elim (cases_Bool (bytes_eq t y)) [
  | inl h ↦ none_some i (sym e ∙ ap (λ b. cond b (Some i) (position_from (bytes_eq t) (i + 1) ts)) h)
  | inr h ↦
      ap (λ b. cond b (Some i) (position_from (bytes_eq t) (i + 1) (ts ++ x ∷ []))) h
      ∙ none_stays ts t x (i + 1) (sym (ap (λ b. cond b (Some i) (position_from (bytes_eq t) (i + 1) ts)) h) ∙ e) k
]

-- ---- one more key

or_else_turned : (a b w : Option ℕ) → or_else a (or_else b w) ≡ or_else (or_else a b) w
or_else_turned None b w = refl
or_else_turned (Some x) b w = refl

and_turned : (a b : Bool) → (a && b) ≡ (b && a)
and_turned true true = refl
and_turned true false = refl
and_turned false true = refl
and_turned false false = refl

and_false : (a b : Bool) → b ≡ false → (a && b) ≡ false
and_false true b e = e
and_false false b e = refl

number_turned : (n m : ℕ) → (n == m) ≡ (m == n)
number_turned n m = sym (by (n == m) refl)
  where
    by : (t : Bool) → (n == m) ≡ t → (m == n) ≡ t
    by t e = grind (arith, nat_tests, e)

module _ (texts : List (List ℕ)) (firsts : List (ℕ × ℕ)) (n : ℕ) (name : List ℕ) (place : ℕ) where
  abbrev is_this : ℕ → List ℕ → Bool
  is_this m t = (m == n) && bytes_eq t name

  other_key : (o : Option ℕ) (m : ℕ) (t : List ℕ) → bytes_eq t name ≡ false → o ≡ or_else o (cond (is_this m t) (Some place) None)
  other_key o m t e = sym (ap (λ b. or_else o (cond b (Some place) None)) (and_false (m == n) (bytes_eq t name) e) ∙ or_none o)

  -- indices are the same where names are
  same_index : (i j : ℕ) (t : List ℕ) → number_in texts name ≡ Some i → number_in texts t ≡ Some j → (i == j) ≡ bytes_eq t name
  same_index i j t is e = elim (cases_Bool (bytes_eq t name)) [
    | inl y ↦ eq_true i j (some_number i j (sym is ∙ (ap (number_in texts) (sym (same_text t name y)) ∙ e))) ∙ sym y
    | inr k ↦ elim (cases_Bool (i == j)) [
      | inl q ↦ absurd (true_not_false (sym (text_same t name (one_text texts t name j e (is ∙ ap (λ (k : ℕ). Some k) (eq_of i j q)))) ∙ k))
      | inr f ↦ f ∙ sym k
    ]
  ]

  -- the key of an index is that of its name
  same_key : (i j m : ℕ) (t : List ℕ) → number_in texts name ≡ Some i → number_in texts t ≡ Some j → is_at (pair_cmp (i, n)) (j, m) ≡ is_this m t
  same_key i j m t is e =
      same_pair (i, n) (j, m)
      ∙ (ap (λ b. b && (n == m)) (same_index i j t is e)
      ∙ (ap (λ b. bytes_eq t name && b) (number_turned n m) ∙ and_turned (bytes_eq t name) (m == n)))

  -- a key whose name is there, and which the others get
  pub noted_known : (old new : Others) (i : ℕ) → number_in texts name ≡ Some i → NotesOther (i, n) place old new → (m : ℕ) (t : List ℕ) → found_in texts firsts new m t ≡ or_else (found_in texts firsts old m t) (cond (is_this m t) (Some place) None)
  noted_known old new i is up m t = by (number_in texts t) refl
    where
      by : (o : Option ℕ) → number_in texts t ≡ o → option_and_then (place_in firsts new m) o ≡ or_else (option_and_then (place_in firsts old m) o) (cond (is_this m t) (Some place) None)
      by None e = elim (cases_Bool (bytes_eq t name)) [
        | inl y ↦ none_some i (sym e ∙ (ap (number_in texts) (same_text t name y) ∙ is))
        | inr k ↦ other_key None m t k
      ]
      by (Some j) e =
          ap (or_else (first_under m (slice_get firsts j))) (up j m ∙ ap (λ b. or_else (get pair_cmp old (j, m)) (cond b (Some place) None)) (same_key i j m t is e))
          ∙ or_else_turned (first_under m (slice_get firsts j)) (get pair_cmp old (j, m)) (cond (is_this m t) (Some place) None)

  -- a key whose name is not there
  pub noted_new : (others : Others) → number_in texts name ≡ None → AreDistinct texts → length firsts ≡ length texts → ((i k : ℕ) → length firsts ≤ i → get pair_cmp others (i, k) ≡ None) → (m : ℕ) (t : List ℕ) → found_in (texts ++ name ∷ []) (firsts ++ (n, place) ∷ []) others m t ≡ or_else (found_in texts firsts others m t) (cond (is_this m t) (Some place) None)
  noted_new others none distinct as_many of_names m t = by (number_in texts t) refl
    where
      gone : list_any (bytes_eq name) texts ≡ false
      gone = is_absent texts name 0 none

      by : (o : Option ℕ) → number_in texts t ≡ o → found_in (texts ++ name ∷ []) (firsts ++ (n, place) ∷ []) others m t ≡ or_else (option_and_then (place_in firsts others m) o) (cond (is_this m t) (Some place) None)
      by (Some j) e =
          let there = numbered texts t j e in
          let lt : j < length firsts = omega (arith, as_many, slice_get_within texts j t there) in
          ap (option_and_then (place_in (firsts ++ (n, place) ∷ []) others m)) (number_stays texts (name ∷ []) t j e)
          ∙ (ap (λ f. or_else (first_under m f) (get pair_cmp others (j, m))) (get_left firsts ((n, place) ∷ []) j lt)
          ∙ other_key (place_in firsts others m j) m t (absent texts name t j gone there))
      by None e = elim (cases_Bool (bytes_eq t name)) [
        | inl y ↦
            let last : slice_get (firsts ++ (n, place) ∷ []) (length texts) ≡ Some (n, place) = ap (slice_get (firsts ++ (n, place) ∷ [])) (sym as_many) ∙ get_last firsts (n, place) in
            ap (λ (x : List ℕ). option_and_then (place_in (firsts ++ (n, place) ∷ []) others m) (number_in (texts ++ name ∷ []) x)) (same_text t name y)
            ∙ (ap (option_and_then (place_in (firsts ++ (n, place) ∷ []) others m)) (number_added texts (texts ++ name ∷ []) name (length texts) gone distinct refl refl)
            ∙ (ap (λ f. or_else (first_under m f) (get pair_cmp others (length texts, m))) last
            ∙ (ap (or_else (first_under m (Some (n, place)))) (of_names (length texts) m (omega (arith, as_many)))
            ∙ (or_none (first_under m (Some (n, place)))
            ∙ ap (λ b. cond b (Some place) None) (sym (and_turned (m == n) (bytes_eq t name) ∙ ap (λ b. b && (m == n)) y))))))
        | inr k ↦ ap (option_and_then (place_in (firsts ++ (n, place) ∷ []) others m)) (none_stays texts t name 0 e k) ∙ other_key None m t k
      ]

-- ---- what stays so

pub distinct_still : (old new : List (List ℕ)) (name : List ℕ) → number_in old name ≡ None → AreDistinct old → new ≡ old ++ name ∷ [] → AreDistinct new
distinct_still old new name none d e = subst AreDistinct (sym e) (distinct_more old name (is_absent old name 0 none) d)

-- a key that was put where none stood
pub put_law : (b : Bool) (old new : Others) (i n place : ℕ) → b ≡ not (is_some (get pair_cmp old (i, n))) → (b ≡ true → Updates pair_cmp old new (i, n) (Some place)) → (b ≡ false → IsUnchanged old new) → NotesOther (i, n) place old new
put_law b old new i n place is put kept j m = elim (cases_Bool (is_at (pair_cmp (i, n)) (j, m))) [
  | inl y ↦
      let both = both_true (i == j) (n == m) (sym (same_pair (i, n) (j, m)) ∙ y) in
      let same : get pair_cmp old (j, m) ≡ get pair_cmp old (i, n) = sym (ap (λ k. get pair_cmp old (k, n)) (eq_of i j both.0) ∙ ap (λ k. get pair_cmp old (j, k)) (eq_of n m both.1)) in
      here b (get pair_cmp old (j, m)) (is ∙ ap (λ o. not (is_some o)) (sym same))
      (λ t. (put t).0 (j, m) ∙ ap (λ c. cond c (Some place) (get pair_cmp old (j, m))) y)
      (λ f. ap (λ es. lookup (is_at (pair_cmp (j, m))) es) (kept f))
      ∙ ap (λ c. or_else (get pair_cmp old (j, m)) (cond c (Some place) None)) (sym y)
  | inr k ↦
      away b
      (λ t. (put t).0 (j, m) ∙ ap (λ c. cond c (Some place) (get pair_cmp old (j, m))) k)
      (λ f. ap (λ es. lookup (is_at (pair_cmp (j, m))) es) (kept f))
      ∙ sym (ap (λ c. or_else (get pair_cmp old (j, m)) (cond c (Some place) None)) k ∙ or_none (get pair_cmp old (j, m)))
]
  where
    here : {w : Option ℕ} (b : Bool) (o : Option ℕ) → b ≡ not (is_some o) → (b ≡ true → w ≡ Some place) → (b ≡ false → w ≡ o) → w ≡ or_else o (Some place)
    here b None e t f = t e
    here b (Some x) e t f = f e

    away : {w o : Option ℕ} (b : Bool) → (b ≡ true → w ≡ o) → (b ≡ false → w ≡ o) → w ≡ o
    away true t f = t refl
    away false t f = f refl

-- a place under the index of a name leaves those beyond the names without one
pub of_names_still : (size i n p : ℕ) (old new : Others) → i < size → ((k m : ℕ) → size ≤ k → get pair_cmp old (k, m) ≡ None) → NotesOther (i, n) p old new → (k m : ℕ) → size ≤ k → get pair_cmp new (k, m) ≡ None
of_names_still size i n p old new lt none up k m le =
    let differ : (i == k) ≡ false = neq_false i k (λ e. omega (arith, e, lt, le)) in
    up k m
    ∙ (ap (λ b. or_else (get pair_cmp old (k, m)) (cond b (Some p) None)) (same_pair (i, n) (k, m) ∙ ap (λ b. b && (n == m)) differ)
    ∙ (or_none (get pair_cmp old (k, m)) ∙ none k m le))
  where
    neq_false : (a b : ℕ) → (a ≡ b → ⊥) → (a == b) ≡ false
    neq_false a b f = elim (cases_Bool (a == b)) [
      | inl q ↦ absurd (f (eq_of a b q))
      | inr q ↦ q
    ]

pub of_names_after : {E : Type 0} (r : Result Bool E) (size i n p : ℕ) (old new : Others) → i < size → ((k m : ℕ) → size ≤ k → get pair_cmp old (k, m) ≡ None) → OnOk r (NotesOther (i, n) p old new) → OnErr r (IsUnchanged old new) → (k m : ℕ) → size ≤ k → get pair_cmp new (k, m) ≡ None
of_names_after (Ok x) size i n p old new lt none put same k m le = of_names_still size i n p old new lt none put k m le
of_names_after (Err e) size i n p old new lt none put same k m le = ap (λ es. lookup (is_at (pair_cmp (k, m))) es) same ∙ none k m le
