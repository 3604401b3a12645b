-- What the changes of handle tables do to their free indices.
use Rattle.std.proofs.Common.{◌≡◌, ℕ, zero, suc, ◌+◌, ◌<◌, ◌==◌, inl, inr, Bool, true, false, List, []}
use Rattle.std.proofs.Common.{◌∷◌, ◌++◌, length, Option, Some, None, refl, sym, ap, subst, ◌∙◌, arith}
use Rattle.std.proofs.Common.{length-append}
use Rattle.std.specs.Prelude.{slice_get, slice_set, if◌then◌else◌}
use Rattle.std.proofs.lemmas.Bool.{cases_eq, cases_lt, eqb-true, eqb-false}
use Rattle.cm_handles.specs.Handles.{Handles, after_add, after_add_at, after_lend, after_release}
use Rattle.cm_handles.specs.Handles.{after_unlend, next_index}
use Rattle.cm_handles.specs.declared.handle.Handle.{Handle}
use Rattle.cm_abi_model.specs.declared.receiver.Receiver.{Receiver}
use Rattle.cm_abi_model.specs.Giving.{added_by, added_count, added_for, after_given, with_added}
use Rattle.cm_abi_model.specs.Receives.{HandleLeaf}
use Rattle.cm_abi_model.specs.Taken.{Met, after_met, content, lent, taken, taken_of, text_content}
use Rattle.cm_machine_model.specs.declared.frame.Lend.{Lend}
use Rattle.cm_machine_model.specs.State.{closed_after_trap, table_at, tables_after_call}
use Rattle.cm_machine_model.specs.State.{tables_after_unlend}
use Rattle.cm_machine_laws.specs.FreeIndices.{Free, after_adding, after_freeing, after_one_added}
use Rattle.cm_machine_laws.specs.FreeIndices.{after_use, count_for, free_in, index_for, indices_of}
use Rattle.cm_machine_laws.specs.FreeIndices.{index_among}
use Rattle.cm_machine_model.specs.declared.frame.Frame.{Frame}
use Rattle.cm_machine_laws.proofs.Tables.{set_length, table_other}
use Rattle.cm_lemmas.proofs.Lists.{set_past}
use Rattle.cm_machine_model.proofs.StateLaws.{table_same}

abbrev free_of : List ℕ → ℕ → Free
free_of freed unused = record { freed = freed; unused = unused }

-- ---- the next index

next_among : (freed : List ℕ) (slots : List (Option Handle))
    → next_index (record { slots = slots; freed = freed }) ≡ index_among freed (length slots)
next_among [] slots = refl
next_among (index ∷ freed) slots = refl

pub next_is : (t : Handles) → next_index t ≡ index_for (free_in t)
next_is t = next_among t.freed t.slots

-- ---- lends

unlent_free : (t : Handles) (k : ℕ) → free_in (after_unlend t k) ≡ free_in t
unlent_free t k = ap (λ (n : ℕ). free_of t.freed n) (set_length t.slots k _)

lent_free : (t : Handles) (k : ℕ) → free_in (after_lend t k) ≡ free_in t
lent_free t k = ap (λ (n : ℕ). free_of t.freed n) (set_length t.slots k _)

lend_ends_free : (ts : List Handles) (l : Lend) (j : ℕ)
    → free_in (table_at (tables_after_unlend l ts) j) ≡ free_in (table_at ts j)
lend_ends_free ts l j = elim (cases_eq j l.instance) as (λ r. free_in (table_at (tables_after_unlend l ts) j) ≡ free_in (table_at ts j)) [
  | inl same ↦ elim (cases_lt l.instance (length ts)) as (λ r. free_in (table_at (tables_after_unlend l ts) j) ≡ free_in (table_at ts j)) [
    | inl lt ↦ subst (λ (k : ℕ). free_in (table_at (tables_after_unlend l ts) k) ≡ free_in (table_at ts k)) (sym same)
        (ap (λ (t : Handles). free_in t) (table_same ts l.instance (after_unlend (table_at ts l.instance) l.index) lt)
        ∙ unlent_free (table_at ts l.instance) l.index)
    | inr past ↦ ap (λ (xs : List Handles). free_in (table_at xs j)) (set_past ts l.instance (after_unlend (table_at ts l.instance) l.index) past)
  ]
  | inr ne ↦ ap (λ (t : Handles). free_in t) (table_other ts l.instance j (after_unlend (table_at ts l.instance) l.index) ne)
]

pub call_ends_free : (n : ℕ) (ls : List Lend) (ts : List Handles) (j : ℕ)
    → free_in (table_at (tables_after_call n ls ts) j) ≡ free_in (table_at ts j)
call_ends_free n [] ts j = refl
call_ends_free n (l ∷ ls) ts j = call_ends_free n ls one j ∙ by (l.frame == n) where
  one : List Handles
  one = if l.frame == n then tables_after_unlend l ts else ts

  by : (b : Bool) → free_in (table_at (if b then tables_after_unlend l ts else ts) j) ≡ free_in (table_at ts j)
  by true = lend_ends_free ts l j
  by false = refl

-- ---- handles go

pub released_free : (t : Handles) (index : ℕ)
    → free_in (after_release t index) ≡ after_freeing (index ∷ []) (free_in t)
released_free t index = ap (λ (n : ℕ). free_of (index ∷ t.freed) n) (set_length t.slots index None)

pub met_free : (t : Handles) (ms : List Met)
    → free_in (after_met t ms) ≡ after_freeing (taken_of ms) (free_in t)
met_free t [] = refl
met_free t (text_content tags n ∷ ms) = met_free t ms
met_free t (content n ∷ ms) = met_free t ms
met_free t (taken i ∷ ms) = met_free (after_release t i) ms
    ∙ ap (λ (f : Free). after_freeing (taken_of ms) f) (released_free t i)
met_free t (lent i ∷ ms) = met_free (after_lend t i) ms
    ∙ ap (λ (f : Free). after_freeing (taken_of ms) f) (lent_free t i)

-- ---- handles come

at_added : (slots : List (Option Handle)) (freed : List ℕ) (h : Handle)
    → free_in (after_add_at slots freed h) ≡ after_one_added freed (length slots)
at_added slots [] h = ap (λ (n : ℕ). free_of [] n) (length-append slots (Some h ∷ []))
at_added slots (index ∷ freed) h = ap (λ (n : ℕ). free_of freed n) (set_length slots index (Some h))

pub added_free : (t : Handles) (h : Handle)
    → free_in (after_add t h) ≡ after_adding 1 (free_in t)
added_free t h = at_added t.slots t.freed h

given_step : (to : Receiver) (leaves : List HandleLeaf)
    → ((u : Handles) → free_in (after_given to u leaves) ≡ after_adding (added_count to leaves) (free_in u))
    → (t : Handles) (o : Option Handle)
    → free_in (after_given to (with_added t o) leaves)
    ≡ after_adding (added_by o + added_count to leaves) (free_in t)
given_step to leaves rest t None =
    rest t ∙ ap (λ (n : ℕ). after_adding n (free_in t)) (let e : added_count to leaves ≡ 0 + added_count to leaves = omega arith in e)
given_step to leaves rest t (Some h) =
    rest (after_add t h)
    ∙ (ap (λ (f : Free). after_adding (added_count to leaves) f) (added_free t h)
    ∙ ap (λ (n : ℕ). after_adding n (free_in t)) (let e : suc (added_count to leaves) ≡ 1 + added_count to leaves = omega arith in e))

pub given_free : (to : Receiver) (leaves : List HandleLeaf) (t : Handles)
    → free_in (after_given to t leaves) ≡ after_adding (added_count to leaves) (free_in t)
given_free to [] t = refl
given_free to (leaf ∷ leaves) t =
    given_step to leaves (λ u. given_free to leaves u) t (added_for to leaf)

-- ---- one table of some

pub set_frees : (ts us : List Handles) (i : ℕ) (new : Handles) (indices : List ℕ) → i < length ts
    → us ≡ slice_set ts i new → free_in new ≡ after_freeing indices (free_in (table_at ts i))
    → (j : ℕ) → free_in (table_at us j)
    ≡ after_use (record { frees = indices_of i indices j; adds = 0 }) (free_in (table_at ts j))
set_frees ts us i new indices lt set e j =
    ap (λ (xs : List Handles). free_in (table_at xs j)) set ∙ by (i == j) refl where
      by : (b : Bool) → (i == j) ≡ b → free_in (table_at (slice_set ts i new) j)
          ≡ after_freeing (if b then indices else []) (free_in (table_at ts j))
      by true same =
          subst (λ (k : ℕ). free_in (table_at (slice_set ts i new) k) ≡ after_freeing indices (free_in (table_at ts k))) (eqb-true i j same)
          (ap (λ (t : Handles). free_in t) (table_same ts i new lt) ∙ e)
      by false apart =
          ap (λ (t : Handles). free_in t) (table_other ts i j new (λ f. eqb-false i j apart (sym f)))

pub set_adds : (ts us : List Handles) (i : ℕ) (new : Handles) (count : ℕ) → i < length ts
    → us ≡ slice_set ts i new → free_in new ≡ after_adding count (free_in (table_at ts i))
    → (j : ℕ) → free_in (table_at us j)
    ≡ after_use (record { frees = []; adds = count_for i count j }) (free_in (table_at ts j))
set_adds ts us i new count lt set e j =
    ap (λ (xs : List Handles). free_in (table_at xs j)) set ∙ by (i == j) refl where
      by : (b : Bool) → (i == j) ≡ b → free_in (table_at (slice_set ts i new) j)
          ≡ after_adding (if b then count else 0) (free_in (table_at ts j))
      by true same =
          subst (λ (k : ℕ). free_in (table_at (slice_set ts i new) k) ≡ after_adding count (free_in (table_at ts k))) (eqb-true i j same)
          (ap (λ (t : Handles). free_in t) (table_same ts i new lt) ∙ e)
      by false apart =
          ap (λ (t : Handles). free_in t) (table_other ts i j new (λ f. eqb-false i j apart (sym f)))

-- one gives, and then another gets
pub set_both : (ts mid us : List Handles) (giver receiver : ℕ) (indices : List ℕ) (count : ℕ)
    → ((j : ℕ) → free_in (table_at mid j)
    ≡ after_use (record { frees = indices_of giver indices j; adds = 0 }) (free_in (table_at ts j)))
    → ((j : ℕ) → free_in (table_at us j)
    ≡ after_use (record { frees = []; adds = count_for receiver count j }) (free_in (table_at mid j)))
    → (j : ℕ) → free_in (table_at us j)
    ≡ after_use (record { frees = indices_of giver indices j; adds = count_for receiver count j })
    (free_in (table_at ts j))
set_both ts mid us giver receiver indices count first second j =
    second j ∙ ap (λ (f : Free). after_adding (count_for receiver count j) f) (first j)

-- ---- flags

set_stays : (cs : List Bool) (i j : ℕ) → slice_get cs j ≡ Some true
    → slice_get (slice_set cs i true) j ≡ Some true
set_stays [] i j e = e
set_stays (c ∷ cs) zero zero e = refl
set_stays (c ∷ cs) zero (suc j) e = e
set_stays (c ∷ cs) (suc i) zero e = e
set_stays (c ∷ cs) (suc i) (suc j) e = set_stays cs i j e

pub closed_stays : (fs : List Frame) (cs : List Bool) (j : ℕ) → slice_get cs j ≡ Some true
    → slice_get (closed_after_trap fs cs) j ≡ Some true
closed_stays [] cs j e = e
closed_stays (f ∷ fs) cs j e = closed_stays fs (slice_set cs f.instance true) j (set_stays cs f.instance j e)
