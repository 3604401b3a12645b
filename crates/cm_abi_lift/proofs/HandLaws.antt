-- Handing over one handle after another.
use Rattle.std.proofs.Common.{add-one, slice_set, ◌≡◌, ℕ, ◌+◌, ◌-◌, ◌<◌, ◌≤◌, ◌^◌, inl, inr, ◌↔◌, Bool, true, false, List, [], ◌∷◌, ◌++◌, length, map, take, drop, get_or, Option, Some, None, Result, Ok, Err, refl, sym, ap, subst, ◌∙◌, arith}
use Rattle.std.specs.Prelude.{Contains, if◌then◌else◌}
use Rattle.std.proofs.Math.Seq.{take-suc}
use Rattle.std.specs.Option.{ForSome, IsSome, IsSomeAnd, option_map, option_to_list}
use Rattle.std.specs.List.{slice_get}
use Rattle.std.proofs.lemmas.Bool.{cases_eq}
use Rattle.std.proofs.lemmas.List.{append-nil, append_assoc, length-append, set-get_or, take-append-drop, map-append}
use Rattle.cm_types.specs.declared.resource.ResourceId.{ResourceId}
use Rattle.cm_handles.specs.Handles.{Handles, TableState, IsDistinct, after_unlend, after_lend, after_release, handle_at, if_not_lent, if_owned, is_borrow, is_same_resource, look_up, of_resource, with_lends}
use Rattle.cm_handles.specs.declared.handle.Handle.{Handle}
use Rattle.cm_handles.specs.declared.handle.HandleKind.{HandleKind}
use Rattle.cm_handles.specs.declared.handle.HandleKind.TheVariants.{Owned, Borrowed}
use Rattle.cm_handles.specs.declared.fault.HandleFault.{HandleFault}
use Rattle.cm_handles.specs.declared.fault.HandleFault.TheVariants as handle_fault
use Rattle.cm_layout.specs.declared.layouts.HandleType.{HandleType}
use Rattle.cm_layout.specs.declared.layouts.HandleType.TheVariants as handle_type
use Rattle.cm_abi_model.specs.Taken.{AllThere, CanGo, GoesInTurn, IsThere, Met, after_met, text_content, content, content_of, lent, lent_of, taken, taken_of}
use Rattle.cm_abi_model.specs.declared.fault.AbiFault.{AbiFault}
use Rattle.cm_abi_load.specs.declared.progress.MetHandle.{MetHandle}
use Rattle.cm_abi_load.specs.Meeting.{AreAsWanted, IsOfKind, handles_in, met_as, met_index}
use Rattle.cm_abi_load.specs.Reading.{resource_of}
use Rattle.cm_abi_model.specs.Lifts.{Hands, LendsBelow}
use Rattle.cm_abi_lift.specs.HandingOver.{hand_next, hand_one, hand_over, lent_out, taken_out, untouched}
use Rattle.cm_handles.proofs.HandlesLaws.{beside_lent, beside_released, lent_there, free as not_lent_of, released, same_true}
use Rattle.cm_lemmas.proofs.Numbers.{eq_true}
use Rattle.cm_handles.proofs.FaultLaws.{okay, failed}
use Rattle.cm_handles.proofs.HandleLaws.{none_is, some_is}
use Rattle.cm_lemmas.proofs.Bools.{false_not_true}
use Rattle.cm_lemmas.proofs.Lists.{set_again}

-- ---- tables

-- ---- what stood at first stands still, lent more often, or is gone

pub record Still (first : Handles) (index : ℕ) (h : Handle) : Type 0 where
  pub entry : Handle
  pub stood : handle_at first index ≡ Some entry
  pub same : h ≡ with_lends h.lends entry
  pub more : entry.lends ≤ h.lends

abbrev pub Kept : Handles → Handles → Type 0
Kept first t = (i : ℕ) (h : Handle) → handle_at t i ≡ Some h → Still first i h

pub kept_first : (t : Handles) → Kept t t
kept_first t i h e = record { entry = h; stood = e; same = refl; more = omega arith }

pub kept_released : (first t : Handles) (j : ℕ) → Kept first t → Kept first (after_release t j)
kept_released first t j kept i h e = elim (cases_eq i j) [
  | inl same ↦ absurd (none_is (sym (released t j) ∙ (ap (handle_at (after_release t j)) (sym same) ∙ e)))
  | inr other ↦ kept i h (sym (beside_released t j i other) ∙ e)
]

lent_still : (first : Handles) (i : ℕ) (x h : Handle) → Still first i x → with_lends (x.lends + 1) x ≡ h → Still first i h
lent_still first i x h still e =
    let one : with_lends (x.lends + 1) x ≡ with_lends (x.lends + 1) still.entry = ap (with_lends (x.lends + 1)) still.same in
    subst (λ y. Still first i y) e (record { entry = still.entry; stood = still.stood; same = one; more = omega (arith, still.more) })

pub kept_lent : (first t : Handles) (j : ℕ) (x : Handle) → handle_at t j ≡ Some x → Kept first t → Kept first (after_lend t j)
kept_lent first t j x there kept i h e = elim (cases_eq i j) [
  | inl same ↦ lent_still first i x h (kept i x (ap (handle_at t) same ∙ there)) (some_is (sym (lent_there t j x there) ∙ (ap (handle_at (after_lend t j)) (sym same) ∙ e)))
  | inr other ↦ kept i h (sym (beside_lent t j i other) ∙ e)
]

-- ---- one handle

found_of : (o : Option Handle) (r : ResourceId) (h : Handle) → of_resource o r ≡ Ok h → (o ≡ Some h) × (is_same_resource h.resource r ≡ true)
found_of None r h e = absurd (cc)
found_of (Some x) r h e = picked (is_same_resource x.resource r) refl e
  where
    picked : (b : Bool) → is_same_resource x.resource r ≡ b → (if b then Ok x else Err handle_fault.WrongResource) ≡ Ok h → (Some x ≡ Some h) × (is_same_resource h.resource r ≡ true)
    picked true is k = let same : x ≡ h = cc in (ap Some same, ap (λ (y : Handle). is_same_resource y.resource r) (sym same) ∙ is)
    picked false is k = absurd (cc)

pub looked : (o : Option Handle) (r : ResourceId) (h : Handle) → o ≡ Some h → is_same_resource h.resource r ≡ true → of_resource o r ≡ Ok h
looked o r h stands of = ap (λ p. of_resource p r) stands ∙ (rw of refl)

owned_of : (r : Result Handle HandleFault) (h : Handle) → if_owned r ≡ Ok h → (r ≡ okay h) × (h.kind ≡ Owned)
owned_of (Err e) h is = absurd (cc)
owned_of (Ok x) h is = picked x.kind refl is
  where
    picked : (k : HandleKind) → x.kind ≡ k → (if is_borrow k then failed handle_fault.NotOwned else okay x) ≡ okay h → (okay x ≡ okay h) × (h.kind ≡ Owned)
    picked Owned kind e = let same : x ≡ h = cc in (e, ap (λ (y : Handle). y.kind) (sym same) ∙ kind)
    picked (Borrowed call) kind e = absurd (cc)

abbrev pub without : Hands → ℕ → Handle → Hands
without h index entry = record { table = after_release h.table index; owns = h.owns ++ entry ∷ []; lends = h.lends }

abbrev pub lending : Hands → ℕ → Hands
lending h index = record { table = after_lend h.table index; owns = h.owns; lends = h.lends ++ index ∷ [] }

pub record TakenOut (h : Hands) (r : ResourceId) (index : ℕ) (g : Hands) : Type 0 where
  pub entry : Handle
  pub stands : handle_at h.table index ≡ Some entry
  pub not_lent : entry.lends ≡ 0
  pub kind : entry.kind ≡ Owned
  pub is : without h index entry ≡ g

pub record LentOut (h : Hands) (index : ℕ) (g : Hands) : Type 0 where
  pub entry : Handle
  pub stands : handle_at h.table index ≡ Some entry
  pub is : lending h index ≡ g

taken_of_ok : (h : Hands) (index : ℕ) (r : Result Handle HandleFault) (g : Hands) → taken_out h index r ≡ Ok g → (x : Handle) × (r ≡ Ok x) × (without h index x ≡ g)
taken_of_ok h index (Err e) g is = absurd (cc)
taken_of_ok h index (Ok x) g is = (x, refl, cc)

lent_of_ok : (h : Hands) (index : ℕ) (r : Result Handle HandleFault) (g : Hands) → lent_out h index r ≡ Ok g → (x : Handle) × (r ≡ Ok x) × (lending h index ≡ g)
lent_of_ok h index (Err e) g is = absurd (cc)
lent_of_ok h index (Ok x) g is = (x, refl, cc)

pub one_own : (h : Hands) (r : ResourceId) (index : ℕ) (g : Hands) → hand_one h (handle_type.Own r) index ≡ Ok g → TakenOut h r index g
unfolding hand_one
one_own h r index g e =
    let out = taken_of_ok h index (if_owned (if_not_lent (look_up h.table index r))) g e in
    let owned = owned_of (if_not_lent (look_up h.table index r)) out.0 out.1 in
    let free = not_lent_of (look_up h.table index r) out.0 owned.0 in
    let found = found_of (handle_at h.table index) r out.0 free.0 in
    record { entry = out.0; stands = found.0; not_lent = free.1; kind = owned.1; is = out.2 }

pub one_borrow : (h : Hands) (r : ResourceId) (index : ℕ) (g : Hands) → hand_one h (handle_type.Borrow r) index ≡ Ok g → LentOut h index g
unfolding hand_one
one_borrow h r index g e =
    let out = lent_of_ok h index (look_up h.table index r) g e in
    let found = found_of (handle_at h.table index) r out.0 out.1 in
    record { entry = out.0; stands = found.0; is = out.2 }

own_goes : (h : Hands) (r : ResourceId) (index : ℕ) (x : Handle) → handle_at h.table index ≡ Some x → x.lends ≡ 0 → x.resource ≡ r → x.kind ≡ Owned
    → hand_one h (handle_type.Own r) index ≡ Ok (without h index x)
unfolding hand_one
own_goes h r index x stands free of kind =
    ap (λ q. taken_out h index (if_owned (if_not_lent q))) (looked (handle_at h.table index) r x stands (same_true x.resource r of))
    ∙ rw (eq_true x.lends 0 free, kind) refl

borrow_goes : (h : Hands) (r : ResourceId) (index : ℕ) (x : Handle) → handle_at h.table index ≡ Some x → x.resource ≡ r → hand_one h (handle_type.Borrow r) index ≡ Ok (lending h index)
unfolding hand_one
borrow_goes h r index x stands of = ap (lent_out h index) (looked (handle_at h.table index) r x stands (same_true x.resource r of))

-- ---- one after another

-- from here on these were handed over
pub record HandsOver (first : Handles) (h : Hands) (ms : List Met) (g : Hands) : Type 0 where
  pub goes : GoesInTurn h.table 0 ms
  pub table : g.table ≡ after_met h.table ms
  pub owns : map Some g.owns ≡ map Some h.owns ++ map (handle_at first) (taken_of ms)
  pub lends : g.lends ≡ h.lends ++ lent_of ms

next_ok : (r : Result Hands AbiFault) (f : Hands → Result Hands AbiFault) (g : Hands) → hand_next r f ≡ Ok g → (k : Hands) × (r ≡ Ok k) × (f k ≡ Ok g)
next_ok (Err e) f g is = absurd (cc)
next_ok (Ok k) f g is = (k, refl, is)

free_same : (n : ℕ) (h x : Handle) → h ≡ with_lends h.lends x → x.lends ≤ h.lends → h.lends ≡ 0 → x ≡ h
free_same n h x same more free =
    let none : x.lends ≡ h.lends = omega (arith, more, free) in
    ap (λ m. with_lends m x) none ∙ sym same

one_over : (first : Handles) (h g : Hands) (wanted : HandleType) (index : ℕ) (ms : List MetHandle) → Kept first h.table
    → ((k : Hands) → Kept first k.table → hand_over k ms ≡ Ok g → HandsOver first k (map met_as ms) g)
    → hand_next (hand_one h wanted index) (λ k. hand_over k ms) ≡ Ok g → HandsOver first h (met_index wanted index ∷ map met_as ms) g
one_over first h g (handle_type.Own r) index ms kept later e =
    let next = next_ok (hand_one h (handle_type.Own r) index) (λ k. hand_over k ms) g e in
    let out = one_own h r index next.0 next.1 in
    let behind = later (without h index out.entry) (kept_released first h.table index kept) (ap (λ k. hand_over k ms) out.is ∙ next.2) in
    let still = kept index out.entry out.stands in
    let stood : handle_at first index ≡ Some out.entry = still.stood ∙ ap Some (free_same 0 out.entry still.entry still.same still.more out.not_lent) in
    record {
      goes = (record { entry = out.entry; stands = out.stands; not_lent = out.not_lent }, behind.goes);
      table = behind.table;
      owns = behind.owns
          ∙ (ap (λ xs. xs ++ map (handle_at first) (taken_of (map met_as ms))) (map-append Some h.owns (out.entry ∷ []))
          ∙ (append_assoc (map Some h.owns) (Some out.entry ∷ []) (map (handle_at first) (taken_of (map met_as ms)))
          ∙ ap (λ x. map Some h.owns ++ x ∷ map (handle_at first) (taken_of (map met_as ms))) (sym stood)));
      lends = behind.lends;
    }
one_over first h g (handle_type.Borrow r) index ms kept later e =
    let next = next_ok (hand_one h (handle_type.Borrow r) index) (λ k. hand_over k ms) g e in
    let out = one_borrow h r index next.0 next.1 in
    let behind = later (lending h index) (kept_lent first h.table index out.entry out.stands kept) (ap (λ k. hand_over k ms) out.is ∙ next.2) in
    record {
      goes = ((out.entry, out.stands), behind.goes);
      table = behind.table;
      owns = behind.owns;
      lends = behind.lends ∙ append_assoc h.lends (index ∷ []) (lent_of (map met_as ms));
    }

pub all_over : (first : Handles) (h g : Hands) (ms : List MetHandle) → Kept first h.table → hand_over h ms ≡ Ok g → HandsOver first h (map met_as ms) g
all_over first h g [] kept e =
    let same : h ≡ g = cc in
    subst (HandsOver first h []) same (record { goes = tt; table = refl; owns = sym (append-nil (map Some h.owns)); lends = sym (append-nil h.lends) })
all_over first h g (m ∷ ms) kept e = one_over first h g m.wanted m.index ms kept (λ k keeps is. all_over first k g ms keeps is) e

-- the other way
one_goes : (first : Handles) (h : Hands) (wanted : HandleType) (index : ℕ) (ms : List MetHandle) (x : Handle) → Kept first h.table
    → handle_at first index ≡ Some x → x.resource ≡ resource_of wanted → IsOfKind wanted x
    → ((k : Hands) → Kept first k.table → GoesInTurn k.table 0 (map met_as ms) → (g : Hands) × (hand_over k ms ≡ Ok g))
    → GoesInTurn h.table 0 (met_index wanted index ∷ map met_as ms) → (g : Hands) × (hand_next (hand_one h wanted index) (λ k. hand_over k ms) ≡ Ok g)
one_goes first h (handle_type.Own r) index ms x kept stood of kind later go =
    let y = go.0.entry in
    let still = kept index y go.0.stands in
    let same : y ≡ with_lends y.lends x = still.same ∙ ap (with_lends y.lends) (some_is (sym still.stood ∙ stood)) in
    let next = own_goes h r index y go.0.stands go.0.not_lent (ap (λ (z : Handle). z.resource) same ∙ of) (ap (λ (z : Handle). z.kind) same ∙ kind) in
    let behind = later (without h index y) (kept_released first h.table index kept) go.1 in
    (behind.0, ap (λ r. hand_next r (λ k. hand_over k ms)) next ∙ behind.1)
one_goes first h (handle_type.Borrow r) index ms x kept stood of kind later go =
    let y = go.0.0 in
    let still = kept index y go.0.1 in
    let same : y ≡ with_lends y.lends x = still.same ∙ ap (with_lends y.lends) (some_is (sym still.stood ∙ stood)) in
    let next = borrow_goes h r index y go.0.1 (ap (λ (z : Handle). z.resource) same ∙ of) in
    let behind = later (lending h index) (kept_lent first h.table index y go.0.1 kept) go.1 in
    (behind.0, ap (λ r. hand_next r (λ k. hand_over k ms)) next ∙ behind.1)

pub all_go : (first : Handles) (h : Hands) (ms : List MetHandle) → Kept first h.table → AreAsWanted first ms → GoesInTurn h.table 0 (map met_as ms) → (g : Hands) × (hand_over h ms ≡ Ok g)
all_go first h [] kept wanted go = (h, refl)
all_go first h (m ∷ ms) kept wanted go =
    one_goes first h m.wanted m.index ms wanted.0.entry kept wanted.0.stands wanted.0.of_resource wanted.0.of_kind (λ k keeps goes. all_go first k ms keeps wanted.1 goes) go

-- ---- what is met, without its content

taken_handles : (ms : List Met) → taken_of (handles_in ms) ≡ taken_of ms
taken_handles [] = refl
taken_handles (text_content tags n ∷ ms) = taken_handles ms
taken_handles (content n ∷ ms) = taken_handles ms
taken_handles (taken i ∷ ms) = ap (λ is. i ∷ is) (taken_handles ms)
taken_handles (lent i ∷ ms) = taken_handles ms

lent_handles : (ms : List Met) → lent_of (handles_in ms) ≡ lent_of ms
lent_handles [] = refl
lent_handles (text_content tags n ∷ ms) = lent_handles ms
lent_handles (content n ∷ ms) = lent_handles ms
lent_handles (taken i ∷ ms) = lent_handles ms
lent_handles (lent i ∷ ms) = ap (λ is. i ∷ is) (lent_handles ms)

no_content : (ms : List Met) → content_of (handles_in ms) ≡ 0
no_content [] = refl
no_content (text_content tags n ∷ ms) = no_content ms
no_content (content n ∷ ms) = no_content ms
no_content (taken i ∷ ms) = no_content ms
no_content (lent i ∷ ms) = no_content ms

pub after_handles : (t : Handles) (ms : List Met) → after_met t (handles_in ms) ≡ after_met t ms
after_handles t [] = refl
after_handles t (text_content tags n ∷ ms) = after_handles t ms
after_handles t (content n ∷ ms) = after_handles t ms
after_handles t (taken i ∷ ms) = after_handles (after_release t i) ms
after_handles t (lent i ∷ ms) = after_handles (after_lend t i) ms

can_handles : (t : Handles) (most : ℕ) (ms : List Met) → CanGo t most ms → CanGo t 0 (handles_in ms)
can_handles t most ms go = record {
  once = subst IsDistinct (sym (taken_handles ms)) go.once;
  free = λ i h c e. go.free i h (subst (λ is. Contains is i) (taken_handles ms) c) e;
  apart = λ i c d. go.apart i (subst (λ is. Contains is i) (taken_handles ms) c) (subst (λ is. Contains is i) (lent_handles ms) d);
  small = omega (arith, no_content ms);
}

can_all : (t : Handles) (most : ℕ) (ms : List Met) → content_of ms ≤ most → CanGo t 0 (handles_in ms) → CanGo t most ms
can_all t most ms small go = record {
  once = subst IsDistinct (taken_handles ms) go.once;
  free = λ i h c e. go.free i h (subst (λ is. Contains is i) (sym (taken_handles ms)) c) e;
  apart = λ i c d. go.apart i (subst (λ is. Contains is i) (sym (taken_handles ms)) c) (subst (λ is. Contains is i) (sym (lent_handles ms)) d);
  small = small;
}

-- each that was met as wanted stands
one_there : (t : Handles) (wanted : HandleType) (index : ℕ) (ms : List Met) → IsThere t index → AllThere t ms → AllThere t (met_index wanted index ∷ ms)
one_there t (handle_type.Own r) index ms here rest = (here, rest)
one_there t (handle_type.Borrow r) index ms here rest = (here, rest)

all_there : (t : Handles) (ms : List MetHandle) → AreAsWanted t ms → AllThere t (map met_as ms)
all_there t [] wanted = tt
all_there t (m ∷ ms) wanted = one_there t m.wanted m.index (map met_as ms) (wanted.0.entry, wanted.0.stands) (all_there t ms wanted.1)

-- the law on handing over in turn
abbrev pub TurnLaw : Type 0
TurnLaw = (t : Handles) (most : ℕ) (ms : List Met) → AllThere t ms → CanGo t most ms ↔ GoesInTurn t most ms

pub record Over (t : Handles) (most : ℕ) (ms : List Met) (g : Hands) : Type 0 where
  pub can : CanGo t most ms
  pub table : g.table ≡ after_met t ms
  pub owns : map Some g.owns ≡ map (handle_at t) (taken_of ms)
  pub lends : g.lends ≡ lent_of ms

-- what was handed over can be handed over, and is gone
pub over : TurnLaw → (t : Handles) (most : ℕ) (ms : List Met) (found : List MetHandle) (g : Hands) → content_of ms ≤ most → map met_as found ≡ handles_in ms → AreAsWanted t found
    → hand_over (untouched t) found ≡ Ok g → Over t most ms g
over turn t most ms found g small same wanted e =
    let done = all_over t (untouched t) g found (kept_first t) e in
    let can = (turn t 0 (map met_as found) (all_there t found wanted)).1 done.goes in
    record {
      can = can_all t most ms small (subst (CanGo t 0) same can);
      table = done.table ∙ (ap (after_met t) same ∙ after_handles t ms);
      owns = done.owns ∙ ap (λ ns. map (handle_at t) ns) (ap taken_of same ∙ taken_handles ms);
      lends = done.lends ∙ (ap lent_of same ∙ lent_handles ms);
    }

-- what can be handed over is
pub goes_over : TurnLaw → (t : Handles) (most : ℕ) (ms : List Met) (found : List MetHandle) → map met_as found ≡ handles_in ms → AreAsWanted t found → CanGo t most ms
    → (g : Hands) × (hand_over (untouched t) found ≡ Ok g)
goes_over turn t most ms found same wanted can =
    all_go t (untouched t) found (kept_first t) wanted
    ((turn t 0 (map met_as found) (all_there t found wanted)).0 (subst (CanGo t 0) (sym same) (can_handles t most ms can)))

-- ---- taking back

last_same : {A : Type 0} (xs ys : List A) (x y : A) → xs ++ x ∷ [] ≡ ys ++ y ∷ [] → (xs ≡ ys) × (x ≡ y)
last_same [] [] x y e = (refl, cc)
last_same {A} [] (z ∷ ys) x y e = absurd (too_long ys e)
  where
    too_long : (ys : List A) → x ∷ [] ≡ z ∷ (ys ++ y ∷ []) → ⊥
    too_long [] e = cc
    too_long (w ∷ ys) e = cc
last_same {A} (z ∷ xs) [] x y e = absurd (too_long xs e)
  where
    too_long : (xs : List A) → z ∷ (xs ++ x ∷ []) ≡ y ∷ [] → ⊥
    too_long [] e = cc
    too_long (w ∷ xs) e = cc
last_same (z ∷ xs) (w ∷ ys) x y e =
    let head : z ≡ w = cc in
    let tail : xs ++ x ∷ [] ≡ ys ++ y ∷ [] = cc in
    let rest = last_same xs ys x y tail in
    (ap (λ u. u ∷ xs) head ∙ ap (λ us. w ∷ us) rest.0, rest.1)

hands_same : (g h : Hands) → g.table ≡ h.table → g.owns ≡ h.owns → g.lends ≡ h.lends → g ≡ h
hands_same g h a b c = ap (λ t. made t g.owns g.lends) a ∙ (ap (λ os. made h.table os g.lends) b ∙ ap (made h.table h.owns) c)
  where
    made : Handles → List Handle → List ℕ → Hands
    made t os ls = record { table = t; owns = os; lends = ls }

pub can_restore : (u g : Hands) (w : HandleType) (r : ResourceId) (i : ℕ) → w ≡ handle_type.Own r → hand_one u w i ≡ Ok g → slice_get g.table.freed 0 ≡ Some i
can_restore u g w r i is e =
    let out = one_own u r i g (subst (λ x. hand_one u x i ≡ Ok g) is e) in
    ap (λ (k : Hands). slice_get k.table.freed 0) (sym out.is)

pub can_unlend : (u g : Hands) (w : HandleType) (r : ResourceId) (i : ℕ) → w ≡ handle_type.Borrow r → hand_one u w i ≡ Ok g → IsSomeAnd (handle_at g.table i) (λ h. 0 < h.lends)
can_unlend u g w r i is e =
    let out = one_borrow u r i g (subst (λ x. hand_one u x i ≡ Ok g) is e) in
    let there = ap (λ (k : Hands). handle_at k.table i) (sym out.is) ∙ lent_there u.table i out.entry out.stands in
    let more : 0 < out.entry.lends + 1 = omega arith in
    subst (λ o. IsSomeAnd o (λ h. 0 < h.lends)) (sym there) more

pub none_no : {A : Type 0} (o : Option A) → o ≡ None → IsSome o → ⊥
none_no o is some = false_not_true (subst IsSome is some)

-- the own handle that was taken out last is put back
pub own_back : (u g : Hands) (w : HandleType) (r : ResourceId) (i : ℕ) (popped : List Handle) (last : Handle) (restored : Handles) → w ≡ handle_type.Own r → hand_one u w i ≡ Ok g
    → g.owns ≡ popped ++ last ∷ []
    → ((before : Handles) → handle_at before i ≡ Some last → g.table ≡ after_release before i → restored ≡ before)
    → ◌≡◌ {A = Hands} (record { table = restored; owns = popped; lends = g.lends }) u
own_back u g w r i popped last restored is e items undoes =
    let out = one_own u r i g (subst (λ x. hand_one u x i ≡ Ok g) is e) in
    let one : u.owns ++ out.entry ∷ [] ≡ popped ++ last ∷ [] = ap (λ (k : Hands). k.owns) out.is ∙ items in
    let same = last_same u.owns popped out.entry last one in
    let table_is : restored ≡ u.table = undoes u.table (out.stands ∙ ap (λ x. Some x) same.1) (ap (λ (k : Hands). k.table) (sym out.is)) in
    hands_same (record { table = restored; owns = popped; lends = g.lends }) u table_is (sym same.0) (ap (λ (k : Hands). k.lends) (sym out.is))

-- there was one to put back
pub own_some : (u g : Hands) (w : HandleType) (r : ResourceId) (i : ℕ) → w ≡ handle_type.Own r → hand_one u w i ≡ Ok g → 0 < length g.owns
own_some u g w r i is e =
    let out = one_own u r i g (subst (λ x. hand_one u x i ≡ Ok g) is e) in
    let n : length (u.owns ++ out.entry ∷ []) ≡ length u.owns + 1 = length-append u.owns (out.entry ∷ []) in
    let m : length (u.owns ++ out.entry ∷ []) ≡ length g.owns = ap (λ (k : Hands). length k.owns) out.is in
    omega (arith, n, m)

one_less : (x : Handle) → with_lends (x.lends + 1 - 1) (with_lends (x.lends + 1) x) ≡ x
one_less x = let same : x.lends + 1 - 1 ≡ x.lends = omega arith in ap (λ n. with_lends n x) same

unlent : (t : Handles) (i : ℕ) (x : Handle) → handle_at t i ≡ Some x → after_unlend (after_lend t i) i ≡ t
unlent t i x stands =
    let slots : slice_set (after_lend t i).slots i (option_map (λ h. with_lends (h.lends - 1) h) (handle_at (after_lend t i) i)) ≡ t.slots =
    ap (λ o. slice_set (after_lend t i).slots i (option_map (λ h. with_lends (h.lends - 1) h) o)) (lent_there t i x stands)
    ∙ (ap (λ y. slice_set (after_lend t i).slots i (Some y)) (one_less x)
    ∙ (set_again t.slots i (option_map (λ h. with_lends (h.lends + 1) h) (handle_at t i)) (Some x)
    ∙ (ap (slice_set t.slots i) (sym stands) ∙ set-get_or t.slots i None))) in
    ap (λ xs. record t { slots = xs }) slots

pub borrow_back : (u g : Hands) (w : HandleType) (r : ResourceId) (i : ℕ) (popped : List ℕ) (o : Option ℕ) (back : Handles) → w ≡ handle_type.Borrow r → hand_one u w i ≡ Ok g
    → g.lends ≡ popped ++ option_to_list o → (0 < length g.lends → IsSome o) → back ≡ after_unlend g.table i
    → ◌≡◌ {A = Hands} (record { table = back; owns = g.owns; lends = popped }) u
borrow_back u g w r i popped None back is e items some back_is =
    let out = one_borrow u r i g (subst (λ x. hand_one u x i ≡ Ok g) is e) in
    let n : length (u.lends ++ i ∷ []) ≡ length u.lends + 1 = length-append u.lends (i ∷ []) in
    let m : length (u.lends ++ i ∷ []) ≡ length g.lends = ap (λ (k : Hands). length k.lends) out.is in
    absurd (false_not_true (some (omega (arith, n, m))))
borrow_back u g w r i popped (Some last) back is e items some back_is =
    let out = one_borrow u r i g (subst (λ x. hand_one u x i ≡ Ok g) is e) in
    let one : u.lends ++ i ∷ [] ≡ popped ++ last ∷ [] = ap (λ (k : Hands). k.lends) out.is ∙ items in
    let same = last_same u.lends popped i last one in
    let table_is : back ≡ u.table = back_is ∙ (ap (λ (k : Hands). after_unlend k.table i) (sym out.is) ∙ unlent u.table i out.entry out.stands) in
    hands_same (record { table = back; owns = g.owns; lends = popped }) u table_is (ap (λ (k : Hands). k.owns) (sym out.is)) (sym same.0)

-- ---- the first of them

over_next : (r : Result Hands AbiFault) (xs ys : List MetHandle) → ((k : Hands) → hand_over k (xs ++ ys) ≡ hand_next (hand_over k xs) (λ j. hand_over j ys))
    → hand_next r (λ k. hand_over k (xs ++ ys)) ≡ hand_next (hand_next r (λ k. hand_over k xs)) (λ k. hand_over k ys)
over_next (Err e) xs ys later = refl
over_next (Ok k) xs ys later = later k

pub over_append : (h : Hands) (xs ys : List MetHandle) → hand_over h (xs ++ ys) ≡ hand_next (hand_over h xs) (λ k. hand_over k ys)
over_append h [] ys = refl
over_append h (m ∷ xs) ys = over_next (hand_one h m.wanted m.index) xs ys (λ k. over_append k xs ys)

one_only : (r : Result Hands AbiFault) → hand_next r (λ k. Ok k) ≡ r
one_only (Err e) = refl
one_only (Ok k) = refl

all_ones : (m : MetHandle) (r : Result Hands AbiFault) → hand_next r (λ k. hand_over k (m ∷ [])) ≡ hand_next r (λ k. hand_one k m.wanted m.index)
all_ones m (Err e) = refl
all_ones m (Ok k) = one_only (hand_one k m.wanted m.index)

first_and_one : (h : Hands) (ms : List MetHandle) (i : ℕ) (d : MetHandle) → i < length ms
    → hand_over h (take (i + 1) ms) ≡ hand_next (hand_over h (take i ms)) (λ k. hand_one k (get_or ms i d).wanted (get_or ms i d).index)
first_and_one h ms i d lt =
    let split : take (i + 1) ms ≡ take i ms ++ get_or ms i d ∷ [] = rw (add-one, take-suc ms i d lt) refl in
    ap (hand_over h) split ∙ (over_append h (take i ms) (get_or ms i d ∷ []) ∙ all_ones (get_or ms i d) (hand_over h (take i ms)))

-- one more was handed over
pub first_more : (h g : Hands) (ms : List MetHandle) (i : ℕ) (d : MetHandle) (r : Result Hands AbiFault) → i < length ms
    → hand_over h (take i ms) ≡ Ok g → hand_one g (get_or ms i d).wanted (get_or ms i d).index ≡ r → hand_over h (take (i + 1) ms) ≡ r
first_more h g ms i d r lt so_far e = first_and_one h ms i d lt ∙ (ap (λ q. hand_next q (λ k. hand_one k (get_or ms i d).wanted (get_or ms i d).index)) so_far ∙ e)

-- the last of them
pub first_less : (h g : Hands) (ms : List MetHandle) (left i : ℕ) (d : MetHandle) → left ≡ i + 1 → left ≤ length ms
    → hand_over h (take left ms) ≡ Ok g → (k : Hands) × (hand_over h (take i ms) ≡ Ok k) × (hand_one k (get_or ms i d).wanted (get_or ms i d).index ≡ Ok g)
first_less h g ms left i d step within e =
    let lt : i < length ms = omega (arith, step, within) in
    next_ok (hand_over h (take i ms)) (λ k. hand_one k (get_or ms i d).wanted (get_or ms i d).index) g (sym (first_and_one h ms i d lt) ∙ (ap (λ n. hand_over h (take n ms)) (sym step) ∙ e))

-- what fails at one fails at all
pub all_fail : (h : Hands) (ms : List MetHandle) (i : ℕ) (f : AbiFault) → hand_over h (take i ms) ≡ Err f → hand_over h ms ≡ Err f
all_fail h ms i f e =
    ap (hand_over h) (sym (take-append-drop i ms)) ∙ (over_append h (take i ms) (drop i ms) ∙ ap (λ q. hand_next q (λ k. hand_over k (drop i ms))) e)

-- ---- how often handles are lent

pub few_lends : (n : ℕ) (t : Handles) (i : ℕ) → LendsBelow n t → n ≤ 2 ^ 101 → ForSome (handle_at t i) (λ h. h.lends < 2 ^ 101)
few_lends n t i below small = λ x e. let lt : x.lends < n = below i x e in omega (arith, lt, small)

below_released : (n : ℕ) (t : Handles) (j : ℕ) → LendsBelow n t → LendsBelow (n + 1) (after_release t j)
below_released n t j below i h e = elim (cases_eq i j) [
  | inl same ↦ absurd (none_is (sym (released t j) ∙ (ap (handle_at (after_release t j)) (sym same) ∙ e)))
  | inr other ↦ let lt : h.lends < n = below i h (sym (beside_released t j i other) ∙ e) in omega (arith, lt)
]

below_lent : (n : ℕ) (t : Handles) (j : ℕ) (x : Handle) → handle_at t j ≡ Some x → LendsBelow n t → LendsBelow (n + 1) (after_lend t j)
below_lent n t j x there below i h e = elim (cases_eq i j) [
  | inl same ↦
      let is : with_lends (x.lends + 1) x ≡ h = some_is (sym (lent_there t j x there) ∙ (ap (handle_at (after_lend t j)) (sym same) ∙ e)) in
      let lends : x.lends + 1 ≡ h.lends = ap (λ (y : Handle). y.lends) is in
      let lt : x.lends < n = below j x there in
      omega (arith, lends, lt)
  | inr other ↦ let lt : h.lends < n = below i h (sym (beside_lent t j i other) ∙ e) in omega (arith, lt)
]

pub below_next : (n : ℕ) (u g : Hands) (w : HandleType) (i : ℕ) → hand_one u w i ≡ Ok g → LendsBelow n u.table → LendsBelow (n + 1) g.table
below_next n u g (handle_type.Own r) i e below =
    let out = one_own u r i g e in
    subst (λ (k : Hands). LendsBelow (n + 1) k.table) out.is (below_released n u.table i below)
below_next n u g (handle_type.Borrow r) i e below =
    let out = one_borrow u r i g e in
    subst (λ (k : Hands). LendsBelow (n + 1) k.table) out.is (below_lent n u.table i out.entry out.stands below)

pub table_same : (s t : TableState) → s.handles ≡ t.handles → s.room ≡ t.room → s ≡ t
table_same s t a b = ap (λ h. made h s.room) a ∙ ap (made t.handles) b
  where
    made : Handles → ℕ → TableState
    made h n = record { handles = h; room = n }
