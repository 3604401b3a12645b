-- How a reader ends, where what it has met so far was handed over: with a value, or at a fault.
use Rattle.std.proofs.Common.{drop, zero, suc, ◌≡◌, ℕ, ◌+◌, ◌-◌, ◌≤◌, ◌⊎◌, inl, inr, Bool, true, false, List, [], ◌∷◌, ◌++◌, length, map, Option, Some, None, Result, Ok, Err, refl, sym, ap, subst, ◌∙◌, arith, nat_lt}
use Rattle.std.specs.Prelude.{not, ◌==◌, ◌*◌, ◌%◌, if◌then◌else◌}
use Rattle.std.proofs.lemmas.List.{append-nil, append_assoc}
use Rattle.cm_types.specs.Values.{Val, val, bearing, elements, parts}
use Rattle.cm_types.specs.TypedValues.{is_scalar_value}
use Rattle.cm_types.specs.declared.core_value.CoreValue.{CoreValue}
use Rattle.cm_handles.specs.Handles.{Handles, after_lend, after_release, is_borrow, look_up}
use Rattle.cm_handles.specs.declared.handle.Handle.{Handle}
use Rattle.cm_handles.specs.declared.fault.HandleFault.{HandleFault}
use Rattle.cm_handles.specs.declared.fault.HandleFault.TheVariants as handle_fault
use Rattle.cm_layout.specs.declared.heads.Head.{Head}
use Rattle.cm_layout.specs.declared.layouts.HandleType.{HandleType}
use Rattle.cm_layout.specs.declared.layouts.HandleType.TheVariants as handle_type
use Rattle.cm_layout.specs.declared.layouts.Leaf.{Leaf}
use Rattle.cm_layout.specs.declared.layouts.Leaf.TheVariants as leaf
use Rattle.cm_layout.specs.Laid.{leaf_size}
use Rattle.cm_layout.specs.Shapes.{Shape, Parts, Payloads, leaf_shape, string_shape, list_shape, fixed_list_shape, fields_shape, cases_shape, handle_shape, no_parts, part, no_payloads, nothing, carried}
use Rattle.cm_abi_model.specs.declared.encoding.StringEncoding.{StringEncoding}
use Rattle.cm_abi_model.specs.declared.fault.AbiFault.{AbiFault}
use Rattle.cm_abi_model.specs.Numbers.{number_at, wrapped_at}
use Rattle.cm_abi_model.specs.Texts.{bytes_from, charset_of, text_align, text_size}
use Rattle.cm_abi_model.specs.Taken.{GoesInTurn, MAX_CONTENT, Met, after_met, text_content, content, content_of, lent, taken}
use Rattle.cm_abi_model.specs.Views.{View}
use Rattle.cm_abi_load.specs.declared.progress.MetHandle.{MetHandle}
use Rattle.cm_abi_load.specs.Meeting.{Meets, handles_in, met_as}
use Rattle.cm_abi_load.specs.Outcomes.{Outcome, State, mapped, ◌>>=◌}
use Rattle.cm_abi_load.specs.Decoded.{decoded}
use Rattle.cm_abi_load.specs.Reading.{Source, after_meeting, after_text, handle_value, leaf_value, read_at, read_case, read_each, read_elements, read_handle, read_parts, read_text, region, resource_of, text_value}
use Rattle.cm_abi_lift.specs.FlatReading.{read_flat, read_flat_case, read_flat_each, read_flat_parts}
use Rattle.cm_abi_model.specs.Lifts.{Hands}
use Rattle.cm_abi_lift.specs.HandingOver.{hand_next, hand_one, hand_over, untouched}
use Rattle.cm_abi_load.specs.Sized.{core_size}
use Rattle.cm_abi_model.specs.LiftStops.{GoesOnWith}
use Rattle.cm_abi_lift.proofs.HandLaws.{Kept, all_go, all_over, after_handles, kept_lent, kept_released, one_borrow, one_own, over_append}
use Rattle.cm_abi_model.proofs.TakenLemmas.{content_both}

-- ---- where a reader ends

abbrev pub state_of : {A : Type 0} → Outcome A → State
state_of (Ok r) = r.1
state_of (Err r) = r.1

abbrev pub Grows : State → State → Type 0
Grows s t = (more : List MetHandle) × (t.handles ≡ s.handles ++ more)

abbrev pub Extends : {A : Type 0} → State → Outcome A → Type 0
Extends s r = Grows s (state_of r)

pub same_grows : (s t : State) → t.handles ≡ s.handles → Grows s t
same_grows s t e = ([], e ∙ sym (append-nil s.handles))

pub grows_on : (s t u : State) → Grows s t → Grows t u → Grows s u
grows_on s t u a b = (a.0 ++ b.0, b.1 ∙ (ap (λ hs. hs ++ b.0) a.1 ∙ append_assoc s.handles a.0 b.0))

pub extends_then : {A B : Type 0} (s : State) (r : Outcome A) (f : A × State → Outcome B) → Extends s r → ((x : A × State) → Extends x.1 (f x)) → Extends s (r >>= f)
extends_then s (Ok x) f h more = grows_on s x.1 (state_of (f x)) h (more x)
extends_then s (Err e) f h more = h

pub extends_mapped : {A B : Type 0} (f : A → B) (s : State) (r : Outcome A) → Extends s r → Extends s (mapped f r)
extends_mapped f s (Ok x) h = h
extends_mapped f s (Err e) h = h

by_test : {A : Type 0} (b : Bool) (s : State) (x y : Outcome A) → Extends s x → Extends s y → Extends s (if b then x else y)
by_test true s x y h k = h
by_test false s x y h k = k

extends_region : (memory : List ℕ) (align at size : ℕ) (s : State) → Extends s (region memory align at size s)
unfolding region
extends_region memory align at size s =
    by_test (not (at % align == 0)) s _ _ (same_grows s s refl)
    (by_test (nat_lt (length memory) (at + size)) s _ _ (same_grows s s refl)
    (by_test (nat_lt s.left size) s _ _ (same_grows s s refl) (same_grows s (record s { left = s.left - size }) refl)))

pub extends_text_value : (o : Option (List ℕ)) (s t : State) → Grows s t → Extends s (text_value o t)
extends_text_value None s t g = g
extends_text_value (Some cs) s t g = g

pub extends_text : (memory : List ℕ) (e : StringEncoding) (at n : ℕ) (s : State) → Extends s (read_text memory e at n s)
unfolding read_text
extends_text memory e at n s =
    extends_then s (region memory (text_align e) at (text_size e n) s) (λ r. text_value (decoded (charset_of e n) (bytes_from memory at (text_size e n))) (after_text e n r.1))
    (extends_region memory (text_align e) at (text_size e n) s)
    (λ r. extends_text_value (decoded (charset_of e n) (bytes_from memory at (text_size e n))) r.1 (after_text e n r.1) (same_grows r.1 (after_text e n r.1) refl))

pub extends_each : (R : ℕ → State → Outcome Val) (size n p : ℕ) (s : State) → ((q : ℕ) (t : State) → Extends t (R q t)) → Extends s (read_each R size n p s)
extends_each R size zero p s one = same_grows s s refl
extends_each R size (suc n) p s one =
    extends_then s (R p s) (λ r. mapped (λ vs. val r.0 vs) (read_each R size n (p + size) r.1)) (one p s)
    (λ r. extends_mapped (λ vs. val r.0 vs) r.1 (read_each R size n (p + size) r.1) (extends_each R size n (p + size) r.1 one))

pub extends_elements : (R : ℕ → State → Outcome Val) (memory : List ℕ) (e : Head) (at n : ℕ) (s : State) → ((q : ℕ) (t : State) → Extends t (R q t)) → Extends s (read_elements R memory e at n s)
unfolding read_elements
extends_elements R memory e at n s one =
    extends_then s (region memory e.align at (n * e.size) s) (λ r. read_each R e.size n at r.1) (extends_region memory e.align at (n * e.size) s) (λ r. extends_each R e.size n at r.1 one)

pub extends_leaf : (k : Leaf) (n : ℕ) (s : State) → Extends s (leaf_value k n s)
extends_leaf leaf.Bool n s = same_grows s s refl
extends_leaf (leaf.Signed w) n s = same_grows s s refl
extends_leaf (leaf.Unsigned w) n s = same_grows s s refl
extends_leaf leaf.Char n s = by_test (is_scalar_value n) s _ _ (same_grows s s refl) (same_grows s s refl)
extends_leaf (leaf.Flags labels w) n s = same_grows s s refl

-- the value of a handle leaves the reader as it is
handle_stays : (t : HandleType) (r : Result Handle HandleFault) (s : State) → (state_of (handle_value t r s)).handles ≡ s.handles
handle_stays (handle_type.Own r) (Ok h) s = tests (is_borrow h.kind) _ _ refl refl
  where
    tests : (b : Bool) (x y : Outcome Val) → (state_of x).handles ≡ s.handles → (state_of y).handles ≡ s.handles → (state_of (if b then x else y)).handles ≡ s.handles
    tests true x y a c = a
    tests false x y a c = c
handle_stays (handle_type.Borrow r) (Ok h) s = refl
handle_stays t (Err handle_fault.WrongResource) s = refl
handle_stays t (Err _) s = refl

abbrev pub met_one : HandleType → ℕ → List MetHandle
met_one t i = record { index = i; wanted = t } ∷ []

pub handle_met : (table : Handles) (t : HandleType) (i : ℕ) (s : State) → (state_of (read_handle table t i s)).handles ≡ s.handles ++ met_one t i
unfolding read_handle
handle_met table t i s = handle_stays t (look_up table i (resource_of t)) (after_meeting s t i)

pub extends_handle : (table : Handles) (t : HandleType) (i : ℕ) (s : State) → Extends s (read_handle table t i s)
extends_handle table t i s = (met_one t i, handle_met table t i s)

mutual
  pub extends_at : (w : Source) (sh : Shape) (p : ℕ) (s : State) → Extends s (read_at w sh p s)
  extends_at w (leaf_shape k) p s = extends_leaf k (number_at (leaf_size k) w.memory p) s
  extends_at w string_shape p s = extends_text w.memory w.encoding (number_at 4 w.memory p) (number_at 4 w.memory (p + 4)) s
  extends_at w (list_shape e sh) p s = extends_mapped elements s (read_elements (read_at w sh) w.memory e (number_at 4 w.memory p) (number_at 4 w.memory (p + 4)) s) (extends_elements (read_at w sh) w.memory e (number_at 4 w.memory p) (number_at 4 w.memory (p + 4)) s (λ q t. extends_at w sh q t))
  extends_at w (fixed_list_shape e sh n) p s = extends_mapped parts s (read_each (read_at w sh) e.size n p s) (extends_each (read_at w sh) e.size n p s (λ q t. extends_at w sh q t))
  extends_at w (fields_shape ps) p s = extends_mapped parts s (read_parts w ps p s) (extends_parts w ps p s)
  extends_at w (cases_shape d o ps) p s = extends_case w ps (number_at d w.memory p) (number_at d w.memory p) (p + o) s
  extends_at w (handle_shape h) p s = extends_handle w.table h (number_at 4 w.memory p) s

  pub extends_parts : (w : Source) (ps : Parts) (p : ℕ) (s : State) → Extends s (read_parts w ps p s)
  extends_parts w no_parts p s = same_grows s s refl
  extends_parts w (part o e sh ps) p s =
      extends_then s (read_at w sh (p + o) s) (λ r. mapped (λ vs. val r.0 vs) (read_parts w ps p r.1)) (extends_at w sh (p + o) s)
      (λ r. extends_mapped (λ vs. val r.0 vs) r.1 (read_parts w ps p r.1) (extends_parts w ps p r.1))

  extends_case : (w : Source) (ps : Payloads) (i n p : ℕ) (s : State) → Extends s (read_case w ps i n p s)
  extends_case w no_payloads i n p s = same_grows s s refl
  extends_case w (nothing ps) i zero p s = same_grows s s refl
  extends_case w (nothing ps) i (suc n) p s = extends_case w ps i n p s
  extends_case w (carried e sh ps) i zero p s = extends_mapped (λ v. bearing i v) s (read_at w sh p s) (extends_at w sh p s)
  extends_case w (carried e sh ps) i (suc n) p s = extends_case w ps i n p s

pub extends_flat_each : (R : List CoreValue → State → Outcome Val) (width n : ℕ) (z : List CoreValue) (s : State) → ((q : List CoreValue) (t : State) → Extends t (R q t)) → Extends s (read_flat_each R width n z s)
extends_flat_each R width zero z s one = same_grows s s refl
extends_flat_each R width (suc n) z s one =
    extends_then s (R z s) (λ r. mapped (λ vs. val r.0 vs) (read_flat_each R width n (drop width z) r.1)) (one z s)
    (λ r. extends_mapped (λ vs. val r.0 vs) r.1 (read_flat_each R width n (drop width z) r.1) (extends_flat_each R width n (drop width z) r.1 one))

mutual
  pub extends_flat : (w : Source) (sh : Shape) (z : List CoreValue) (s : State) → Extends s (read_flat w sh z s)
  extends_flat w (leaf_shape k) z s = extends_leaf k (wrapped_at (core_size k) z 0) s
  extends_flat w string_shape z s = extends_text w.memory w.encoding (wrapped_at 4 z 0) (wrapped_at 4 z 1) s
  extends_flat w (list_shape e sh) z s = extends_mapped elements s (read_elements (read_at w sh) w.memory e (wrapped_at 4 z 0) (wrapped_at 4 z 1) s) (extends_elements (read_at w sh) w.memory e (wrapped_at 4 z 0) (wrapped_at 4 z 1) s (λ q t. extends_at w sh q t))
  extends_flat w (fixed_list_shape e sh n) z s = extends_mapped parts s (read_flat_each (read_flat w sh) e.width n z s) (extends_flat_each (read_flat w sh) e.width n z s (λ q t. extends_flat w sh q t))
  extends_flat w (fields_shape ps) z s = extends_mapped parts s (read_flat_parts w ps z s) (extends_flat_parts w ps z s)
  extends_flat w (cases_shape d o ps) z s = extends_flat_case w ps (wrapped_at 4 z 0) (wrapped_at 4 z 0) (drop 1 z) s
  extends_flat w (handle_shape h) z s = extends_handle w.table h (wrapped_at 4 z 0) s

  pub extends_flat_parts : (w : Source) (ps : Parts) (z : List CoreValue) (s : State) → Extends s (read_flat_parts w ps z s)
  extends_flat_parts w no_parts z s = same_grows s s refl
  extends_flat_parts w (part o e sh ps) z s =
      extends_then s (read_flat w sh z s) (λ r. mapped (λ vs. val r.0 vs) (read_flat_parts w ps (drop e.width z) r.1)) (extends_flat w sh z s)
      (λ r. extends_mapped (λ vs. val r.0 vs) r.1 (read_flat_parts w ps (drop e.width z) r.1) (extends_flat_parts w ps (drop e.width z) r.1))

  extends_flat_case : (w : Source) (ps : Payloads) (i n : ℕ) (z : List CoreValue) (s : State) → Extends s (read_flat_case w ps i n z s)
  extends_flat_case w no_payloads i n z s = same_grows s s refl
  extends_flat_case w (nothing ps) i zero z s = same_grows s s refl
  extends_flat_case w (nothing ps) i (suc n) z s = extends_flat_case w ps i n z s
  extends_flat_case w (carried e sh ps) i zero z s = extends_mapped (λ v. bearing i v) s (read_flat w sh z s) (extends_flat w sh z s)
  extends_flat_case w (carried e sh ps) i (suc n) z s = extends_flat_case w ps i n z s

-- ---- stopping

-- reading came to this, and handing over what was met to that: both stop at this fault
abbrev pub fails_by : {A : Type 0} → Outcome A → Result Hands AbiFault → AbiFault → Type 0
fails_by r (Err e) f = e ≡ f
fails_by (Err x) (Ok g) f = x.0 ≡ f
fails_by (Ok x) (Ok g) f = ⊥

abbrev pub Fails : {A : Type 0} → Handles → Outcome A → AbiFault → Type 0
Fails t r f = fails_by r (hand_over (untouched t) (state_of r).handles) f

other_value : {A B : Type 0} (x : A × State) (y : B × State) (h : Result Hands AbiFault) (f : AbiFault) → fails_by (Ok x) h f → fails_by (Ok y) h f
other_value x y (Err e) f is = is
other_value x y (Ok g) f is = is

other_fault : (A B : Type 0) (x : AbiFault × State) (h : Result Hands AbiFault) (f : AbiFault) → fails_by {A = A} (Err x) h f → fails_by {A = B} (Err x) h f
other_fault A B x (Err e) f is = is
other_fault A B x (Ok g) f is = is

pub unmapped_fails : {A B : Type 0} (g : A → B) (t : Handles) (r : Outcome A) (f : AbiFault) → Fails t (mapped g r) f → Fails t r f
unmapped_fails g t (Ok x) f is = other_value (g x.0, x.1) x (hand_over (untouched t) x.1.handles) f is
unmapped_fails {A} {B} g t (Err x) f is = other_fault B A x (hand_over (untouched t) x.1.handles) f is

pub mapped_fails : {A B : Type 0} (g : A → B) (t : Handles) (r : Outcome A) (f : AbiFault) → Fails t r f → Fails t (mapped g r) f
mapped_fails g t (Ok x) f is = other_value x (g x.0, x.1) (hand_over (untouched t) x.1.handles) f is
mapped_fails {A} {B} g t (Err x) f is = other_fault A B x (hand_over (untouched t) x.1.handles) f is

-- what was met so far was handed over
pub record Ready (w : View) (s : State) (ms : List Met) : Type 0 where
  pub counted : s.left + content_of ms ≡ MAX_CONTENT
  pub hands : Hands
  pub over : hand_over (untouched w.table) s.handles ≡ Ok hands
  pub table : hands.table ≡ after_met w.table ms
  pub kept : Kept w.table hands.table

pub over_more : (t : Handles) (s u : State) (more : List MetHandle) (q : Result Hands AbiFault) → u.handles ≡ s.handles ++ more → hand_over (untouched t) s.handles ≡ q
    → hand_over (untouched t) u.handles ≡ hand_next q (λ k. hand_over k more)
over_more t s u more q e is = ap (hand_over (untouched t)) e ∙ (over_append (untouched t) s.handles more ∙ ap (λ x. hand_next x (λ k. hand_over k more)) is)

pub stop_stays : (t : Handles) (s u : State) (e : AbiFault) → Grows s u → hand_over (untouched t) s.handles ≡ Err e → hand_over (untouched t) u.handles ≡ Err e
stop_stays t s u e g is = over_more t s u g.0 (Err e) g.1 is

-- ---- what was met, and more

after_both : (t : Handles) (xs ys : List Met) → after_met t (xs ++ ys) ≡ after_met (after_met t xs) ys
after_both t [] ys = refl
after_both t (text_content tags n ∷ xs) ys = after_both t xs ys
after_both t (content n ∷ xs) ys = after_both t xs ys
after_both t (taken i ∷ xs) ys = after_both (after_release t i) xs ys
after_both t (lent i ∷ xs) ys = after_both (after_lend t i) xs ys

goes_whole : (t : Handles) (left : ℕ) (ms : List Met) → content_of ms ≤ left → GoesInTurn t 0 (handles_in ms) → GoesInTurn t left ms
goes_whole t left [] room go = tt
goes_whole t left (text_content tags n ∷ ms) room go = let here : n ≤ left = omega (arith, room) in (here, goes_whole t (left - n) ms (omega (arith, room)) go)
goes_whole t left (content n ∷ ms) room go = let here : n ≤ left = omega (arith, room) in (here, goes_whole t (left - n) ms (omega (arith, room)) go)
goes_whole t left (taken i ∷ ms) room go = (go.0, goes_whole (after_release t i) left ms room go.1)
goes_whole t left (lent i ∷ ms) room go = (go.0, goes_whole (after_lend t i) left ms room go.1)

goes_handles : (t : Handles) (left : ℕ) (ms : List Met) → GoesInTurn t left ms → GoesInTurn t 0 (handles_in ms)
goes_handles t left [] go = tt
goes_handles t left (text_content tags n ∷ ms) go = goes_handles t (left - n) ms go.1
goes_handles t left (content n ∷ ms) go = goes_handles t (left - n) ms go.1
goes_handles t left (taken i ∷ ms) go = (go.0, goes_handles (after_release t i) left ms go.1)
goes_handles t left (lent i ∷ ms) go = (go.0, goes_handles (after_lend t i) left ms go.1)

pub goes_room : (t : Handles) (left : ℕ) (ms : List Met) → GoesInTurn t left ms → content_of ms ≤ left
goes_room t left [] go = omega arith
goes_room t left (text_content tags n ∷ ms) go = let later : content_of ms ≤ left - n = goes_room t (left - n) ms go.1 in let here : n ≤ left = go.0 in omega (arith, later, here)
goes_room t left (content n ∷ ms) go = let later : content_of ms ≤ left - n = goes_room t (left - n) ms go.1 in let here : n ≤ left = go.0 in omega (arith, later, here)
goes_room t left (taken i ∷ ms) go = goes_room (after_release t i) left ms go.1
goes_room t left (lent i ∷ ms) go = goes_room (after_lend t i) left ms go.1

next_ok : (r : Result Hands AbiFault) (f : Hands → Result Hands AbiFault) (g : Hands) → hand_next r f ≡ Ok g → (k : Hands) × (r ≡ Ok k) × (f k ≡ Ok g)
next_ok (Err e) f g is = absurd (cc)
next_ok (Ok k) f g is = (k, refl, is)

kept_one : (first : Handles) (h g : Hands) (wanted : HandleType) (index : ℕ) → Kept first h.table → hand_one h wanted index ≡ Ok g → Kept first g.table
kept_one first h g (handle_type.Own r) index kept e =
    let out = one_own h r index g e in
    subst (λ (k : Hands). Kept first k.table) out.is (kept_released first h.table index kept)
kept_one first h g (handle_type.Borrow r) index kept e =
    let out = one_borrow h r index g e in
    subst (λ (k : Hands). Kept first k.table) out.is (kept_lent first h.table index out.entry out.stands kept)

kept_over : (first : Handles) (h g : Hands) (ms : List MetHandle) → Kept first h.table → hand_over h ms ≡ Ok g → Kept first g.table
kept_over first h g [] kept e = let same : h ≡ g = cc in subst (λ (k : Hands). Kept first k.table) same kept
kept_over first h g (m ∷ ms) kept e =
    let next = next_ok (hand_one h m.wanted m.index) (λ k. hand_over k ms) g e in
    kept_over first next.0 g ms (kept_one first h next.0 m.wanted m.index kept next.1) next.2

-- more was handed over
pub advance : (w : View) (s t : State) (ms more : List Met) (g : Hands) → Ready w s ms → Meets w.table s t more → hand_over (untouched w.table) t.handles ≡ Ok g
    → GoesOnWith w ms more × Ready w t (ms ++ more)
advance w s t ms more g ready m e =
    let split : hand_over ready.hands m.found ≡ Ok g = sym (over_more w.table s t m.found (Ok ready.hands) m.handles ready.over) ∙ e in
    let done = all_over w.table ready.hands g m.found ready.kept split in
    let room : content_of more ≤ MAX_CONTENT - content_of ms = omega (arith, m.counted, ready.counted) in
    let goes = goes_whole ready.hands.table (MAX_CONTENT - content_of ms) more room (subst (GoesInTurn ready.hands.table 0) m.same done.goes) in (
      subst (λ u. GoesInTurn u (MAX_CONTENT - content_of ms) more) ready.table goes,
      record {
        counted = omega (arith, content_both ms more, m.counted, ready.counted);
        hands = g;
        over = e;
        table = done.table ∙ (ap (after_met ready.hands.table) m.same ∙ (after_handles ready.hands.table more ∙ (ap (λ u. after_met u more) ready.table ∙ sym (after_both w.table ms more))));
        kept = kept_over w.table ready.hands g m.found ready.kept split;
      },
    )

pub goes_over_more : (w : View) (s t : State) (ms more : List Met) → Ready w s ms → Meets w.table s t more → GoesOnWith w ms more → (g : Hands) × (hand_over (untouched w.table) t.handles ≡ Ok g)
goes_over_more w s t ms more ready m goes =
    let there : GoesInTurn ready.hands.table (MAX_CONTENT - content_of ms) more = subst (λ u. GoesInTurn u (MAX_CONTENT - content_of ms) more) (sym ready.table) goes in
    let found : GoesInTurn ready.hands.table 0 (map met_as m.found) = subst (GoesInTurn ready.hands.table 0) (sym m.same) (goes_handles ready.hands.table (MAX_CONTENT - content_of ms) more there) in
    let all = all_go w.table ready.hands m.found ready.kept m.wanted found in
    (all.0, over_more w.table s t m.found (Ok ready.hands) m.handles ready.over ∙ all.1)

-- ---- one part after another

-- what a part is: what it shows, what is met in it, and what follows it
abbrev pub Tells : {A : Type 0} → View → State → Outcome A → (A → Type 0) → (A → List Met) → Type 0
Tells {A} w s r S M = (v : A) (t : State) → r ≡ Ok (v, t) → S v × Meets w.table s t (M v)

abbrev pub Finds : {A : Type 0} → State → Outcome A → (A → Type 0) → (A → List Met) → Type 0
Finds {A} s r S M = (v : A) → S v → content_of (M v) ≤ s.left → (t : State) × (r ≡ Ok (v, t))

abbrev pub GoesUnder : {A B : Type 0} → (A × State → Outcome B) → Type 0
GoesUnder {A} k = (x : A × State) → Extends x.1 (k x)

abbrev pub StopsLater : {A : Type 0} → View → List Met → (A → Type 0) → (A → List Met) → (A → List Met → Type 0) → Type 0
StopsLater {A} w ms S M G = (v : A) × S v × GoesOnWith w ms (M v) × G v (ms ++ M v)

pub stops_then : {A B : Type 0} (w : View) (s : State) (ms : List Met) (r : Outcome A) (k : A × State → Outcome B) (S : A → Type 0) (M : A → List Met) (F : Type 0) (G : A → List Met → Type 0) (f : AbiFault)
    → Ready w s ms → GoesUnder k → Tells w s r S M → (Fails w.table r f → F)
    → ((v : A) (t : State) → Ready w t (ms ++ M v) → Fails w.table (k (v, t)) f → G v (ms ++ M v))
    → Fails w.table (r >>= k) f → F ⊎ StopsLater w ms S M G
stops_then {A} {B} w s ms r k S M F G f ready under tells first later fails = by_first r refl fails
  where
    by_hands : (v : A) (t : State) → r ≡ Ok (v, t) → (h : Result Hands AbiFault) → hand_over (untouched w.table) t.handles ≡ h → Fails w.table (k (v, t)) f → F ⊎ StopsLater w ms S M G
    by_hands v t is (Err e) hands fails =
        let there = stop_stays w.table t (state_of (k (v, t))) e (under (v, t)) hands in
        let same : e ≡ f = subst (λ q. fails_by (k (v, t)) q f) there fails in
        let here : fails_by {A = A} (Ok (v, t)) (hand_over (untouched w.table) t.handles) f = subst (λ q. fails_by {A = A} (Ok (v, t)) q f) (sym hands) same in
        inl (first (subst (λ q. Fails w.table q f) (sym is) here))
    by_hands v t is (Ok g) hands fails =
        let told = tells v t is in
        let on = advance w s t ms (M v) g ready told.1 hands in
        inr (v, told.0, on.0, later v t on.1 fails)

    by_first : (q : Outcome A) → r ≡ q → Fails w.table (q >>= k) f → F ⊎ StopsLater w ms S M G
    by_first (Err x) is fails = inl (first (subst (λ q. Fails w.table q f) (sym is) (other_fault B A x (hand_over (untouched w.table) x.1.handles) f fails)))
    by_first (Ok x) is fails = by_hands x.0 x.1 is (hand_over (untouched w.table) x.1.handles) refl fails

pub fails_then : {A B : Type 0} (w : View) (s : State) (ms : List Met) (r : Outcome A) (k : A × State → Outcome B) (S : A → Type 0) (M : A → List Met) (F : Type 0) (G : A → List Met → Type 0) (f : AbiFault)
    → Ready w s ms → GoesUnder k → Tells w s r S M → Finds s r S M → (F → Fails w.table r f)
    → ((v : A) (t : State) → Ready w t (ms ++ M v) → G v (ms ++ M v) → Fails w.table (k (v, t)) f)
    → F ⊎ StopsLater w ms S M G → Fails w.table (r >>= k) f
fails_then {A} {B} w s ms r k S M F G f ready under tells finds first later (inl x) = by_first r refl (first x)
  where
    by_hands : (v : A) (t : State) (h : Result Hands AbiFault) → hand_over (untouched w.table) t.handles ≡ h → fails_by {A = A} (Ok (v, t)) h f → Fails w.table (k (v, t)) f
    by_hands v t (Err e) hands is =
        let there = stop_stays w.table t (state_of (k (v, t))) e (under (v, t)) hands in
        subst (λ q. fails_by (k (v, t)) q f) (sym there) is
    by_hands v t (Ok g) hands is = absurd is

    by_first : (q : Outcome A) → r ≡ q → Fails w.table r f → Fails w.table (q >>= k) f
    by_first (Err x) is fails = other_fault A B x (hand_over (untouched w.table) x.1.handles) f (subst (λ q. Fails w.table q f) is fails)
    by_first (Ok x) is fails = by_hands x.0 x.1 (hand_over (untouched w.table) x.1.handles) refl (subst (λ q. Fails w.table q f) is fails)
fails_then {A} {B} w s ms r k S M F G f ready under tells finds first later (inr x) =
    let room : content_of (M x.0) ≤ s.left = omega (arith, goes_room (after_met w.table ms) (MAX_CONTENT - content_of ms) (M x.0) x.2, ready.counted) in
    let found = finds x.0 x.1 room in
    let told = tells x.0 found.0 found.1 in
    let hands = goes_over_more w s found.0 ms (M x.0) ready told.1 x.2 in
    let on = advance w s found.0 ms (M x.0) hands.0 ready told.1 hands.1 in
    subst (λ q. Fails w.table (q >>= k) f) (sym found.1) (later x.0 found.0 on.1 x.3)

-- where nothing is met on the way
pub at_once : {A : Type 0} (w : View) (s : State) (ms : List Met) (r : Outcome A) (f : AbiFault) (ready : Ready w s ms) → (state_of r).handles ≡ s.handles → Fails w.table r f → fails_by r (Ok ready.hands) f
at_once w s ms r f ready same fails = subst (λ q. fails_by r q f) (ap (hand_over (untouched w.table)) same ∙ ready.over) fails

pub at_once_fails : {A : Type 0} (w : View) (s : State) (ms : List Met) (r : Outcome A) (f : AbiFault) (ready : Ready w s ms) → (state_of r).handles ≡ s.handles → fails_by r (Ok ready.hands) f → Fails w.table r f
at_once_fails w s ms r f ready same fails = subst (λ q. fails_by r q f) (sym (ap (hand_over (untouched w.table)) same ∙ ready.over)) fails
