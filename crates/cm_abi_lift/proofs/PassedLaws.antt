-- What a call passes is read exactly where it is denoted.
use Rattle.std.proofs.Common.{◌≡◌, ℕ, ◌+◌, ◌%◌, ◌≤◌, ◌==◌, Bool, true, false, not, List, length, Result, Ok, Err, refl, sym, ap, subst, ◌∙◌, arith, inl, inr, nat_lt}
use Rattle.std.specs.Prelude.{if◌then◌else◌}
use Rattle.std.proofs.lemmas.Bool.{le-ltb, lt-ltb, ltb-false, ltb-true}
use Rattle.cm_types.specs.declared.core_value.CoreValue.{CoreValue}
use Rattle.cm_types.specs.Types.{Fields, Ty}
use Rattle.cm_types.specs.Values.{Val, Vals, parts}
use Rattle.cm_handles.specs.Handles.{Handles}
use Rattle.cm_layout.specs.Flattening.{flat_of_fields}
use Rattle.cm_layout.specs.Shapes.{LayoutTy, layout_of_fields_at, shape_of_type}
use Rattle.cm_abi_model.specs.Denotes.{Denotes}
use Rattle.cm_abi_model.specs.Numbers.{wrapped_at}
use Rattle.cm_abi_model.specs.Requests.{tuple_of}
use Rattle.cm_abi_model.specs.Shows.{Shows}
use Rattle.cm_abi_model.specs.Taken.{MAX_CONTENT, Transferable, content_of, met, met_at, met_flat}
use Rattle.cm_abi_model.specs.Texts.{IsAligned}
use Rattle.cm_abi_model.specs.Views.{View, Way, flat_limit}
use Rattle.cm_abi_model.specs.declared.encoding.StringEncoding.{StringEncoding}
use Rattle.cm_abi_model.specs.declared.fault.AbiFault.{AbiFault}
use Rattle.cm_abi_load.specs.Meeting.{Meets}
use Rattle.cm_abi_load.specs.Outcomes.{Outcome, State, mapped}
use Rattle.cm_abi_load.specs.Reading.{Source, read_at, seen_by}
use Rattle.cm_abi_lift.specs.FlatReading.{read_flat, read_passed, read_spilled}
use Rattle.cm_abi_model.specs.Lifts.{Hands}
use Rattle.cm_abi_lift.specs.HandingOver.{hand_over, handed, lifted, state_in, untouched}
use Rattle.cm_abi_model.specs.Lifts.{IsGivenBy, Lifts}
use Rattle.cm_abi_lift.specs.Lifts.{fresh, lift_of}
use Rattle.cm_abi_lift.proofs.FlatLaws.{Laws, flat_found, flat_shows}
use Rattle.cm_abi_lift.proofs.HandLaws.{TurnLaw, goes_over, over}
use Rattle.cm_abi_load.proofs.FoundLaws.{Found}
use Rattle.cm_abi_model.proofs.TextsLaws.{aligned, multiple}
use Rattle.cm_abi_model.proofs.FaultLaws.{not_both}

-- all laws of the crates below that are wanted here
pub record AllLaws : Type 0 where
  pub flat : Laws
  pub turn : TurnLaw
  pub shown : (w : View) (t : Ty) (p : ℕ) (s after : State) (v : Val) → read_at (seen_by w) (shape_of_type t) p s ≡ Ok (v, after) → Shows w t p v
  pub met : (w : View) (t : Ty) (p : ℕ) (s after : State) (v : Val) → read_at (seen_by w) (shape_of_type t) p s ≡ Ok (v, after) → Meets w.table s after (met_at w t p v)
  pub read : (w : View) (t : Ty) (p : ℕ) (s : State) (v : Val) → Shows w t p v → content_of (met_at w t p v) ≤ s.left → (after : State) × (read_at (seen_by w) (shape_of_type t) p s ≡ Ok (v, after))

mapped_ok : {A B : Type 0} (f : A → B) (r : Outcome A) (y : B × State) → mapped f r ≡ Ok y → (x : A) × (f x ≡ y.0)
mapped_ok f (Ok x) y e = let same : (f x.0, x.1) ≡ y = cc in (x.0, ap (λ (z : _ × State). z.0) same)
mapped_ok f (Err z) y e = absurd (cc)

-- ---- a tuple at a pointer

tests : (a b : Bool) (x y : AbiFault × State) (r : Outcome Val) (v : Val × State) → (if not a then Err x else (if b then Err y else r)) ≡ Ok v → (a ≡ true) × (b ≡ false) × (r ≡ Ok v)
tests true false x y r v e = (refl, refl, e)
tests true true x y r v e = absurd (cc)
tests false b x y r v e = absurd (cc)

pub record Spilled (w : Source) (l : LayoutTy) (at : ℕ) (s : State) (v : Val × State) : Type 0 where
  pub aligned : IsAligned l.head.align at
  pub inside : at + l.head.size ≤ length w.memory
  pub read : read_at w l.shape at s ≡ Ok v

spilled_ok : (w : Source) (l : LayoutTy) (at : ℕ) (s : State) (v : Val × State) → read_spilled w l at s ≡ Ok v → Spilled w l at s v
unfolding read_spilled
spilled_ok w l at s v e =
    let t = tests (at % l.head.align == 0) (nat_lt (length w.memory) (at + l.head.size)) _ _ (read_at w l.shape at s) v e in
    record { aligned = aligned l.head.align at t.0; inside = ltb-false (length w.memory) (at + l.head.size) t.1; read = t.2 }

pub spilled_there : (w : Source) (l : LayoutTy) (at : ℕ) (s : State) (r : Outcome Val) → IsAligned l.head.align at → at + l.head.size ≤ length w.memory → read_at w l.shape at s ≡ r → read_spilled w l at s ≡ r
unfolding read_spilled
spilled_there w l at s r is inside e = rw (multiple l.head.align at is, le-ltb (length w.memory) (at + l.head.size) inside) e

-- ---- what is passed

abbrev Passes : View → Way → Fields → List CoreValue → State → Val → State → Type 0
Passes w way types slots s v after = Denotes w way types slots v × Meets w.table s after (met w way types slots v)

passed_by : AllLaws → (w : View) (way : Way) (types : Fields) (slots : List CoreValue) (s after : State) (v : Val) (b : Bool) → nat_lt (flat_limit way) (length (flat_of_fields types)) ≡ b
    → (if b then read_spilled (seen_by w) (layout_of_fields_at types) (wrapped_at 4 slots 0) s else read_flat (seen_by w) (shape_of_type (tuple_of types)) slots s) ≡ Ok (v, after)
    → Denotes w way types slots v × Meets w.table s after (if b then met_at w (tuple_of types) (wrapped_at 4 slots 0) v else met_flat w slots (tuple_of types) 0 v)
passed_by laws w way types slots s after v true is e =
    let there = spilled_ok (seen_by w) (layout_of_fields_at types) (wrapped_at 4 slots 0) s (v, after) e in (
      inr (record {
        spilled = ltb-true (flat_limit way) (length (flat_of_fields types)) is;
        aligned = there.aligned;
        inside = there.inside;
        shown = laws.shown w (tuple_of types) (wrapped_at 4 slots 0) s after v there.read;
      }),
      laws.met w (tuple_of types) (wrapped_at 4 slots 0) s after v there.read,
    )
passed_by laws w way types slots s after v false is e =
    let told = flat_shows laws.flat w slots (tuple_of types) 0 s after v e in
    (inl (record { fits = ltb-false (flat_limit way) (length (flat_of_fields types)) is; shown = told.0 }), told.1)

pub passed_shows : AllLaws → (w : View) (way : Way) (types : Fields) (slots : List CoreValue) (s after : State) (v : Val)
    → read_passed (seen_by w) (flat_limit way) (layout_of_fields_at types) slots s ≡ Ok (v, after) → Passes w way types slots s v after
passed_shows laws w way types slots s after v e = passed_by laws w way types slots s after v (nat_lt (flat_limit way) (length (flat_of_fields types))) refl e

pub passed_found : AllLaws → (w : View) (way : Way) (types : Fields) (slots : List CoreValue) (s : State) (v : Val) → Denotes w way types slots v → content_of (met w way types slots v) ≤ s.left
    → Found (read_passed (seen_by w) (flat_limit way) (layout_of_fields_at types) slots s) v
passed_found laws w way types slots s v (inl x) room =
    let flat : nat_lt (flat_limit way) (length (flat_of_fields types)) ≡ false = le-ltb (flat_limit way) (length (flat_of_fields types)) x.fits in
    let enough : content_of (met_flat w slots (tuple_of types) 0 v) ≤ s.left = subst (λ b. content_of (if b then met_at w (tuple_of types) (wrapped_at 4 slots 0) v else met_flat w slots (tuple_of types) 0 v) ≤ s.left) flat room in
    let found = flat_found laws.flat w slots (tuple_of types) 0 s v x.shown enough in
    record { after = found.after; is = rw flat found.is }
passed_found laws w way types slots s v (inr x) room =
    let spilled : nat_lt (flat_limit way) (length (flat_of_fields types)) ≡ true = lt-ltb (flat_limit way) (length (flat_of_fields types)) x.spilled in
    let enough : content_of (met_at w (tuple_of types) (wrapped_at 4 slots 0) v) ≤ s.left = subst (λ b. content_of (if b then met_at w (tuple_of types) (wrapped_at 4 slots 0) v else met_flat w slots (tuple_of types) 0 v) ≤ s.left) spilled room in
    let found = laws.read w (tuple_of types) (wrapped_at 4 slots 0) s v x.shown enough in
    record {
      after = found.0;
      is = rw spilled (spilled_there (seen_by w) (layout_of_fields_at types) (wrapped_at 4 slots 0) s (Ok (v, found.0)) x.aligned x.inside found.1);
    }

-- ---- lifting

handed_ok : (r : Outcome Val) (o : Result Hands AbiFault) (v : Val) (tags : List Bool) (h : Hands) → handed r o ≡ Ok (v, tags, h)
    → (s : State) × (r ≡ Ok (v, s)) × (s.tags ≡ tags) × (o ≡ Ok h)
handed_ok r (Err e) v tags h is = absurd (cc)
handed_ok (Err r) (Ok g) v tags h is = absurd (cc)
handed_ok (Ok r) (Ok g) v tags h is =
    let same : (r.0, r.1.tags, g) ≡ (v, tags, h) = cc in
    (r.1, ap (λ x. Ok (x, r.1)) (ap (λ (z : Val × List Bool × Hands). z.0) same), ap (λ (z : Val × List Bool × Hands). z.1) same, ap (λ x. Ok x) (ap (λ (z : Val × List Bool × Hands). z.2) same))

pub lifts_view : AllLaws → (w : View) (way : Way) (types : Fields) (slots : List CoreValue) (v : Val) (tags : List Bool) (h : Hands)
    → lift_of w.memory w.table w.encoding way (layout_of_fields_at types) slots ≡ Ok (v, tags, h) → Lifts w way types slots v tags h
lifts_view laws w way types slots v tags h e =
    let r = read_passed (seen_by w) (flat_limit way) (layout_of_fields_at types) slots fresh in
    let ok = handed_ok r (hand_over (untouched w.table) (state_in r).handles) v tags h e in
    let passes = passed_shows laws w way types slots fresh ok.0 v ok.1 in
    let met_in = passes.1 in
    let hands : hand_over (untouched w.table) met_in.found ≡ Ok h = ap (λ hs. hand_over (untouched w.table) hs) (sym met_in.handles) ∙ (ap (λ x. hand_over (untouched w.table) (state_in x).handles) (sym ok.1) ∙ ok.3) in
    let done = over laws.turn w.table MAX_CONTENT (met w way types slots v) met_in.found h (omega (arith, met_in.counted)) met_in.same met_in.wanted hands in
    record { denoted = passes.0; transferable = done.can; tagged = sym ok.2 ∙ met_in.tagged; table = done.table; owns = done.owns; lends = done.lends }

pub must_lift_view : AllLaws → (w : View) (way : Way) (types : Fields) (slots : List CoreValue) (v : Val) → Denotes w way types slots v → Transferable w way types slots v
    → (tags : List Bool) × (h : Hands) × (lift_of w.memory w.table w.encoding way (layout_of_fields_at types) slots ≡ Ok (v, tags, h))
must_lift_view laws w way types slots v denoted can =
    let found = passed_found laws w way types slots fresh v denoted can.small in
    let met_in = (passed_shows laws w way types slots fresh found.after v found.is).1 in
    let goes = goes_over laws.turn w.table MAX_CONTENT (met w way types slots v) met_in.found met_in.same met_in.wanted can in
    let hands : hand_over (untouched w.table) found.after.handles ≡ Ok goes.0 = ap (λ hs. hand_over (untouched w.table) hs) met_in.handles ∙ goes.1 in
    (found.after.tags, goes.0, ap (lifted w.table) found.is ∙ ap (handed (Ok (v, found.after))) hands)

-- ---- of the code's

pub same_lift : (w : View) (memory : List ℕ) (table : Handles) (encoding : StringEncoding) (way : Way) (l k : LayoutTy) (slots : List CoreValue) → IsGivenBy w memory table encoding → l ≡ k
    → lift_of memory table encoding way l slots ≡ lift_of w.memory w.table w.encoding way k slots
same_lift w memory table encoding way l k slots is same =
    ap (λ m. lift_of m table encoding way l slots) (sym is.memory_is)
    ∙ (ap (λ t. lift_of w.memory t encoding way l slots) (sym is.table_is)
    ∙ (ap (λ e. lift_of w.memory w.table e way l slots) (sym is.encoding_is) ∙ ap (λ x. lift_of w.memory w.table w.encoding way x slots) same))

abbrev pub LiftsLaw : Type 0
LiftsLaw = (w : View) (way : Way) (types : Fields) (slots : List CoreValue) (v : Val) (tags : List Bool) (h : Hands)
    → lift_of w.memory w.table w.encoding way (layout_of_fields_at types) slots ≡ Ok (v, tags, h) → Lifts w way types slots v tags h

abbrev pub OnlyLaw : Type 0
OnlyLaw = (w : View) (way : Way) (types : Fields) (slots : List CoreValue) (v : Val) → Denotes w way types slots v → Transferable w way types slots v
    → (tags : List Bool) × (h : Hands) × (lift_of w.memory w.table w.encoding way (layout_of_fields_at types) slots ≡ Ok (v, tags, h))

pub lifts_given : LiftsLaw → (w : View) (memory : List ℕ) (table : Handles) (encoding : StringEncoding) (way : Way) (l : LayoutTy) (types : Fields) (slots : List CoreValue) (v : Val) (tags : List Bool) (h : Hands)
    → IsGivenBy w memory table encoding → l ≡ layout_of_fields_at types → lift_of memory table encoding way l slots ≡ Ok (v, tags, h) → Lifts w way types slots v tags h
lifts_given law w memory table encoding way l types slots v tags h is same e =
    law w way types slots v tags h (sym (same_lift w memory table encoding way l (layout_of_fields_at types) slots is same) ∙ e)

pub only_given : OnlyLaw → (w : View) (memory : List ℕ) (table : Handles) (encoding : StringEncoding) (way : Way) (l : LayoutTy) (types : Fields) (slots : List CoreValue) (v : Val) (f : AbiFault)
    → IsGivenBy w memory table encoding → l ≡ layout_of_fields_at types → Denotes w way types slots v → Transferable w way types slots v → lift_of memory table encoding way l slots ≡ Err f → ⊥
only_given law w memory table encoding way l types slots v f is same denoted can e =
    let found = law w way types slots v denoted can in
    not_both (lift_of w.memory w.table w.encoding way (layout_of_fields_at types) slots) (v, found.0, found.1) f found.2
    (sym (same_lift w memory table encoding way l (layout_of_fields_at types) slots is same) ∙ e)

-- what is read of a tuple is fields
pub fields_read : (w : Source) (limit : ℕ) (types : Fields) (l : LayoutTy) (slots : List CoreValue) (s after : State) (v : Val) → l ≡ layout_of_fields_at types → read_passed w limit l slots s ≡ Ok (v, after)
    → (vs : Vals) × (v ≡ parts vs)
fields_read w limit types l slots s after v same e =
    by_way (nat_lt limit (length (flat_of_fields types))) (ap (λ x. read_passed w limit x slots s) (sym same) ∙ e)
  where
    by_way : (b : Bool) → (if b then read_spilled w (layout_of_fields_at types) (wrapped_at 4 slots 0) s else read_flat w (shape_of_type (tuple_of types)) slots s) ≡ Ok (v, after) → (vs : Vals) × (v ≡ parts vs)
    by_way true e =
        let there = spilled_ok w (layout_of_fields_at types) (wrapped_at 4 slots 0) s (v, after) e in
        let r = mapped_ok parts _ (v, after) there.read in
        (r.0, sym r.1)
    by_way false e = let r = mapped_ok parts _ (v, after) e in (r.0, sym r.1)
