-- Calls whose values are numbers alone.
use Rattle.std.proofs.Common.{◌≡◌, ℕ, zero, suc, ◌+◌, ◌<◌, ◌≤◌, inl, inr, List, [], ◌∷◌, length, map, Some, None, refl, sym, ap, subst, ◌∙◌, arith}
use Rattle.std.proofs.lemmas.Bool.{cases_lt, ltb-false}
use Rattle.std.proofs.lemmas.List.{get_or-set_same, get_or-set_other, get_or_past}
use Rattle.std.specs.Prelude.{Bool, true, false, if◌then◌else◌, slice_index_or, slice_set}
use Rattle.cm_types.specs.declared.core_value.CoreKind.{CoreKind}
use Rattle.cm_types.specs.declared.core_value.CoreKind.TheVariants as kind
use Rattle.cm_types.specs.declared.core_value.CoreValue.{CoreValue}
use Rattle.cm_types.specs.declared.core_value.CoreValue.TheVariants as core_value
use Rattle.cm_types.specs.CoreValues.{kind_of}
use Rattle.cm_types.specs.Types.{Fields}
use Rattle.cm_types.specs.Values.{Val, parts}
use Rattle.cm_layout.specs.Flattening.{flat_of_fields}
use Rattle.cm_layout.specs.Shapes.{parts_at, parts_from}
use Rattle.cm_abi_model.specs.Denotes.{Denotes}
use Rattle.cm_abi_model.specs.LiftStops.{LiftStops}
use Rattle.cm_abi_model.specs.Numbers.{slot_at, slot_number}
use Rattle.cm_abi_model.specs.Receives.{SlotsHold}
use Rattle.cm_abi_model.specs.Requests.{is_spilled, tuple_of}
use Rattle.cm_abi_model.specs.Stores.{IsBeside}
use Rattle.cm_abi_model.specs.Views.{View, Way}
use Rattle.cm_abi_model.specs.declared.fault.AbiFault.TheVariants as fault
use Rattle.cm_abi_slots.specs.declared.steps.SlotStep.{SlotStep}
use Rattle.cm_abi_slots.specs.declared.steps.SlotStep.TheVariants as step
use Rattle.cm_abi_slots.specs.Passing.{FitsKind, IsFine, PassesNumbers, passed_by}
use Rattle.cm_abi_slots.specs.Steps.{AreStepsOf, are_plain, steps_of_parts}
use Rattle.cm_abi_slots.proofs.SlotLaws.{FaultAt, Faulty, Fine, FineAt, core_at, fields_read, puts_by, value_fine, value_stops, wide_fields}
use Rattle.cm_lemmas.proofs.Options.{none_some, some_is}

abbrev pub step_at : List SlotStep → ℕ → SlotStep
step_at steps i = slice_index_or steps i step.Keep

abbrev kind_at : List CoreKind → ℕ → CoreKind
kind_at kinds i = slice_index_or kinds i kind.I32

-- a core value is passed by a step, as another one
pub record PassedAt (p : SlotStep) (c d : CoreValue) : Type 0 where
  pub fits : FitsKind c
  pub fine : IsFine p c
  pub is : d ≡ passed_by p c

-- the first so many core values are passed by their steps, and the others are as they were
pub record PassedTo (steps : List SlotStep) (old now : List CoreValue) (i : ℕ) : Type 0 where
  pub same_length : length now ≡ length old
  pub kinds : map kind_of now ≡ map kind_of old
  pub before : (j : ℕ) → j < i → PassedAt (step_at steps j) (core_at old j) (core_at now j)
  pub behind : (j : ℕ) → i ≤ j → core_at now j ≡ core_at old j

set_kinds : (slots : List CoreValue) (i : ℕ) (x : CoreValue) → kind_of x ≡ kind_of (core_at slots i) → map kind_of (slice_set slots i x) ≡ map kind_of slots
set_kinds [] i x same = refl
set_kinds (s ∷ slots) zero x same = ap (λ k. k ∷ map kind_of slots) same
set_kinds (s ∷ slots) (suc i) x same = ap (λ ks. kind_of s ∷ ks) (set_kinds slots i x same)

set_length : (slots : List CoreValue) (i : ℕ) (x : CoreValue) → length (slice_set slots i x) ≡ length slots
set_length [] i x = refl
set_length (s ∷ slots) zero x = refl
set_length (s ∷ slots) (suc i) x = ap suc (set_length slots i x)

kind_stays : (p : SlotStep) (c : CoreValue) → kind_of (passed_by p c) ≡ kind_of c
kind_stays p (core_value.I32 n) = refl
kind_stays p (core_value.I64 n) = refl

pub passed_none : (steps : List SlotStep) (slots : List CoreValue) → PassedTo steps slots slots 0
passed_none steps slots = record { same_length = refl; kinds = refl; before = λ j lt. absurd (omega (arith, lt)); behind = λ j le. refl }

pub passed_next : (steps : List SlotStep) (old now : List CoreValue) (i : ℕ) (x : CoreValue) → i < length now → PassedTo steps old now i
    → FitsKind (core_at now i) → IsFine (step_at steps i) (core_at now i) → x ≡ passed_by (step_at steps i) (core_at now i)
    → PassedTo steps old (slice_set now i x) (i + 1)
passed_next steps old now i x lt p fits fine is =
    record {
      same_length = set_length now i x ∙ p.same_length;
      kinds = set_kinds now i x (ap kind_of is ∙ kind_stays (step_at steps i) (core_at now i)) ∙ p.kinds;
      before = λ j below. elim (cases_lt j i) [
        | inl first ↦ subst (PassedAt (step_at steps j) (core_at old j)) (sym (get_or-set_other now i j x (core_value.I32 0) (λ e. omega (arith, first, e)))) (p.before j first)
        | inr last ↦ there j (omega (arith, last, below))
      ];
      behind = λ j le. get_or-set_other now i j x (core_value.I32 0) (λ e. omega (arith, le, e)) ∙ p.behind j (omega (arith, le));
    }
  where
    was : core_at now i ≡ core_at old i
    was = p.behind i (omega arith)

    here : PassedAt (step_at steps i) (core_at old i) (core_at (slice_set now i x) i)
    here = record {
      fits = subst FitsKind was fits;
      fine = subst (IsFine (step_at steps i)) was fine;
      is = get_or-set_same now i x (core_value.I32 0) lt ∙ is ∙ ap (passed_by (step_at steps i)) was;
    }

    there : (j : ℕ) → j ≡ i → PassedAt (step_at steps j) (core_at old j) (core_at (slice_set now i x) j)
    there j same = subst (λ n. PassedAt (step_at steps n) (core_at old n) (core_at (slice_set now i x) n)) (sym same) here

-- ---- from each core value to all

kind_there : (slots : List CoreValue) (j : ℕ) → kind_of (core_at slots j) ≡ kind_at (map kind_of slots) j
kind_there [] j = refl
kind_there (c ∷ slots) zero = refl
kind_there (c ∷ slots) (suc j) = kind_there slots j

all_fine : (steps : List SlotStep) (ks : List CoreKind) (slots : List CoreValue) (s : ℕ) → length steps ≡ length ks
    → ((j : ℕ) → j < length steps → FineAt (step_at steps j) (kind_at ks j) (core_at slots (s + j))) → Fine steps ks slots s
all_fine [] ks slots s same all = tt
all_fine (p ∷ ps) [] slots s same all = absurd (omega (arith, same))
all_fine (p ∷ ps) (k ∷ ks) slots s same all = (
  subst (λ n. FineAt p k (core_at slots n)) {x = s + 0} {y = s} (omega arith) (all 0 (omega arith)),
  all_fine ps ks slots (s + 1) (omega (arith, same)) (λ j lt.
      subst (λ n. FineAt (step_at ps j) (kind_at ks j) (core_at slots n)) {x = s + suc j} {y = s + 1 + j} (omega arith) (all (suc j) (omega (arith, lt)))),
)

first_fault : (steps : List SlotStep) (ks : List CoreKind) (slots : List CoreValue) (s i : ℕ) → length steps ≡ length ks → i < length steps
    → ((j : ℕ) → j < i → FineAt (step_at steps j) (kind_at ks j) (core_at slots (s + j)))
    → FaultAt (step_at steps i) (kind_at ks i) (core_at slots (s + i)) → Faulty steps ks slots s
first_fault [] ks slots s i same lt all f = absurd (omega (arith, lt))
first_fault (p ∷ ps) [] slots s i same lt all f = absurd (omega (arith, same))
first_fault (p ∷ ps) (k ∷ ks) slots s zero same lt all f = inl (subst (λ n. FaultAt p k (core_at slots n)) {x = s + 0} {y = s} (omega arith) f)
first_fault (p ∷ ps) (k ∷ ks) slots s (suc i) same lt all f =
    inr (
      subst (λ n. FineAt p k (core_at slots n)) {x = s + 0} {y = s} (omega arith) (all 0 (omega arith)),
      first_fault ps ks slots (s + 1) i (omega (arith, same)) (omega (arith, lt))
          (λ j below. subst (λ n. FineAt (step_at ps j) (kind_at ks j) (core_at slots n)) {x = s + suc j} {y = s + 1 + j} (omega arith) (all (suc j) (omega (arith, below))))
          (subst (λ n. FaultAt (step_at ps i) (kind_at ks i) (core_at slots n)) {x = s + suc i} {y = s + 1 + i} (omega arith) f),
    )

hold_all : (steps : List SlotStep) (slots out : List CoreValue) (s : ℕ)
    → ((j : ℕ) → j < length steps → core_at out (s + j) ≡ passed_by (step_at steps j) (core_at slots (s + j))) → SlotsHold out (puts_by steps slots s)
hold_all [] slots out s all = tt
hold_all (p ∷ ps) slots out s all = (
  ap slot_number (subst (λ n. core_at out n ≡ passed_by p (core_at slots n)) {x = s + 0} {y = s} (omega arith) (all 0 (omega arith))),
  hold_all ps slots out (s + 1) (λ j lt.
      subst (λ n. core_at out n ≡ passed_by (step_at ps j) (core_at slots n)) {x = s + suc j} {y = s + 1 + j} (omega arith) (all (suc j) (omega (arith, lt)))),
)

never_beside : (steps : List SlotStep) (slots : List CoreValue) (s j : ℕ) → s ≤ j → j < s + length steps → IsBeside j (puts_by steps slots s) → ⊥
never_beside [] slots s j le lt b = omega (arith, le, lt)
never_beside (p ∷ ps) slots s j le lt b = elim (cases_lt j (s + 1)) [
  | inl here ↦ b.0 (omega (arith, le, here))
  | inr later ↦ never_beside ps slots (s + 1) j later (omega (arith, lt)) b.1
]

chosen : {A : Type 0} (b c : Bool) (xs ys : A) → (if b then None else if c then Some xs else None) ≡ Some ys → (b ≡ false) × (c ≡ true) × (xs ≡ ys)
chosen true c xs ys e = none_some ys e
chosen false true xs ys e = (refl, refl, some_is xs ys e)
chosen false false xs ys e = none_some ys e

pub as_many_steps : (way : Way) (types : Fields) (steps : List SlotStep) → AreStepsOf way types steps → length steps ≡ length (flat_of_fields types)
as_many_steps way types steps are = let told = chosen _ _ _ _ are in sym (ap length told.2) ∙ wide_fields types 0 told.1

-- ---- a call

module _ (w : View) (way : Way) (types : Fields) (steps : List SlotStep) (slots : List CoreValue) (are : AreStepsOf way types steps)
    (kinds : map kind_of slots ≡ flat_of_fields types) (count : length slots ≡ length steps) where
  abbrev Ps : List SlotStep
  Ps = steps_of_parts (parts_from (parts_at types 0))

  told : (is_spilled way types ≡ false) × (are_plain (parts_from (parts_at types 0)) ≡ true) × (Ps ≡ steps)
  told = chosen _ _ _ _ are

  as_many : length steps ≡ length (flat_of_fields types)
  as_many = sym count ∙ sym (map_same slots) ∙ ap length kinds
    where
      map_same : (cs : List CoreValue) → length (map kind_of cs) ≡ length cs
      map_same [] = refl
      map_same (c ∷ cs) = ap suc (map_same cs)

  kind_is : (j : ℕ) → kind_of (core_at slots j) ≡ kind_at (flat_of_fields types) j
  kind_is j = kind_there slots j ∙ ap (λ ks. kind_at ks j) kinds

  fine_at : (now : List CoreValue) (i j : ℕ) → PassedTo steps slots now i → j < i → FineAt (step_at steps j) (kind_at (flat_of_fields types) j) (core_at slots (0 + j))
  fine_at now i j p below =
      let one = p.before j below in
      subst (λ n. FineAt (step_at steps j) (kind_at (flat_of_fields types) j) (core_at slots n)) {x = j} {y = 0 + j} (omega arith)
      (record { kind = kind_is j; fits = one.fits; fine = one.fine })

  pub all_passed : (out : List CoreValue) (i : ℕ) → length steps ≤ i → PassedTo steps slots out i → (v : Val) × PassesNumbers w way types slots out v
  all_passed out i past p =
      let fine : Fine Ps (flat_of_fields types) slots 0 =
      subst (λ ps. Fine ps (flat_of_fields types) slots 0) (sym told.2)
      (all_fine steps (flat_of_fields types) slots 0 as_many (λ j lt. fine_at out i j p (omega (arith, lt, past)))) in
      let row = fields_read slots types 0 0 told.1 fine in (
        parts row.0,
        record {
          denoted = inl (record { fits = ltb-false _ _ told.0; shown = row.1.shown_is w });
          nothing_met = rw told.0 (row.1.nothing_met w);
          no_part = rw told.0 row.1.no_part;
          received = λ to g charset. record {
            typed = row.1.typed_is;
            stored_in = charset;
            numbers = rw told.0 (record {
              of_kinds = p.kinds ∙ kinds;
              numbers = subst (SlotsHold out) (sym (row.1.numbers g 0 0)) held;
              others = λ j beside. others j (subst (IsBeside j) (row.1.numbers g 0 0) beside);
            });
            placed = rw (told.0, row.1.no_part) tt;
            apart = rw (told.0, row.1.no_part) tt;
            bytes = rw (told.0, row.1.nothing_behind g 0 0) tt;
            handles = rw row.1.no_leaf tt;
          };
        },
      )
    where
      held : SlotsHold out (puts_by Ps slots 0)
      held = subst (λ ps. SlotsHold out (puts_by ps slots 0)) (sym told.2) (hold_all steps slots out 0 (λ j lt.
          subst (λ n. core_at out n ≡ passed_by (step_at steps j) (core_at slots n)) {x = j} {y = 0 + j} (omega arith) (p.before j (omega (arith, lt, past))).is))

      others : (j : ℕ) → IsBeside j (puts_by Ps slots 0) → slot_at out j ≡ 0
      others j beside = elim (cases_lt j (length steps)) [
        | inl there ↦ absurd (never_beside steps slots 0 j (omega arith) (omega (arith, there)) (subst (λ ps. IsBeside j (puts_by ps slots 0)) told.2 beside))
        | inr none ↦ ap slot_number (get_or_past out j (core_value.I32 0) (omega (arith, none, count, p.same_length)))
      ]

  at_fault : (now : List CoreValue) (i : ℕ) → i < length steps → PassedTo steps slots now i → FitsKind (core_at now i) → (IsFine (step_at steps i) (core_at now i) → ⊥)
      → Faulty Ps (flat_of_fields types) slots 0
  at_fault now i lt p fits bad =
      let was : core_at now i ≡ core_at slots i = p.behind i (omega arith) in
      subst (λ ps. Faulty ps (flat_of_fields types) slots 0) (sym told.2)
      (first_fault steps (flat_of_fields types) slots 0 i as_many lt (λ j below. fine_at now i j p below)
      (subst (λ n. FaultAt (step_at steps i) (kind_at (flat_of_fields types) i) (core_at slots n)) {x = i} {y = 0 + i} (omega arith)
      (record { fits = subst FitsKind was fits; fault = λ fine. bad (subst (IsFine (step_at steps i)) (sym was) fine) })))

  pub call_stops : (now : List CoreValue) (i : ℕ) → i < length steps → PassedTo steps slots now i → FitsKind (core_at now i) → (IsFine (step_at steps i) (core_at now i) → ⊥)
      → LiftStops w way types slots fault.BadChar
  call_stops now i lt p fits bad = rw told.0 (value_stops w slots (tuple_of types) 0 [] told.1 (at_fault now i lt p fits bad))

  pub denotes_nothing : (now : List CoreValue) (i : ℕ) → i < length steps → PassedTo steps slots now i → FitsKind (core_at now i) → (IsFine (step_at steps i) (core_at now i) → ⊥)
      → (v : Val) → Denotes w way types slots v → ⊥
  denotes_nothing now i lt p fits bad v (inl flat) = value_fine w slots (tuple_of types) 0 v told.1 flat.shown (at_fault now i lt p fits bad)
  denotes_nothing now i lt p fits bad v (inr spilled) = omega (arith, ltb-false _ _ told.0, spilled.spilled)
