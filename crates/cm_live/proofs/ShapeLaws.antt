-- Where a move does not trap, its core values are of the kinds that are wanted.
use Rattle.std.proofs.Common.{◌≡◌, ◌⊎◌, inl, inr, ℕ, Bool, true, false, List, [], ◌∷◌, ◌++◌, length}
use Rattle.std.proofs.Common.{Option, Some, None, refl, sym, ap, subst, ◌∙◌, arith}
use Rattle.std.specs.Prelude.{⊤, if◌then◌else◌, map, nat_lt, slice_get}
use Rattle.std.proofs.lemmas.Bool.{true≢false}
use Rattle.std.proofs.lemmas.Bool.Decides.{leb_tells}
use Rattle.cm_types.specs.CoreValues.{kind_of}
use Rattle.cm_types.specs.declared.core_value.CoreKind.{CoreKind}
use Rattle.cm_types.specs.declared.core_value.CoreKind.TheVariants as kind
use Rattle.cm_types.specs.declared.core_value.CoreValue.{CoreValue}
use Rattle.cm_types.specs.declared.core_value.CoreValue.TheVariants as core_value
use Rattle.std.specs.declared.alloc.Global.{Global}
use Rattle.std.specs.declared.vec.Vec.{Vec}
use Rattle.cm_abi_model.specs.Numbers.{slot_at}
use Rattle.cm_abi_model.specs.Requests.{tuple_of}
use Rattle.cm_abi_model.specs.Views.{results}
use Rattle.cm_layout.specs.Flattening.{flat_of_fields}
use Rattle.cm_layout.specs.Sizes.{size_of}
use Rattle.cm_machine.specs.cm_machine_model.declared.event.Event.{Event}
use Rattle.cm_machine.specs.cm_machine_model.declared.event.Event.TheVariants as event
use Rattle.cm_machine.specs.cm_machine_model.declared.event.Trap.{Trap}
use Rattle.cm_machine.specs.cm_machine_model.declared.event.Trap.TheVariants as trap
use Rattle.cm_machine.specs.cm_machine_model.declared.moves.Move.{Move}
use Rattle.cm_machine.specs.cm_machine_model.declared.moves.Move.TheVariants as move
use Rattle.cm_machine.specs.cm_machine_model.Events.{is_last}
use Rattle.cm_machine.specs.cm_machine_model.Plan.{CoreFunc, Plan, core_func_at, drops, guest, lowered}
use Rattle.cm_machine.specs.cm_machine_model.Plan.{makes, represents, types_of}
use Rattle.cm_machine.specs.cm_machine_model.State.{State}
use Rattle.cm_machine.specs.cm_machine_laws.Causes.{CallCause, Cause, HaveKinds, IsFirst, call_order}
use Rattle.cm_machine.specs.cm_machine_laws.Causes.{MayFindNoMemory, call_order_behind, one_number}
use Rattle.cm_machine.specs.cm_machine_laws.Causes.{order, passed_kinds}
use Rattle.cm_machine.specs.cm_machine_laws.Answers.{AnswersReturn, Traps}
use Rattle.cm_machine.specs.cm_machine_laws.Doing.{Asked, Doing, LoweredCall, body, destroys}
use Rattle.cm_machine.specs.cm_machine_laws.Doing.{handing, placing, root, tidying}
use Rattle.cm_machine.specs.cm_machine_laws.Told.{is_by_memory, result_place_of}
use Rattle.cm_abi_model.specs.declared.region.Region.{Region}
use Rattle.cm_live.specs.Calls.{number_of}
use Rattle.cm_live.specs.Played.{calls_of}
use Rattle.cm_live.specs.Rooms.{IsAsking, latest_place}
use Rattle.cm_live.specs.Told.{result_of}
use Rattle.cm_live.specs.declared.goings_on.Asking.{Asking}

-- ---- kinds

no_kinds : (k : CoreKind) (ks : List CoreKind) → k ∷ ks ≡ [] → ⊥
no_kinds k ks e = absurd (omega (arith, ap length e))

abbrev pub IsI32 : CoreKind → Type 0
IsI32 kind.I32 = ⊤
IsI32 kind.I64 = ⊥

kind_known : (k l : CoreKind) → (k ≡ l) ⊎ (k ≡ l → ⊥)
kind_known kind.I32 kind.I32 = inl refl
kind_known kind.I32 kind.I64 = inr (λ e. subst IsI32 e tt)
kind_known kind.I64 kind.I32 = inr (λ e. subst IsI32 (sym e) tt)
kind_known kind.I64 kind.I64 = inl refl

abbrev pub first_kind : CoreKind → List CoreKind → CoreKind
first_kind d [] = d
first_kind d (k ∷ ks) = k

abbrev later_kinds : List CoreKind → List CoreKind
later_kinds [] = []
later_kinds (k ∷ ks) = ks

kinds_with : (c : CoreValue) (cs : List CoreValue) (k : CoreKind) (ks : List CoreKind)
    → (kind_of c ≡ k) ⊎ (kind_of c ≡ k → ⊥) → HaveKinds ks cs ⊎ (HaveKinds ks cs → ⊥)
    → HaveKinds (k ∷ ks) (c ∷ cs) ⊎ (HaveKinds (k ∷ ks) (c ∷ cs) → ⊥)
kinds_with c cs k ks (inl e) (inl h) =
    inl (ap (λ (x : CoreKind). x ∷ map kind_of cs) e ∙ ap (λ (xs : List CoreKind). k ∷ xs) h)
kinds_with c cs k ks (inl e) (inr n) = inr (λ h. n (ap later_kinds h))
kinds_with c cs k ks (inr n) h = inr (λ w. n (ap (first_kind k) w))

kinds_known : (ks : List CoreKind) (cs : List CoreValue)
    → HaveKinds ks cs ⊎ (HaveKinds ks cs → ⊥)
kinds_known [] [] = inl refl
kinds_known [] (c ∷ cs) = inr (λ h. no_kinds (kind_of c) (map kind_of cs) h)
kinds_known (k ∷ ks) [] = inr (λ h. no_kinds k ks (sym h))
kinds_known (k ∷ ks) (c ∷ cs) =
    kinds_with c cs k ks (kind_known (kind_of c) k) (kinds_known ks cs)

-- a number of 32 bits behind others is the number there
pub number_at_end : (ks : List CoreKind) (args : List CoreValue)
    → HaveKinds (ks ++ kind.I32 ∷ []) args
    → number_of (slice_get args (length ks)) ≡ slot_at args (length ks)
number_at_end [] [] h = refl
number_at_end [] (core_value.I32 n ∷ cs) h = refl
number_at_end [] (core_value.I64 n ∷ cs) h =
    absurd (subst IsI32 (sym (ap (first_kind kind.I32) h)) tt)
number_at_end (k ∷ ks) [] h = absurd (no_kinds k (ks ++ kind.I32 ∷ []) (sym h))
number_at_end (k ∷ ks) (c ∷ cs) h = number_at_end ks cs (ap later_kinds h)

-- ---- moves that do not trap

-- by a cause in the order a move traps
abbrev pub Refuses : Plan → State → List Doing → ℕ → Move → Event → Type 0
Refuses plan s ds i m e = (t : Trap) → IsFirst (order plan ds i m) (Cause plan s ds i m) t
    → (e ≡ event.Trapped t)
    ⊎ ((e ≡ event.Trapped trap.EngineMemory) × MayFindNoMemory plan s ds i m)

no_trap : (e : Event) (t : Trap) (M : Type 0) → is_last e ≡ false
    → (e ≡ event.Trapped t) ⊎ ((e ≡ event.Trapped trap.EngineMemory) × M) → ⊥
no_trap e t M l (inl h) = true≢false (sym (ap is_last h) ∙ l)
no_trap e t M l (inr h) = true≢false (sym (ap is_last h.0) ∙ l)

first_is : (os : List Trap) (P : Trap → Type 0) → P trap.CoreShape
    → IsFirst (trap.CoreShape ∷ os) P trap.CoreShape
first_is os P p =
    record { earlier = []; later = os; in_order = refl; none_earlier = tt; present = p }

-- the kinds of what a lowered function is called with
abbrev pub AreShaped : Option CoreFunc → List CoreValue → Type 0
AreShaped (Some (lowered l)) args = HaveKinds (passed_kinds l) args
AreShaped f args = ⊤

shaped_call : (plan : Plan) (s : State) (ds : List Doing) (i func : ℕ)
    (args : Vec CoreValue Global) (e : Event) (f : Option CoreFunc) → core_func_at plan i func ≡ f
    → is_last e ≡ false → Refuses plan s ds i (move.Call func args) e → AreShaped f args.items
shaped_call plan s ds i func args e None is l r = tt
shaped_call plan s ds i func args e (Some guest) is l r = tt
shaped_call plan s ds i func args e (Some (lowered k)) is l r =
    elim (kinds_known (passed_kinds k) args.items) [
      | inl h ↦ h
      | inr n ↦ absurd (no_trap e trap.CoreShape (MayFindNoMemory plan s ds i (move.Call func args)) l
          (r trap.CoreShape
          (subst (λ (g : Option CoreFunc). IsFirst (call_order g ++ call_order_behind g)
          (CallCause s ds i g args.items) trap.CoreShape) (sym is)
          (first_is _ (CallCause s ds i (Some (lowered k)) args.items) n))))
    ]
shaped_call plan s ds i func args e (Some (makes k)) is l r = tt
shaped_call plan s ds i func args e (Some (drops k d)) is l r = tt
shaped_call plan s ds i func args e (Some (represents k)) is l r = tt

-- the kinds of what a move passes on: of a call, and of an allocator's answer
abbrev pub IsShaped : Plan → List Doing → ℕ → Move → Type 0
IsShaped plan ds i (move.Call func args) = AreShaped (core_func_at plan i func) args.items
IsShaped plan (handing x asked back more ∷ ds) i (move.Return values) =
    HaveKinds one_number values.items
IsShaped plan ds i m = ⊤

shaped_return : (plan : Plan) (s : State) (ds : List Doing) (i : ℕ)
    (values : Vec CoreValue Global) (e : Event) → is_last e ≡ false
    → Refuses plan s ds i (move.Return values) e → IsShaped plan ds i (move.Return values)
shaped_return plan s [] i values e l r = tt
shaped_return plan s (root j ∷ ds) i values e l r = tt
shaped_return plan s (placing x asked ∷ ds) i values e l r = tt
shaped_return plan s (body x asked ∷ ds) i values e l r = tt
shaped_return plan s (handing x asked back more ∷ ds) i values e l r =
    elim (kinds_known one_number values.items) [
      | inl h ↦ h
      | inr n ↦ absurd (no_trap e trap.CoreShape
          (MayFindNoMemory plan s (handing x asked back more ∷ ds) i (move.Return values)) l
          (r trap.CoreShape
          (first_is _ (Cause plan s (handing x asked back more ∷ ds) i (move.Return values)) n)))
    ]
shaped_return plan s (tidying x asked back more ∷ ds) i values e l r = tt
shaped_return plan s (destroys dropper j ∷ ds) i values e l r = tt

pub shaped : (plan : Plan) (s : State) (ds : List Doing) (i : ℕ) (m : Move) (e : Event)
    → is_last e ≡ false → Refuses plan s ds i m e → IsShaped plan ds i m
shaped plan s ds i (move.Write at bytes) e l r = tt
shaped plan s ds i (move.Grow pages) e l r = tt
shaped plan s ds i (move.Call func args) e l r =
    shaped_call plan s ds i func args e (core_func_at plan i func) refl l r
shaped plan s ds i (move.Return values) e l r = shaped_return plan s ds i values e l r
shaped plan s ds i move.Unreachable e l r = tt

-- ---- returns without core values

pub no_values : (vs : List CoreValue) → nat_lt 0 (length vs) ≡ false → vs ≡ []
no_values [] h = refl
no_values (v ∷ vs) h = elim (leb_tells 1 (length (v ∷ vs))) [
  | inl w ↦ absurd (true≢false (sym w.0 ∙ h))
  | inr w ↦ absurd (omega (arith, w.1))
]

-- where a number is wanted, none is not enough
few : (vs : List CoreValue) → vs ≡ [] → HaveKinds one_number vs → ⊥
few vs none h =
    no_kinds kind.I32 [] (sym (subst (λ (cs : List CoreValue). HaveKinds one_number cs) none h))

-- no allocator is asked, and no result goes by memory
abbrev pub NoneIsKept : List Doing → Option Asking → Type 0
NoneIsKept ds asking = (asking ≡ None) × (latest_place (calls_of ds) ≡ None)

no_last : (e : Event) (A : Type 0) → is_last e ≡ false → Traps e → A
no_last e A l t = absurd (true≢false (sym (ap is_last t.1) ∙ l))

-- a return that traps for its core values
too_few : (plan : Plan) (s : State) (ds : List Doing) (i : ℕ) (values : Vec CoreValue Global)
    (e : Event) (A : Type 0) → is_last e ≡ false → Refuses plan s ds i (move.Return values) e
    → IsFirst (order plan ds i (move.Return values)) (Cause plan s ds i (move.Return values))
    trap.CoreShape → A
too_few plan s ds i values e A l r first =
    absurd (no_trap e trap.CoreShape (MayFindNoMemory plan s ds i (move.Return values)) l
    (r trap.CoreShape first))

-- the kinds of a result that goes by memory, or does not; and its place
abbrev kinds_by : Bool → LoweredCall → List CoreKind
kinds_by b x = if b then one_number else flat_of_fields (types_of x.link results)

abbrev place_at : Bool → LoweredCall → Option Region
place_at b x = if b then Some (record {
  at = result_place_of x;
  size = size_of (tuple_of (types_of x.link results));
}) else None

-- a body that gives no core values has no result that goes by memory
body_place : (plan : Plan) (s : State) (x : LoweredCall) (asked : List Asked) (ds : List Doing)
    (i : ℕ) (values : Vec CoreValue Global) (e : Event) (spilled : Bool) → is_by_memory x ≡ spilled
    → is_last e ≡ false → Refuses plan s (body x asked ∷ ds) i (move.Return values) e
    → values.items ≡ [] → result_of x ≡ None
body_place plan s x asked ds i values e true is l r none =
    too_few plan s (body x asked ∷ ds) i values e (result_of x ≡ None) l r
    (first_is _ (Cause plan s (body x asked ∷ ds) i (move.Return values))
    (λ h. few values.items none
    (subst (λ (b : Bool). HaveKinds (kinds_by b x) values.items) is h)))
body_place plan s x asked ds i values e false is l r none = ap (λ (b : Bool). place_at b x) is

pub none_kept : (plan : Plan) (s : State) (ds : List Doing) (i : ℕ) (values : Vec CoreValue Global)
    (e : Event) (asking : Option Asking) (rooms : List Region) → is_last e ≡ false
    → Refuses plan s ds i (move.Return values) e → Traps e ⊎ AnswersReturn ds e
    → values.items ≡ [] → IsAsking ds asking rooms → NoneIsKept ds asking
none_kept plan s ds i values e asking rooms l r (inl t) none asks =
    no_last e (NoneIsKept ds asking) l t
none_kept plan s [] i values e asking rooms l r (inr a) none asks = absurd a
none_kept plan s (root j ∷ ds) i values e asking rooms l r (inr a) none asks =
    absurd (true≢false (sym (ap is_last a) ∙ l))
none_kept plan s (placing x asked ∷ ds) i values e asking rooms l r (inr a) none asks =
    too_few plan s (placing x asked ∷ ds) i values e (NoneIsKept (placing x asked ∷ ds) asking) l r
    (first_is _ (Cause plan s (placing x asked ∷ ds) i (move.Return values))
    (few values.items none))
none_kept plan s (body x asked ∷ ds) i values e asking rooms l r (inr a) none asks =
    (asks.0, body_place plan s x asked ds i values e (is_by_memory x) refl l r none)
none_kept plan s (handing x asked back more ∷ ds) i values e asking rooms l r (inr a) none asks =
    too_few plan s (handing x asked back more ∷ ds) i values e
    (NoneIsKept (handing x asked back more ∷ ds) asking) l r
    (first_is _ (Cause plan s (handing x asked back more ∷ ds) i (move.Return values))
    (few values.items none))
none_kept plan s (tidying x asked back more ∷ ds) i values e asking rooms l r (inr a) none asks =
    (asks.0, refl)
none_kept plan s (destroys dropper j ∷ ds) i values e asking rooms l r (inr a) none asks =
    (asks.0, refl)
