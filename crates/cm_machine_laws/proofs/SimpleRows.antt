-- Each move, judged by the causes of its traps.
use Rattle.std.proofs.Common.{◌≡◌, ℕ, ◌<◌, ◌≤◌, ◌⊎◌, inl, inr, Bool, List, [], ◌∷◌, ◌++◌, length, Option, Some, None, refl, sym, ap, subst, ◌∙◌, arith, if◌then◌else◌}
use Rattle.std.specs.Option.{option_map}
use Rattle.std.proofs.Math.Nat.{lt_of_not-le}
use Rattle.cm_types.specs.declared.core_value.CoreValue.{CoreValue}
use Rattle.cm_machine_model.specs.declared.event.Event.{Event}
use Rattle.cm_machine_model.specs.declared.event.Event.TheVariants as event
use Rattle.cm_machine_model.specs.declared.event.Trap.{Trap}
use Rattle.cm_machine_model.specs.declared.event.Trap.TheVariants as trap
use Rattle.cm_machine_model.specs.declared.moves.Move.{Move}
use Rattle.cm_machine_model.specs.declared.moves.Move.TheVariants as move
use Rattle.cm_machine_model.specs.Memories.{memory_at, pages_of}
use Rattle.cm_machine_model.specs.declared.frame.Call.{Call}
use Rattle.cm_machine_model.specs.declared.frame.Frame.{Frame}
use Rattle.cm_machine_model.specs.declared.frame.Phase.{Phase}
use Rattle.cm_machine_model.specs.declared.frame.Phase.TheVariants as phase
use Rattle.cm_machine_model.specs.declared.frame.Purpose.{Purpose}
use Rattle.cm_machine_model.specs.declared.frame.Purpose.TheVariants as purpose
use Rattle.cm_machine_model.specs.Plan.{CoreFunc, Link, Plan, Reaches, core_func_at, drops, guest, lowered, makes, represents}
use Rattle.cm_machine_model.specs.Rows.{same_link}
use Rattle.cm_machine_model.specs.Stack.{actor, actor_in, actor_of, below_top, top_of}
use Rattle.cm_machine_model.specs.State.{State}
use Rattle.cm_machine_model.specs.Step.{Calls, Grows, MayLeave, MayLeaveIn, Moves, Returns, ReturnsIn, Step, StepOn, Traps, Writes, as_values}
use Rattle.cm_machine_model.specs.Valid.{IsValidState}
use Rattle.cm_machine_laws.specs.Causes.{BodyCause, Cause, CallCause, GrowCause, MayCall, ReturnCause, StopCause, WriteCause, call_order, call_order_behind, lift_traps, order_before, order_behind, return_order, return_order_behind}
use Rattle.cm_machine_laws.specs.Doing.{BodyReturn, Doing, LoweredCall, body, destroys, handing, placing, root, tidying}
use Rattle.cm_machine_laws.specs.Frames.{match_length, may_call}
use Rattle.cm_machine_laws.specs.Matching.{AllMatch, AreTold, IsCallOf, MatchIn, MatchOne}
use Rattle.cm_machine_laws.specs.Told.{result_place_of}
use Rattle.cm_machine_laws.specs.Following.{AreFollowed}
use Rattle.cm_machine_laws.proofs.AnswerRows.{OneCarried}
use Rattle.cm_machine_laws.proofs.BodyRows.{Returning, TupleFirst, body_judged, returned_by}
use Rattle.cm_machine_laws.proofs.Judging.{Causing, Judged, check, here, lacks, passes}
use Rattle.cm_machine_laws.proofs.Lifting.{Laws}
use Rattle.cm_machine_laws.proofs.LowerRows.{lowered_judged}
use Rattle.cm_machine_laws.proofs.PlacedRows.{handing_judged, placing_judged}
use Rattle.cm_machine_laws.proofs.Resources.{drops_judged, makes_judged, represents_judged, resumes_not}

-- ---- a write, a growth and a stop

done_not : (e : Event) → e ≡ event.Done → (t : Trap) → e ≡ event.Trapped t → ⊥
done_not e is t eq = differ (sym is ∙ eq) where
  differ : event.Done ≡ event.Trapped t → ⊥
  differ y = cc (y)

grown_not : (o : Option ℕ) (e : Event) → e ≡ event.Grown o → (t : Trap) → e ≡ event.Trapped t → ⊥
grown_not o e is t eq = differ (sym is ∙ eq) where
  differ : event.Grown o ≡ event.Trapped t → ⊥
  differ y = cc (y)

ended_not : (e : Event) → e ≡ event.Ended → (t : Trap) → e ≡ event.Trapped t → ⊥
ended_not e is t eq = differ (sym is ∙ eq) where
  differ : event.Ended ≡ event.Trapped t → ⊥
  differ y = cc (y)

writes_judged : (s : State) (i at : ℕ) (bytes : List ℕ) (e : Event) (new : State) → Writes s i at bytes e new
    → Judged (trap.GuestBounds ∷ []) [] (WriteCause s i at (length bytes)) e
writes_judged s i at bytes e new row =
    check s [] [] (WriteCause s i at (length bytes)) e new trap.GuestBounds (λ f. lt_of_not-le f) (λ le lt. not_both le lt) row
    (λ le y. passes [] (WriteCause s i at (length bytes)) e (done_not e y.0) tt) where
      not_both : {a b : ℕ} → a ≤ b → b < a → ⊥
      not_both {a} {b} x y = absurd (omega (arith, x, y))

grows_judged : (s : State) (i pages : ℕ) (e : Event) (new : State) → Grows s i pages e new → Judged [] [] (GrowCause s i pages) e
grows_judged s i pages e new (inl x) = passes [] (GrowCause s i pages) e (grown_not None e x.1) tt
grows_judged s i pages e new (inr (inl x)) = passes [] (GrowCause s i pages) e (grown_not (Some (pages_of (memory_at s.memories i))) e x.1) tt
grows_judged s i pages e new (inr (inr x)) = lacks [] (GrowCause s i pages) e x.2.0 (x.1, x.0)

stops_judged : (s : State) (e : Event) (new : State) → Traps s trap.Unreachable e new → Judged (trap.Unreachable ∷ []) [] StopCause e
stops_judged s e new x = here [] [] StopCause e trap.Unreachable tt x.0

-- ---- a call

calling : (ph : Phase) (plan : Plan) (i : ℕ) (call : Call) (n : ℕ) (d : Doing) (ds : List Doing) → MatchIn ph plan i call n d → MayCall (d ∷ ds) → MayLeaveIn ph
calling phase.Arguments plan i call n (placing x asked) ds m may = may
calling phase.Body plan i call n (body x asked) ds m may = tt
calling phase.Results plan i call n (handing x asked r more) ds m may = may
calling (phase.PostReturn v) plan i call n (tidying x asked r more) ds m may = may
calling ph plan i call n d ds m may = absurd m

leaves_one : (pu : Purpose) (plan : Plan) (i n : ℕ) (d : Doing) (ds : List Doing) → MatchOne pu plan i n d → MayCall (d ∷ ds) → MayLeave pu
leaves_one purpose.Root plan i n (root j) ds m may = tt
leaves_one (purpose.Call call) plan i n d ds m may = calling call.phase plan i call n d ds m may
leaves_one (purpose.Destructor dropper) plan i n (destroys who j) ds m may = tt
leaves_one pu plan i n d ds m may = absurd m

may_leave : (plan : Plan) (top : Frame) (fs : List Frame) (ds : List Doing) → AllMatch plan (top ∷ fs) ds → MayCall ds → MayLeave top.purpose
may_leave plan top fs [] m may = absurd m
may_leave plan top fs (d ∷ ds) m may = leaves_one top.purpose plan top.instance (length fs) d ds m.0 may

calls_judged : (laws : Laws) (plan : Plan) (s : State) (top : Frame) (fs : List Frame) (ds : List Doing) (func : ℕ) (args : List CoreValue) → IsValidState plan s → s.stack ≡ top ∷ fs → AllMatch plan (top ∷ fs) ds
    → (o : Option CoreFunc) → core_func_at plan (actor top) func ≡ o → (e : Event) (new : State) → Calls s top func o args e new
    → Judged (call_order o) (call_order_behind o) (CallCause s ds (actor top) o args) e
calls_judged laws plan s top fs ds func args valid stack m None is e new row = here [] [] (CallCause s ds (actor top) None args) e trap.UnknownFunction tt row.0
calls_judged laws plan s top fs ds func args valid stack m (Some guest) is e new row = here [] [] (CallCause s ds (actor top) (Some guest) args) e trap.UnknownFunction tt row.0
calls_judged laws plan s top fs ds func args valid stack m (Some (lowered l)) is e new row =
    lowered_judged laws s ds top func l args (λ same. not_itself l.instance (actor top) same (valid.linked.core_funcs (actor top) func (lowered l) is).earlier)
    (λ may. may_call plan top fs ds may m) (may_leave plan top fs ds m) (match_length plan (top ∷ fs) ds m ∙ ap (λ (gs : List Frame). length gs) (sym stack)) e new row where
      not_itself : (a b : ℕ) → a ≡ b → a < b → ⊥
      not_itself a b e lt = absurd (omega (arith, e, lt))
calls_judged laws plan s top fs ds func args valid stack m (Some (makes r)) is e new row =
    makes_judged s ds top r args e new (λ may. may_call plan top fs ds may m) (may_leave plan top fs ds m) row
calls_judged laws plan s top fs ds func args valid stack m (Some (drops r d)) is e new row =
    drops_judged s ds top r d args e new (λ may. may_call plan top fs ds may m) (may_leave plan top fs ds m) (match_length plan (top ∷ fs) ds m ∙ ap (λ (gs : List Frame). length gs) (sym stack)) row
calls_judged laws plan s top fs ds func args valid stack m (Some (represents r)) is e new row = represents_judged s top r args e new row

-- ---- a return

nothing_judged : (cause : Causing) (s : State) (values : List CoreValue) (R : Type 0) (e : Event) (new : State)
    → ((values ≡ [] → ⊥) → cause trap.CoreShape) → (values ≡ [] → cause trap.CoreShape → ⊥) → (R → (t : Trap) → e ≡ event.Trapped t → ⊥)
    → ((values ≡ [] → ⊥) × Traps s trap.CoreShape e new) ⊎ ((values ≡ []) × R) → Judged (trap.CoreShape ∷ []) [] cause e
nothing_judged cause s values R e new fails holds no_trap row =
    check s [] [] cause e new trap.CoreShape fails holds row (λ is x. passes [] cause e (no_trap x) tt)

-- a call that returns from its body
returning : (plan : Plan) (s : State) (top : Frame) (fs : List Frame) (call : Call) (x : LoweredCall) (values : List CoreValue) → IsValidState plan s → s.stack ≡ top ∷ fs
    → IsCallOf plan top.instance call (length fs) x → Returning s call x values
returning plan s top fs call x values valid stack of = record {
  placed = of.placed ∙ ap (λ (gs : List Frame). length (below_top gs)) (sym stack);
  caller = of.caller;
  apart = λ same. not_itself x.link.instance call.caller (sym same) (valid.linked.core_funcs call.caller call.func (lowered x.link) of.link).earlier;
  result_at = λ spilled. of.result_at ∙ ap (λ (b : Bool). if b then result_place_of x else 0) spilled;
} where
  not_itself : (a b : ℕ) → a ≡ b → a < b → ⊥
  not_itself a b e lt = absurd (omega (arith, e, lt))

body_return_judged : (laws : Laws) (tuple : TupleFirst) (plan : Plan) (s : State) (top : Frame) (fs : List Frame) (call : Call) (x : LoweredCall) (values : List CoreValue) → IsValidState plan s
    → s.stack ≡ top ∷ fs → IsCallOf plan top.instance call (length fs) x → (l : Link) → Reaches plan call.caller call.func l → (e : Event) (new : State) → ReturnsIn phase.Body s l call values e new
    → (i : ℕ) → i ≡ top.instance → (b : BodyReturn) → b ≡ record { callee = i; values = values; state = s }
    → Judged (trap.CoreShape ∷ trap.BorrowsLeft ∷ []) (lift_traps ++ trap.TableFull ∷ []) (BodyCause s x b) e
body_return_judged laws tuple plan s top fs call x values valid stack of l reach e new row i is b same =
    subst (λ (r : BodyReturn). Judged (trap.CoreShape ∷ trap.BorrowsLeft ∷ []) (lift_traps ++ trap.TableFull ∷ []) (BodyCause s x r) e)
    (ap (λ (n : ℕ). record { callee = n; values = values; state = s }) (of.instance ∙ sym is) ∙ sym same)
    (subst (λ (n : ℕ). Judged (trap.CoreShape ∷ trap.BorrowsLeft ∷ []) (lift_traps ++ trap.TableFull ∷ [])
    (BodyCause s (record { caller = x.caller; link = x.link; args = x.args; state = x.state; place = n }) (returned_by s x values)) e)
    (sym (returning plan s top fs call x values valid stack of).placed)
    (body_judged laws tuple s call x values (returning plan s top fs call x values valid stack of) e new
    (subst (λ (k : Link). ReturnsIn phase.Body s k call values e new) (same_link plan call.caller call.func l x.link reach of.link) row)))

in_phase_judged : (laws : Laws) (tuple : TupleFirst) (carried : OneCarried) (plan : Plan) (s : State) (top : Frame) (fs : List Frame) (call : Call) (values : List CoreValue) → IsValidState plan s
    → s.stack ≡ top ∷ fs → (ph : Phase) → (d : Doing) (ds : List Doing) → MatchIn ph plan top.instance call (length fs) d → AreFollowed s (d ∷ ds) → (l : Link) → Reaches plan call.caller call.func l
    → (e : Event) (new : State) → ReturnsIn ph s l call values e new
    → (i : ℕ) → i ≡ actor_in ph top.instance call.caller
    → Judged (return_order (d ∷ ds)) (return_order_behind (d ∷ ds)) (ReturnCause s (d ∷ ds) i values) e
in_phase_judged laws tuple carried plan s top fs call values valid stack phase.Arguments (placing x asked) ds m f l reach e new row i is =
    placing_judged laws carried plan s top fs call x asked values stack m f.0 l reach e new row
in_phase_judged laws tuple carried plan s top fs call values valid stack phase.Body (body x asked) ds m f l reach e new row i is =
    body_return_judged laws tuple plan s top fs call x values valid stack m l reach e new row i is (record { callee = i; values = values; state = s }) refl
in_phase_judged laws tuple carried plan s top fs call values valid stack phase.Results (handing x asked r more) ds m f l reach e new row i is =
    handing_judged laws carried plan s top fs call x r more values stack m f.0.1 l reach e new row
in_phase_judged laws tuple carried plan s top fs call values valid stack (phase.PostReturn v) (tidying x asked r more) ds m f l reach e new row i is =
    nothing_judged (ReturnCause s (tidying x asked r more ∷ ds) i values) s values _ e new (λ g. g) (λ none g. g none) (λ y. resumes_not call.caller (as_values v) e y.0) row
in_phase_judged laws tuple carried plan s top fs call values valid stack ph d ds m f l reach e new row i is = absurd m

purpose_judged : (laws : Laws) (tuple : TupleFirst) (carried : OneCarried) (plan : Plan) (s : State) (top : Frame) (fs : List Frame) (values : List CoreValue) → IsValidState plan s
    → s.stack ≡ top ∷ fs → (pu : Purpose) → (d : Doing) (ds : List Doing) → MatchOne pu plan top.instance (length fs) d → AreFollowed s (d ∷ ds)
    → (e : Event) (new : State) → Returns plan s pu values e new → (i : ℕ) → i ≡ actor_of pu top.instance
    → Judged (return_order (d ∷ ds)) (return_order_behind (d ∷ ds)) (ReturnCause s (d ∷ ds) i values) e
purpose_judged laws tuple carried plan s top fs values valid stack purpose.Root (root j) ds m f e new row i is =
    nothing_judged (ReturnCause s (root j ∷ ds) i values) s values _ e new (λ g. g) (λ none g. g none) (λ y. ended_not e y.0) row
purpose_judged laws tuple carried plan s top fs values valid stack (purpose.Call call) d ds m f e new row i is =
    in_phase_judged laws tuple carried plan s top fs call values valid stack call.phase d ds m f row.0 row.1 e new row.2 i is
purpose_judged laws tuple carried plan s top fs values valid stack (purpose.Destructor dropper) (destroys who j) ds m f e new row i is =
    nothing_judged (ReturnCause s (destroys who j ∷ ds) i values) s values _ e new (λ g. g) (λ none g. g none) (λ y. resumes_not dropper [] e y.0) row
purpose_judged laws tuple carried plan s top fs values valid stack pu d ds m f e new row i is = absurd m

-- ---- any move

move_judged : (laws : Laws) (tuple : TupleFirst) (carried : OneCarried) (plan : Plan) (s : State) (top : Frame) (fs : List Frame) (ds : List Doing) → IsValidState plan s
    → s.stack ≡ top ∷ fs → AllMatch plan (top ∷ fs) ds → AreFollowed s ds → (m : Move) (e : Event) (new : State) → Moves plan s top m e new
    → Judged (order_before plan ds (actor top) m) (order_behind plan ds (actor top) m) (Cause plan s ds (actor top) m) e
move_judged laws tuple carried plan s top fs ds valid stack match follow (move.Write at bytes) e new row = writes_judged s (actor top) at bytes.items e new row
move_judged laws tuple carried plan s top fs ds valid stack match follow (move.Grow pages) e new row = grows_judged s (actor top) pages e new row
move_judged laws tuple carried plan s top fs ds valid stack match follow (move.Call func args) e new row =
    calls_judged laws plan s top fs ds func args.items valid stack match (core_func_at plan (actor top) func) refl e new row
move_judged laws tuple carried plan s top fs [] valid stack match follow (move.Return values) e new row = absurd match
move_judged laws tuple carried plan s top fs (d ∷ ds) valid stack match follow (move.Return values) e new row =
    purpose_judged laws tuple carried plan s top fs values.items valid stack top.purpose d ds match.0 follow e new row (actor top) refl
move_judged laws tuple carried plan s top fs ds valid stack match follow move.Unreachable e new row = stops_judged s e new row

pub step_judged : (laws : Laws) (tuple : TupleFirst) (carried : OneCarried) (plan : Plan) (s : State) (acting : Option ℕ) (ds : List Doing) → IsValidState plan s → AreTold plan s acting ds → AreFollowed s ds
    → (m : Move) (e : Event) (new : State) → Step plan s m e new
    → (i : ℕ) × (acting ≡ Some i) × Judged (order_before plan ds i m) (order_behind plan ds i m) (Cause plan s ds i m) e
step_judged laws tuple carried plan s acting ds valid told follow m e new step = by_stack s.stack refl told.matched told.acts step where
  by_stack : (gs : List Frame) → s.stack ≡ gs → AllMatch plan gs ds → option_map actor (top_of gs) ≡ acting → StepOn plan gs s m e new
      → (i : ℕ) × (acting ≡ Some i) × Judged (order_before plan ds i m) (order_behind plan ds i m) (Cause plan s ds i m) e
  by_stack [] is match acts x = absurd x
  by_stack (top ∷ fs) is match acts x = (actor top, sym acts, move_judged laws tuple carried plan s top fs ds valid is match follow m e new x)
