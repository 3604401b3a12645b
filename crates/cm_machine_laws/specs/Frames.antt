-- Lemmas: what the frames say where they are what goes on.
use Rattle.std.proofs.Common.{◌≡◌, ◌≢◌, ℕ, zero, suc, ◌<◌, Bool, true, false, List, [], ◌∷◌, length}
use Rattle.std.proofs.Common.{Some, refl, sym, ap, subst, ◌∙◌, arith}
use Rattle.std.specs.Prelude.{Contains, map, slice_get, unwrap_or}
use Rattle.std.proofs.lemmas.Option.{none-some, same_Some}
use Rattle.cm_machine_model.specs.declared.frame.Call.{Call}
use Rattle.cm_machine_model.specs.declared.frame.Frame.{Frame}
use Rattle.cm_machine_model.specs.declared.frame.Phase.{Phase}
use Rattle.cm_machine_model.specs.declared.frame.Phase.TheVariants as phase
use Rattle.cm_machine_model.specs.declared.frame.Purpose.{Purpose}
use Rattle.cm_machine_model.specs.declared.frame.Purpose.TheVariants as purpose
use Rattle.cm_machine_model.specs.Plan.{Plan}
use Rattle.cm_machine_model.specs.Stack.{actor, actor_in, actor_of}
use Rattle.cm_machine_model.specs.Step.{MayLeave, MayLeaveIn}
use Rattle.cm_machine_model.specs.Valid.{IsStack, StandsOn}
use Rattle.cm_machine_laws.specs.Causes.{MayCall}
use Rattle.cm_machine_laws.specs.Doing.{Doing, body, destroys, handing, instance_of, placing, root}
use Rattle.cm_machine_laws.specs.Doing.{tidying}
use Rattle.cm_machine_laws.specs.Matching.{AllMatch, MatchIn, MatchOne}

pub none_match : (plan : Plan) (ds : List Doing) → AllMatch plan [] ds → ds ≡ []
none_match plan [] m = refl
none_match plan (d ∷ ds) m = absurd m

pub none_stand : (plan : Plan) (fs : List Frame) → AllMatch plan fs [] → fs ≡ []
none_stand plan [] m = refl
none_stand plan (f ∷ fs) m = absurd m

pub match_length : (plan : Plan) (fs : List Frame) (ds : List Doing) → AllMatch plan fs ds
    → length ds ≡ length fs
match_length plan [] [] m = refl
match_length plan [] (d ∷ ds) m = absurd m
match_length plan (f ∷ fs) [] m = absurd m
match_length plan (f ∷ fs) (d ∷ ds) m = ap suc (match_length plan fs ds m.1)

phase_instance : (ph : Phase) (plan : Plan) (i : ℕ) (call : Call) (n : ℕ) (d : Doing)
    → MatchIn ph plan i call n d → i ≡ instance_of d
phase_instance phase.Arguments plan i call n (placing x asked) m = sym m.instance
phase_instance phase.Body plan i call n (body x asked) m = sym m.instance
phase_instance phase.Results plan i call n (handing x asked r more) m = sym m.instance
phase_instance (phase.PostReturn v) plan i call n (tidying x asked r more) m = sym m.instance
phase_instance ph plan i call n d m = absurd m

pub one_instance : (pu : Purpose) (plan : Plan) (i n : ℕ) (d : Doing) → MatchOne pu plan i n d
    → i ≡ instance_of d
one_instance purpose.Root plan i n (root j) m = sym m
one_instance (purpose.Call call) plan i n d m = phase_instance call.phase plan i call n d m
one_instance (purpose.Destructor dropper) plan i n (destroys who j) m = sym m.1
one_instance pu plan i n d m = absurd m

pub instances : (plan : Plan) (fs : List Frame) (ds : List Doing) → AllMatch plan fs ds
    → map (λ f. f.instance) fs ≡ map instance_of ds
instances plan [] [] m = refl
instances plan [] (d ∷ ds) m = absurd m
instances plan (f ∷ fs) [] m = absurd m
instances plan (f ∷ fs) (d ∷ ds) m =
    ap (λ (i : ℕ). i ∷ map (λ f. f.instance) fs) (one_instance f.purpose plan f.instance (length
    fs) d m.0)
    ∙ ap (λ (is : List ℕ). instance_of d ∷ is) (instances plan fs ds m.1)

-- ---- who may call

phase_calls : (ph : Phase) (plan : Plan) (i : ℕ) (call : Call) (n : ℕ) (d : Doing) (ds : List
    Doing) → MayLeaveIn ph → MatchIn ph plan i call n d → MayCall (d ∷ ds)
phase_calls phase.Arguments plan i call n d ds may m = absurd may
phase_calls phase.Body plan i call n (body x asked) ds may m = tt
phase_calls phase.Results plan i call n d ds may m = absurd may
phase_calls (phase.PostReturn v) plan i call n d ds may m = absurd may
phase_calls ph plan i call n d ds may m = absurd m

one_calls : (pu : Purpose) (plan : Plan) (i n : ℕ) (d : Doing) (ds : List Doing) → MayLeave pu
    → MatchOne pu plan i n d → MayCall (d ∷ ds)
one_calls purpose.Root plan i n (root j) ds may m = tt
one_calls (purpose.Call call) plan i n d ds may m = phase_calls call.phase plan i call n d ds may m
one_calls (purpose.Destructor dropper) plan i n (destroys who j) ds may m = tt
one_calls pu plan i n d ds may m = absurd m

pub may_call : (plan : Plan) (f : Frame) (fs : List Frame) (ds : List Doing)
    → MayLeave f.purpose → AllMatch plan (f ∷ fs) ds → MayCall ds
may_call plan f fs [] may m = absurd m
may_call plan f fs (d ∷ ds) may m = one_calls f.purpose plan f.instance (length fs) d ds may m.0

-- ---- open instances

pub open_at : (cs : List Bool) (i : ℕ) → i < length cs → slice_get cs i ≢ Some true
    → slice_get cs i ≡ Some false
open_at [] i lt apart = absurd (omega (arith, lt))
open_at (true ∷ cs) zero lt apart = absurd (apart refl)
open_at (false ∷ cs) zero lt apart = refl
open_at (c ∷ cs) (suc i) lt apart = open_at cs i (omega (arith, lt)) apart

pub told_open : (cs : List Bool) (i : ℕ) → i < length cs
    → unwrap_or (slice_get cs i) false ≡ false → slice_get cs i ≡ Some false
told_open [] i lt e = absurd (omega (arith, lt))
told_open (true ∷ cs) zero lt e = absurd (differ e) where
  differ : true ≡ false → ⊥
  differ x = cc (x)
told_open (false ∷ cs) zero lt e = refl
told_open (c ∷ cs) (suc i) lt e = told_open cs i (omega (arith, lt)) e

-- a frame of the stack is of an instance that is there
pub frame_there : (plan : Plan) (fs : List Frame) (f : Frame) → IsStack plan fs → Contains fs f
    → f.instance < length plan
frame_there plan [] f st c = absurd (omega (arith, c.1))
frame_there plan (g ∷ gs) f st (zero, lt, is) = subst (λ (x : Frame). x.instance < length plan) is
    st.0
frame_there plan (g ∷ gs) f st (suc k, lt, is) = frame_there plan gs f st.2 (
  k,
  omega (arith, lt),
  is,
)

-- a frame whose instance acts
pub record IsOfActor (fs : List Frame) (i : ℕ) : Type 0 where
  pub frame : Frame
  pub among : Contains fs frame
  pub instance_is : frame.instance ≡ i

phase_actor : (ph : Phase) (i caller : ℕ) → MayLeaveIn ph → actor_in ph i caller ≡ i
phase_actor phase.Arguments i caller may = absurd may
phase_actor phase.Body i caller may = refl
phase_actor phase.Results i caller may = absurd may
phase_actor (phase.PostReturn v) i caller may = absurd may

pub leaver_acts : (pu : Purpose) (i : ℕ) → MayLeave pu → actor_of pu i ≡ i
leaver_acts purpose.Root i may = refl
leaver_acts (purpose.Call call) i may = phase_actor call.phase i call.caller may
leaver_acts (purpose.Destructor dropper) i may = refl

first_among : (f : Frame) (fs : List Frame) → Contains (f ∷ fs) f
first_among f fs = (0, omega arith, refl)

-- the frame below, whose instance called
caller_below : (plan : Plan) (f : Frame) (fs : List Frame) (call : Call) (i : ℕ)
    → StandsOn plan (purpose.Call call) i fs → IsOfActor (f ∷ fs) call.caller
caller_below plan f [] call i on = absurd (none-some on.1.0 on.1.1)
caller_below plan f (g ∷ gs) call i on =
    let same : g ≡ on.1.0 = same_Some g on.1.0 on.1.1 in
    record {
      frame = g;
      among = (1, omega arith, refl);
      instance_is = sym (leaver_acts g.purpose g.instance (subst (λ (x : Frame). MayLeave
          x.purpose) (sym same) on.1.3)) ∙ (ap actor same ∙ on.1.2);
    }

actor_in_phase : (ph : Phase) (plan : Plan) (f : Frame) (fs : List Frame) (call : Call)
    → StandsOn plan (purpose.Call call) f.instance fs
    → IsOfActor (f ∷ fs) (actor_in ph f.instance call.caller)
actor_in_phase phase.Arguments plan f fs call on = record {
  frame = f;
  among = first_among f fs;
  instance_is = refl;
}
actor_in_phase phase.Body plan f fs call on = record {
  frame = f;
  among = first_among f fs;
  instance_is = refl;
}
actor_in_phase phase.Results plan f fs call on = caller_below plan f fs call f.instance on
actor_in_phase (phase.PostReturn v) plan f fs call on = record {
  frame = f;
  among = first_among f
      fs;
  instance_is = refl;
}

actor_by : (pu : Purpose) (plan : Plan) (f : Frame) (fs : List Frame)
    → StandsOn plan pu f.instance fs → IsOfActor (f ∷ fs) (actor_of pu f.instance)
actor_by purpose.Root plan f fs on = record {
  frame = f;
  among = first_among f fs;
  instance_is =
      refl;
}
actor_by (purpose.Call call) plan f fs on = actor_in_phase call.phase plan f fs call on
actor_by (purpose.Destructor dropper) plan f fs on = record {
  frame = f;
  among = first_among f fs;
  instance_is = refl;
}

pub actor_stands : (plan : Plan) (f : Frame) (fs : List Frame) → IsStack plan (f ∷ fs)
    → IsOfActor (f ∷ fs) (actor f)
actor_stands plan f fs st = actor_by f.purpose plan f fs st.1
