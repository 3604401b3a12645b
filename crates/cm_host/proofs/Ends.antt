-- How a drive of a host's call ended.
use Rattle.std.proofs.Common.{◌≡◌, ◌≢◌, ◌<◌, inl, inr, ℕ, ◌==◌, Bool, true, false, if◌then◌else◌, List, [], ◌∷◌, Option, Some, None, slice_get, length, ◌-◌, arith, Result, Ok, Err, IfOk, IfErr, refl, ap, sym, subst, ◌∙◌}
use Rattle.std.proofs.lemmas.Option.{slice_get_cases}
use Rattle.std.specs.Borrow.{Bor}
use Rattle.std.specs.Prelude.{option_copied}
use Rattle.cm_types.specs.Types.{FuncTy}
use Rattle.cm_types.specs.Values.{Val}
use Rattle.cm_host_values.specs.HostTypes.{types_in, way_in}
use Rattle.cm_host_values.specs.Lowering.{DenoteThere}
use Rattle.cm_host_values.specs.declared.lowering.Lowered.{Lowered}
use Rattle.cm_machine.specs.cm_machine_model.declared.moves.Move.{Move}
use Rattle.cm_types.specs.declared.core_value.CoreValue.{CoreValue}
use Rattle.cm_machine.specs.cm_machine_guests.Sights.{Sight}
use Rattle.cm_machine.specs.cm_machine_model.declared.event.Event.{Event}
use Rattle.cm_machine.specs.cm_machine_model.declared.event.Event.TheVariants as event
use Rattle.cm_machine.specs.cm_machine_set.Running.{RunningSet, begun}
use Rattle.cm_machine.specs.Player.{last_of}
use Rattle.cm_machine.specs.Seeing.{IsSeeingDrive}
use Rattle.cm_host.specs.Calls.{EndsWith, HasEnded, WasCalled, is_now, moves_of, resumed_last}
use Rattle.cm_host.specs.Passing.{IsCallOf}
use Rattle.cm_host.specs.Seats.{ArePassedBy, Imports, instance_of}
use Rattle.cm_host.specs.declared.caller.Caller.{Caller}
use Rattle.cm_host.specs.declared.played.Played.{Played}
use Rattle.cm_host.specs.declared.played.Played.TheVariants as played
use Rattle.cm_host.specs.declared.seat.HostFunc.{HostFunc}
use Rattle.cm_host.specs.declared.seat.Seat.{Seat}
use Rattle.cm_machine.proofs.Drives.{last_at}

-- the last of a list of events, as the code finds it
pub ends_with : (events : List Event) (o : Option (Bor Event)) (e : Event) → option_copied o ≡ slice_get events (length events - 1) → is_now o e → EndsWith events e
ends_with events None e h n = absurd n
ends_with events (Some b) e h n = λ first told is. let here = last_at events first told is in cc

pub map_ok : {A E : Type 0} (r : Result A E) (P Q : A → Type 0) → ((a : A) → P a → Q a) → IfOk r P → IfOk r Q
map_ok (Ok a) P Q f h = f a h
map_ok (Err e) P Q f h = tt

pub map_err : {A E : Type 0} (r : Result A E) (P Q : E → Type 0) → ((e : E) → P e → Q e) → IfErr r P → IfErr r Q
map_err (Ok a) P Q f h = tt
map_err (Err e) P Q f h = f e h

abbrev nothing : List CoreValue
nothing = []

same_if : (b : Bool) → (if b then nothing else nothing) ≡ nothing
same_if true = refl
same_if false = refl

pub has_ended : {S G : Type 0} (plays : Played S G → List Sight → Type 0) (root limit : ℕ) (caller : Caller) (old : RunningSet) (old_seats seated : List (Option (Played S G))) (events : List Event) (new : RunningSet)
    (seats : List (Option (Played S G))) (last : Event) (f : List CoreValue)
    → slice_get seated root ≡ Some (Some (played.Caller caller)) → ((i : ℕ) → i ≢ root → slice_get seated i ≡ slice_get old_seats i)
    → IsSeeingDrive plays root limit (begun old root) seated events new seats → EndsWith events last → f ≡ resumed_last root [] events
    → HasEnded plays root limit (moves_of caller) old old_seats last new seats f
has_ended plays root limit caller old old_seats seated events new seats last f sits others d e r =
    record {
      told = d.told;
      went = record {
        caller = caller;
        moves_are = refl;
        seated = seated;
        sits = sits;
        others = others;
        drive = subst (λ es. IsSeeingDrive plays root limit (begun old root) seated es new seats) d.events_are d;
      };
      ends = e (event.Resume root []) d.told d.events_are;
      goes_on = r ∙ ap (resumed_last root []) d.events_are ∙ ap (λ k. resumed_last root k d.told) (same_if (root == root));
    }

abbrev pub was_called : {S G : Type 0} (plays : Played S G → List Sight → Type 0) (s : Seat) (name : List ℕ) (args : Val) (limit : ℕ) (old : RunningSet) (old_seats : List (Option (Played S G))) (last : Event) (new : RunningSet)
    (seats : List (Option (Played S G))) (func : HostFunc) (lowered : Lowered) (place : List CoreValue) (caller : Caller) (queue : List Move) (resumed : List CoreValue)
    → ((ty : FuncTy) × Imports s name func.core_func ty × ArePassedBy ty func.params func.results)
    → DenoteThere (way_in func.params) (types_in func.params) args lowered → IsCallOf func.core_func lowered place queue → moves_of caller ≡ queue
    → HasEnded plays (instance_of s) limit (moves_of caller) old old_seats last new seats resumed
    → WasCalled plays s name args limit old old_seats last new seats
was_called plays s name args limit old old_seats last new seats func lowered place caller queue resumed f d i m h =
    record {
      core_func = func.core_func;
      ty = f.0;
      imports = f.1;
      params = func.params;
      results = func.results;
      passed = f.2;
      place = place;
      moves = moves_of caller;
      calls = record { lowered = lowered; denote = d; is_call = subst (λ ms. IsCallOf func.core_func lowered place ms) (sym m) i };
      resumed = resumed;
      ended = h;
    }

some_none : {A : Type 0} (a : A) (o : Option A) → o ≡ Some a → o ≡ None → ⊥
some_none a o p q = cc

some_same : {A : Type 0} (o : Option A) (a b : A) → Some a ≡ o → o ≡ Some b → a ≡ b
some_same o a b p q = cc

pub same_found : {A : Type 0} (o : Option A) (a b : A) → Some a ≡ o → o ≡ Some b → a ≡ b
same_found o a b p q = some_same o a b p q

-- what is found stands inside the list
pub found_there : {A : Type 0} (xs : List A) (i : ℕ) (a : A) → slice_get xs i ≡ Some a → i < length xs
found_there xs i a is = elim (slice_get_cases xs i).1 as (λ x. i < length xs) [ inl h ↦ h.1 | inr h ↦ absurd (some_none a (slice_get xs i) is h.1) ]
