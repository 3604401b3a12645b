-- What the calls do to the set that a handle keeps.
use Rattle.std.specs.Prelude.{◌≡◌, ◌<◌, ⊤, ℕ, List, [], Option, Some, None, Result, Ok, Err}
use Rattle.std.specs.Prelude.{length, true}
use Rattle.cm_machine_model.specs.declared.event.Event.{Event}
use Rattle.cm_machine_model.specs.declared.event.Event.TheVariants as event
use Rattle.cm_machine_model.specs.declared.event.Misuse.{Misuse}
use Rattle.cm_machine_model.specs.declared.event.Misuse.TheVariants as misuse
use Rattle.cm_machine_model.specs.declared.moves.Move.{Move}
use Rattle.cm_machine_model.specs.Run.{misuse_of_begin}
use Rattle.cm_live.specs.Kept.{gives_values}
use Rattle.cm_machine_set.specs.Running.{SetSteps}
use Rattle.huxarte_c_calls.specs.Verdicts.{verdict_by}
use Rattle.huxarte_c_calls.specs.declared.verdicts.HuxVerdict.{HuxVerdict}
use Rattle.huxarte_c.specs.Cores.{AreKinds, IsUnknownAt}
use Rattle.huxarte_c.specs.Events.{event_in}
use Rattle.huxarte_c.specs.PlayedSets.{IsWritten, PlayedSet, begun_anew}
use Rattle.huxarte_c.specs.Refused.{of_set}
use Rattle.huxarte_c.specs.declared.cores.HuxCore.{HuxCore}
use Rattle.huxarte_c.specs.declared.event.HuxEvent.{HuxEvent}
use Rattle.huxarte_c.specs.declared.refusal.SetRefusal.{SetRefusal}
use Rattle.huxarte_c.specs.declared.refusal.SetRefusal.TheVariants as refusal

-- ---- root calls

-- the handle keeps a set, on whose empty stack a root call of the instance now stands
abbrev pub KeptBegins : Option PlayedSet → ℕ → Option PlayedSet → Type 0
KeptBegins None instance new = ⊥
KeptBegins (Some s) instance new =
    (misuse_of_begin s.set.state instance ≡ None) × (new ≡ Some (begun_anew s instance))

-- this misuse is why, if there is one
abbrev pub IsMisuse : Option Misuse → SetRefusal → Type 0
IsMisuse why (refusal.Misuse m) = why ≡ Some m
IsMisuse why _ = ⊥

-- why no root call begins
abbrev pub IsNoBegin : Option PlayedSet → ℕ → SetRefusal → Type 0
IsNoBegin None instance r = r ≡ refusal.Empty
IsNoBegin (Some s) instance r = IsMisuse (misuse_of_begin s.set.state instance) r

-- ---- moves

-- the handle keeps a set, of which an instance acts, and which comes by this move to this event;
-- and what adapters wrote before that is kept with it
abbrev pub KeptSteps : Option PlayedSet → Move → Event → Option PlayedSet → Type 0
KeptSteps (Some s) m e (Some n) =
    (s.set.state.stack ≡ [] → ⊥) × SetSteps s.set m e n.set × IsWritten s m e n
KeptSteps (Some s) m e None = ⊥
KeptSteps None m e new = ⊥

-- no instance of a set acts
abbrev pub IsIdle : PlayedSet → SetRefusal → Type 0
IsIdle s (refusal.Misuse m) = (m ≡ misuse.Idle) × (s.set.state.stack ≡ [])
IsIdle s _ = ⊥

-- why no move is made: there is no set, or no instance of it acts
abbrev pub IsNoMove : Option PlayedSet → SetRefusal → Type 0
IsNoMove None r = r ≡ refusal.Empty
IsNoMove (Some s) r = IsIdle s r

-- the same for this move, which may be a return that gives core values: then there may be no memory
-- for what it has told
abbrev pub IsNoMoveBy : Move → Option PlayedSet → SetRefusal → Type 0
IsNoMoveBy m (Some s) refusal.Memory = gives_values m ≡ true
IsNoMoveBy m old r = IsNoMove old r

-- the same for a move that has a list, for which there may be no memory
abbrev pub IsNoListMove : Option PlayedSet → SetRefusal → Type 0
IsNoListMove old refusal.Memory = ⊤
IsNoListMove old r = IsNoMove old r

-- and for one that has core values, each of which is to have a kind: none takes no memory
abbrev pub IsNoCoreMove : List HuxCore → Option PlayedSet → SetRefusal → Type 0
IsNoCoreMove cores old (refusal.NoKind place) = IsUnknownAt cores place
IsNoCoreMove cores old refusal.Memory = 0 < length cores
IsNoCoreMove cores old r = AreKinds cores × IsNoMove old r

-- What a call comes to that makes something of which this holds happen to a set: it has happened,
-- and its event is told; or nothing has changed, for such a reason.
abbrev pub IsDone : (Event → Option PlayedSet → Type 0) → (SetRefusal → Type 0)
    → Option PlayedSet → Option PlayedSet → HuxEvent → HuxEvent
    → Result (Unit {0}) SetRefusal → Type 0
IsDone Happens Why old new before after (Ok _) =
    (e : Event) × Happens e new × (after ≡ event_in e)
IsDone Happens Why old new before after (Err r) = (new ≡ old) × (after ≡ before) × Why r

abbrev pub IsDoneVerdict : (Event → Option PlayedSet → Type 0) → (SetRefusal → Type 0)
    → Option PlayedSet → Option PlayedSet → HuxEvent → HuxEvent → HuxVerdict → Type 0
IsDoneVerdict Happens Why old new before after v = (o : Result (Unit {0}) SetRefusal)
    × IsDone Happens Why old new before after o × (v ≡ verdict_by of_set o)

-- a root call begins
abbrev pub Begins : Option PlayedSet → ℕ → Event → Option PlayedSet → Type 0
Begins old instance e new = (e ≡ event.Resume instance []) × KeptBegins old instance new

-- a move of this form is made
abbrev pub Moves : (Move → Type 0) → Option PlayedSet → Event → Option PlayedSet → Type 0
Moves IsMove old e new = (m : Move) × IsMove m × KeptSteps old m e new
