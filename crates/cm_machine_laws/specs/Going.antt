-- What goes on in a set, and who acts: what holds of each history, told by the events
-- (CanonicalABI.md, "canon lift" and "canon lower"; when a host may begin is this project's own
-- choice).
use Rattle.std.specs.Prelude.{◌≡◌, ◌≢◌, ℕ, ◌*◌, ◌<◌, ◌⊎◌, ◌↔◌, ⊤, Bool, true, false, List, [], ◌∷◌}
use Rattle.std.specs.Prelude.{length, map, Option, Some, None, slice_get, slice_index}
use Rattle.std.specs.List.{AllByRecursion}
use Rattle.std.specs.Option.{option_map}
use Rattle.cm_handles.specs.Handles.{handle_at}
use Rattle.cm_machine_model.specs.declared.event.Event.{Event}
use Rattle.cm_machine_model.specs.declared.event.Event.TheVariants as event
use Rattle.cm_machine_model.specs.declared.event.Misuse.{Misuse}
use Rattle.cm_machine_model.specs.declared.event.Misuse.TheVariants as misuse
use Rattle.cm_machine_model.specs.declared.limits.TheConstants.{MAX_FRAMES, PAGE_SIZE}
use Rattle.cm_machine_model.specs.declared.moves.Move.{Move}
use Rattle.cm_machine_laws.specs.Acting.{acts}
use Rattle.cm_machine_laws.specs.Causes.{MayCall}
use Rattle.cm_machine_laws.specs.Doing.{Doing, doing, instance_of}
use Rattle.cm_machine_model.specs.History.{IsHistoryOf, Occurrence, RunsOn, WritesBytes, begins}
use Rattle.cm_machine_model.specs.Memories.{memory_at}
use Rattle.cm_machine_model.specs.Plan.{Plan}
use Rattle.cm_machine_model.specs.Events.{is_last}
use Rattle.cm_machine_model.specs.Run.{Run, misuse_of_begin}
use Rattle.cm_machine_model.specs.Stack.{actor, top_of}
use Rattle.cm_machine_model.specs.State.{State, fresh_state, table_at}
use Rattle.cm_machine_laws.specs.Answers.{Traps}

-- ---- what goes on

-- The instance that acts, by the frame on top, is the one that the last event named.
abbrev pub ActsAsTold : Plan → List Occurrence → State → Type 0
ActsAsTold plan h s = option_map actor (top_of s.stack) ≡ acts h

-- The instances whose frames stand are those of what goes on by the events, in order.
abbrev pub StandsAsTold : Plan → List Occurrence → State → Type 0
StandsAsTold plan h s = map (λ f. f.instance) s.stack ≡ map instance_of (doing plan h)

-- Where a host begins a root call, nothing goes on, and its instance is there and open and goes on
-- next; nothing else changes.
abbrev pub BeginsWhereNothingGoesOn : Plan → List Occurrence → State → Type 0
BeginsWhereNothingGoesOn plan [] s = ⊤
BeginsWhereNothingGoesOn plan (x ∷ h) s = (i : ℕ) → x.action ≡ begins i
    → (doing plan h ≡ []) × (slice_get x.before.closed i ≡ Some false)
    × (x.event ≡ event.Resume i []) × (record s { stack = x.before.stack } ≡ x.before)

-- Why a host may not begin a root call now: something goes on, else a trap has closed the instance,
-- else there is none; else it may.
pub record IsMisuseOf (ds : List Doing) (flag : Option Bool) (m : Option Misuse) : Type 0 where
  pub busy : ds ≢ [] → m ≡ Some misuse.Busy
  pub closed : ds ≡ [] → flag ≡ Some true → m ≡ Some misuse.Closed
  pub missing : ds ≡ [] → flag ≡ None → m ≡ Some misuse.NoInstance
  pub none : ds ≡ [] → flag ≡ Some false → m ≡ None

-- A begin is refused for its reason, and for none where there is none.
abbrev pub RefusesBegins : Plan → List Occurrence → State → Type 0
RefusesBegins plan h s = (i : ℕ)
    → IsMisuseOf (doing plan h) (slice_get s.closed i) (misuse_of_begin s i)

-- An event is a last one exactly where nothing goes on after it.
abbrev pub EndsWhereNothingGoesOn : Plan → List Occurrence → State → Type 0
EndsWhereNothingGoesOn plan [] s = ⊤
EndsWhereNothingGoesOn plan (x ∷ h) s = (is_last x.event ≡ true) ↔ (doing plan (x ∷ h) ≡ [])

-- ---- closed instances

-- No instance closes but by a trap, and none opens again.
abbrev pub ClosesByTraps : Plan → List Occurrence → State → Type 0
ClosesByTraps plan [] s = ⊤
ClosesByTraps plan (x ∷ h) s = Traps x.event ⊎ (x.after.closed ≡ x.before.closed)

-- The instance that acts is there and open.
abbrev pub NoneClosedActs : Plan → List Occurrence → State → Type 0
NoneClosedActs plan h s = (i : ℕ) → acts h ≡ Some i → slice_get s.closed i ≡ Some false

-- Something more goes on only where the instance that acts may call, in an instance that is there
-- and open, and where there is room for it.
abbrev pub BeginsByCall : Plan → List Occurrence → State → Type 0
BeginsByCall plan [] s = ⊤
BeginsByCall plan (x ∷ h) s = (d : Doing) → doing plan (x ∷ h) ≡ d ∷ doing plan h
    → MayCall (doing plan h) × (slice_get x.before.closed (instance_of d) ≡ Some false)
    × (length (doing plan h) < MAX_FRAMES)

-- ---- what a set starts with

-- This instance has a memory of so many pages of zeros and no handle, and is open.
pub record StartsWith (s : State) (i pages : ℕ) : Type 0 where
  pub size : length (memory_at s.memories i) ≡ pages * PAGE_SIZE
  pub zeros : (a : ℕ) → slice_index (memory_at s.memories i) a ≡ 0
  pub is_open : slice_get s.closed i ≡ Some false
  pub no_handle : (index : ℕ) → handle_at (table_at s.tables i) index ≡ None

-- A set starts with what was asked for, no resource was made, and nothing is lent.
abbrev pub StartsWithWhatWasAskedFor : List ℕ → State → Type 0
StartsWithWhatWasAskedFor pages s =
    ((i count : ℕ) → slice_get pages i ≡ Some count → StartsWith s i count)
    × (s.owners ≡ []) × (s.lends ≡ []) × (s.stack ≡ []) × (s.passage ≡ None)

-- A run extends each history that leads to the state that it starts from, where its moves write
-- bytes.
abbrev pub RunsExtend : Type 0
RunsExtend = (plan : Plan) (pages : List ℕ) (h : List Occurrence) (s : State) (ms : List Move)
    (es : List Event) (new : State) → IsHistoryOf plan pages h s → AllByRecursion WritesBytes ms
    → Run plan s ms es new → RunsOn plan (fresh_state (length plan) pages) h ms es new

-- Each set that can be linked starts so.
abbrev pub StartsAlways : Type 0
StartsAlways = (plan : Plan) (pages : List ℕ) (s : State)
    → IsHistoryOf plan pages [] s → StartsWithWhatWasAskedFor pages s
