-- Which event answers which move (CanonicalABI.md, "canon lift", "canon lower" and the resource
-- built-ins).
use Rattle.std.specs.Prelude.{◌≡◌, ℕ, ◌⊎◌, ⊤, List, [], ◌∷◌, Option, Some, None}
use Rattle.cm_types.specs.declared.core_value.CoreValue.{CoreValue}
use Rattle.cm_types.specs.declared.core_value.CoreValue.TheVariants as core_value
use Rattle.cm_machine_model.specs.declared.event.Event.{Event}
use Rattle.cm_machine_model.specs.declared.event.Event.TheVariants as event
use Rattle.cm_machine_model.specs.declared.event.Trap.{Trap}
use Rattle.cm_machine_model.specs.declared.moves.Move.{Move}
use Rattle.cm_machine_model.specs.declared.moves.Move.TheVariants as move
use Rattle.cm_machine_laws.specs.Acting.{acts}
use Rattle.cm_machine_laws.specs.Doing.{Doing, LoweredCall, body, core_func_by_index, destroys}
use Rattle.cm_machine_laws.specs.Doing.{doing, handing, placing, root, tidying}
use Rattle.cm_machine_model.specs.History.{Occurrence, moves}
use Rattle.cm_machine_model.specs.Plan.{CoreFunc, Plan, drops, guest, lowered, makes, represents}
use Rattle.cm_machine_model.specs.State.{State}

-- The body of this core function begins.
abbrev pub IsEntry : ℕ → ℕ → Event → Type 0
IsEntry i func e = (args : List CoreValue) × (e ≡ event.Enter i func args)

-- An allocator is asked: the core function that this side of the link names.
abbrev pub IsRequest : ℕ → Option ℕ → Event → Type 0
IsRequest i realloc e =
    (func : ℕ) × (realloc ≡ Some func) × (args : List CoreValue) × (e ≡ event.Realloc i func args)

-- The callee tidies up: by the core function that the link names for it.
abbrev pub IsPostReturn : ℕ → Option ℕ → Event → Type 0
IsPostReturn i post_return e = (func : ℕ) × (post_return ≡ Some func)
    × (args : List CoreValue) × (e ≡ event.PostReturn i func args)

-- An instance goes on where it called.
abbrev pub IsResumption : ℕ → Event → Type 0
IsResumption i e = (values : List CoreValue) × (e ≡ event.Resume i values)

-- A call whose result is handed over: the callee tidies up, or has nothing for that, and the caller
-- goes on.
abbrev pub IsEndOf : LoweredCall → Event → Type 0
IsEndOf x e = IsPostReturn x.link.instance x.link.post_return e
    ⊎ ((x.link.post_return ≡ None) × IsResumption x.caller e)

-- the events that answer a call of what a core function stands for
abbrev pub AnswersCall : ℕ → Option CoreFunc → Event → Type 0
AnswersCall i None e = ⊥
AnswersCall i (Some guest) e = ⊥
AnswersCall i (Some (lowered l)) e =
    IsRequest l.instance l.callee.realloc e ⊎ IsEntry l.instance l.func e
AnswersCall i (Some (makes r)) e = (index : ℕ) × (e ≡ event.Resume i (core_value.I32 index ∷ []))
AnswersCall i (Some (drops r d)) e = (e ≡ event.Resume i [])
    ⊎ ((func rep : ℕ) × (d ≡ Some func) × (e ≡ event.Dtor r.component func rep))
AnswersCall i (Some (represents r)) e =
    (rep : ℕ) × (e ≡ event.Resume i (core_value.I32 rep ∷ []))

-- the events that answer a return, by what goes on
abbrev pub AnswersReturn : List Doing → Event → Type 0
AnswersReturn [] e = ⊥
AnswersReturn (root i ∷ ds) e = e ≡ event.Ended
AnswersReturn (placing x asked ∷ ds) e =
    IsRequest x.link.instance x.link.callee.realloc e ⊎ IsEntry x.link.instance x.link.func e
AnswersReturn (body x asked ∷ ds) e = IsRequest x.caller x.link.caller.realloc e ⊎ IsEndOf x e
AnswersReturn (handing x asked back more ∷ ds) e =
    IsRequest x.caller x.link.caller.realloc e ⊎ IsEndOf x e
AnswersReturn (tidying x asked back more ∷ ds) e = IsResumption x.caller e
AnswersReturn (destroys dropper i ∷ ds) e = e ≡ event.Resume dropper []

-- The event is of the kind that answers this move of this instance, where this goes on.
abbrev pub IsAnswerTo : Plan → Option ℕ → List Doing → Move → Event → Type 0
IsAnswerTo plan acting ds (move.Write at bytes) e = e ≡ event.Done
IsAnswerTo plan acting ds (move.Grow pages) e = (before : Option ℕ) × (e ≡ event.Grown before)
IsAnswerTo plan acting ds (move.Call func args) e =
    (i : ℕ) × (acting ≡ Some i) × AnswersCall i (core_func_by_index plan acting func) e
IsAnswerTo plan acting ds (move.Return values) e = AnswersReturn ds e
IsAnswerTo plan acting ds move.Unreachable e = ⊥

-- The move traps.
abbrev pub Traps : Event → Type 0
Traps e = (t : Trap) × (e ≡ event.Trapped t)

-- Each move is answered by its own event, or traps.
abbrev pub EventAnswersItsMove : Plan → List Occurrence → State → Type 0
EventAnswersItsMove plan [] s = ⊤
EventAnswersItsMove plan (x ∷ h) s = (m : Move) → x.action ≡ moves m
    → Traps x.event ⊎ IsAnswerTo plan (acts h) (doing plan h) m x.event
