-- What a statement does to a set that is played, and why it is refused (this project's own choice).
use Rattle.std.specs.Prelude.{◌≡◌, ◌⊎◌, ℕ, [], Some, true}
use Rattle.cm_match_model.specs.Imports.{LinkSet}
use Rattle.cm_machine.specs.cm_machine_model.declared.event.Event.{Event}
use Rattle.cm_machine.specs.cm_machine_model.declared.event.Event.TheVariants as event
use Rattle.cm_machine.specs.cm_machine_model.declared.event.Misuse.{Misuse}
use Rattle.cm_machine.specs.cm_machine_model.declared.event.Misuse.TheVariants as misuse
use Rattle.cm_machine.specs.cm_machine_model.declared.moves.Move.{Move}
use Rattle.cm_machine.specs.cm_machine_model.History.{begins, moves}
use Rattle.cm_machine.specs.cm_machine_model.Run.{misuse_of_begin}
use Rattle.cm_machine.specs.cm_machine_set.Running.{GoesOnFrom, IsNew, RunningSet}
use Rattle.cm_tool_script.specs.declared.statement.Statement.{Statement}
use Rattle.cm_tool_script.specs.declared.statement.Statement.TheVariants as statement
use Rattle.cm_live.specs.Kept.{gives_values}
use Rattle.cm_live.specs.declared.answer.Answer.{Answer}
use Rattle.cm_live.specs.declared.answer.Answer.TheVariants as answer
use Rattle.cm_live.specs.declared.fault.LiveFault.{LiveFault}
use Rattle.cm_live.specs.declared.fault.LiveFault.TheVariants as fault

-- The answer tells an event, of which this holds.
abbrev pub TellsOf : Answer → (Event → Type 0) → Type 0
TellsOf answer.Ready P = ⊥
TellsOf (answer.Told written e) P = P e

-- A statement does this to a set of what is linked: `pages` makes a new one, `begin` begins a root
-- call, and a move is one of the instance that acts; each event is told.
abbrev pub Does : LinkSet → RunningSet → Statement → Answer → RunningSet → Type 0
Does linked old (statement.Pages pages) a new =
    (a ≡ answer.Ready) × IsNew linked pages.items new
Does linked old (statement.Guest i) a new = ⊥
Does linked old (statement.Begin root) a new =
    TellsOf a (λ e. (e ≡ event.Resume root []) × GoesOnFrom old (begins root) e new)
Does linked old (statement.Move m) a new = TellsOf a (λ e. GoesOnFrom old (moves m) e new)

-- why no set is made
abbrev pub IsOfNoSet : LiveFault → Type 0
IsOfNoSet f = (f ≡ fault.Misuse misuse.BadPages) ⊎ (f ≡ fault.Misuse misuse.Memory)

-- why no root call begins
abbrev pub IsOfNoRoot : RunningSet → ℕ → LiveFault → Type 0
IsOfNoRoot old root f =
    (m : Misuse) × (misuse_of_begin old.state root ≡ Some m) × (f ≡ fault.Misuse m)

-- why a move is not made: nobody acts; or it gives core values, and there is no memory
abbrev pub IsNoStep : RunningSet → Move → Misuse → Type 0
IsNoStep old m misuse.Idle = old.state.stack ≡ []
IsNoStep old m misuse.Memory = gives_values m ≡ true
IsNoStep old m _ = ⊥

-- why no move is made: nobody acts, or there is no memory
abbrev pub IsOfNoMove : RunningSet → LiveFault → Type 0
IsOfNoMove old f =
    ((f ≡ fault.Misuse misuse.Idle) × (old.state.stack ≡ [])) ⊎ (f ≡ fault.Memory)

-- A statement is refused for this reason.
abbrev pub IsRefusedFor : RunningSet → Statement → LiveFault → Type 0
IsRefusedFor old (statement.Pages pages) f = IsOfNoSet f
IsRefusedFor old (statement.Guest i) f = f ≡ fault.Guest
IsRefusedFor old (statement.Begin root) f = IsOfNoRoot old root f
IsRefusedFor old (statement.Move m) f = IsOfNoMove old f
