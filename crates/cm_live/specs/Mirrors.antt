-- What becomes of the memories of a set by a move, for a client that mirrors them (CanonicalABI.md,
-- "Storing"; what a client is told is this project's own choice).
use Rattle.std.specs.Prelude.{◌≡◌, ℕ, ⊤, [], Some, length, slice_index}
use Rattle.std.specs.Option.{option_map}
use Rattle.cm_abi_model.specs.Overlap.{IsInOne}
use Rattle.cm_machine.specs.cm_machine_model.declared.event.Event.{Event}
use Rattle.cm_machine.specs.cm_machine_model.declared.event.Event.TheVariants as event
use Rattle.cm_machine.specs.cm_machine_model.declared.moves.Move.{Move}
use Rattle.cm_machine.specs.cm_machine_model.declared.moves.Move.TheVariants as move
use Rattle.cm_machine.specs.cm_machine_model.Memories.{memory_at}
use Rattle.cm_machine.specs.cm_machine_model.Stack.{actor, top_of}
use Rattle.cm_machine.specs.cm_machine_model.State.{State}
use Rattle.cm_machine.specs.cm_machine_set.Running.{RunningSet}
use Rattle.cm_machine.specs.cm_machine_laws.MemoryChanges.{GrowsExactly, OthersStay, SameMemories}
use Rattle.cm_machine.specs.cm_machine_laws.MemoryChanges.{WritesExactly}
use Rattle.cm_tool_script.specs.declared.statement.Statement.{Statement}
use Rattle.cm_tool_script.specs.declared.statement.Statement.TheVariants as statement
use Rattle.cm_live.specs.declared.answer.Answer.{Answer}
use Rattle.cm_live.specs.declared.answer.Answer.TheVariants as answer
use Rattle.cm_live.specs.declared.answer.Written.{Written}
use Rattle.cm_live.specs.Told.{TellsExactly}

-- Of this instance's memory bytes may change, and nothing else of any memory: none grows.
pub record OnlyBytesChange (old : State) (i : ℕ) (new : State) : Type 0 where
  pub others : OthersStay old i new
  pub same_length : length (memory_at new.memories i) ≡ length (memory_at old.memories i)

-- Of an instance's memory bytes may change inside these regions, and nothing else of any memory.
pub record OnlyRegionsChange (old : State) (w : Written) (new : State) : Type 0 where
  pub only : OnlyBytesChange old w.instance new
  pub outside : (a : ℕ) → (IsInOne w.regions.items a → ⊥)
      → slice_index (memory_at new.memories w.instance) a
      ≡ slice_index (memory_at old.memories w.instance) a

-- What becomes of memories by a move of this instance with this event, where what was written is
-- told so: its own write or growth changes the memory of the instance that moves, and of no other;
-- where a body begins, or a result is handed over, bytes change inside the regions that are told
-- alone; else none changes.
abbrev pub ChangesAreTold : State → ℕ → Move → Event → Written → State → Type 0
ChangesAreTold old i (move.Write at bytes) event.Done told new =
    WritesExactly (memory_at old.memories i) at bytes.items (memory_at new.memories i)
    × OthersStay old i new
ChangesAreTold old i (move.Grow pages) (event.Grown (Some before)) told new =
    GrowsExactly (memory_at old.memories i) pages (memory_at new.memories i)
    × OthersStay old i new
ChangesAreTold old i (move.Call func args) (event.Enter j body values) told new =
    OnlyRegionsChange old told new
ChangesAreTold old i (move.Return values) (event.Enter j body args) told new =
    OnlyRegionsChange old told new
ChangesAreTold old i (move.Return values) (event.PostReturn j func args) told new =
    OnlyRegionsChange old told new
ChangesAreTold old i (move.Return values) (event.Resume j back) told new =
    OnlyRegionsChange old told new
ChangesAreTold old i m e told new = SameMemories old new

-- What is told of a move with this event is what was written, beside the memory of the instance
-- that moved, and no more than that.
abbrev pub Tells : RunningSet → Move → Written → Event → RunningSet → Type 0
Tells old m written e new =
    ∥ ((i : ℕ) × (option_map actor (top_of old.state.stack) ≡ Some i)
    × ChangesAreTold old.state i m e written new.state
    × TellsExactly old m e written new.state) ∥₁

-- The answer to a move tells that.
abbrev pub TellsWhose : RunningSet → Move → Answer → RunningSet → Type 0
TellsWhose old m answer.Ready new = ⊤
TellsWhose old m (answer.Told written e) new = Tells old m written e new

-- The answer to the beginning of a root call tells nothing.
abbrev pub TellsNothing : Answer → Type 0
TellsNothing answer.Ready = ⊤
TellsNothing (answer.Told written e) = written.regions.items ≡ []

-- The answer to a statement does: a root call begins with the memories as they were.
abbrev pub KeepsMirrors : RunningSet → Statement → Answer → RunningSet → Type 0
KeepsMirrors old (statement.Pages pages) a new = ⊤
KeepsMirrors old (statement.Guest i) a new = ⊤
KeepsMirrors old (statement.Begin root) a new =
    SameMemories old.state new.state × TellsNothing a
KeepsMirrors old (statement.Move m) a new = TellsWhose old m a new
