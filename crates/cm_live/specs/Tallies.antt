-- What a tally of served lines counts (this project's own choice).
use Rattle.std.specs.Prelude.{◌≡◌, ◌+◌, ◌||◌, ◌<◌, ◌≤◌, ℕ, Bool, true, false, List, Option}
use Rattle.cm_match_model.specs.Imports.{LinkSet}
use Rattle.cm_machine.specs.cm_machine_set.Running.{RunningSet}
use Rattle.cm_live.specs.declared.fault.LiveFault.{LiveFault}
use Rattle.cm_live.specs.declared.served.Served.{Served}
use Rattle.cm_live.specs.declared.served.Served.TheVariants as served
use Rattle.cm_live.specs.declared.served.Tally.{Tally}
use Rattle.cm_live.specs.Transcripts.{Reply, unread, refused, done, is_trap, moves_of, LineDoes}
use Rattle.cm_live.specs.Transcripts.{IsAnswerOf, IsNextLine, IsUsedUp, recording_after}
use Rattle.std.specs.Io.KnownBytes.{Appends}

-- a line more, and what became of it
pub record Counts (old : Tally) (r : Reply) (new : Tally) : Type 0 where
  pub moves : new.moves ≡ old.moves + moves_of r
  pub trapped : new.trapped ≡ (old.trapped || is_trap r)

-- how serving ends: with so many moves, or with the input
abbrev pub IsEndOf : Served → Tally → ℕ → Type 0
IsEndOf served.Limit t limit = limit ≤ t.moves
IsEndOf served.Trapped t limit = (t.moves < limit) × (t.trapped ≡ true)
IsEndOf served.Ended t limit = (t.moves < limit) × (t.trapped ≡ false)

-- the reason why a line is refused
abbrev pub IsFaultOf : Reply → LiveFault → Type 0
IsFaultOf (unread f) g = g ≡ f
IsFaultOf (refused s f) g = g ≡ f
IsFaultOf (done s a) g = ⊥

-- A line is refused for this reason: nothing has changed.
abbrev pub IsRefusal : LinkSet → Option Bool → RunningSet → List ℕ → LiveFault → RunningSet
    → Type 0
IsRefusal linked recording old bytes f new =
    (r : Reply) × IsFaultOf r f × LineDoes linked recording old bytes r new

-- the next line was read, or there is none
abbrev pub ReadsNext : Bool → Option (List ℕ) → List ℕ → Option (List ℕ) → Type 0
ReadsNext true old line new = IsNextLine old line new
ReadsNext false old line new = IsUsedUp old new

-- A line was answered, and its statement recorded, where it was done.
pub record Answers (now : RunningSet) (r : Reply) (recording recorded : Option Bool)
    (old new : Option (List ℕ)) : Type 0 where
  pub bytes : List ℕ
  pub answer : IsAnswerOf now r bytes
  pub written : Appends old new bytes
  pub record_is : recorded ≡ recording_after recording r
