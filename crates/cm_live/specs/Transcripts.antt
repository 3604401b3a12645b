-- What serving does: the lines that were read, what became of each, and what they do to a set, one
-- after the other (this project's own choice).
use Rattle.std.specs.Prelude.{◌≡◌, ◌⊎◌, ◌+◌, ◌-◌, ◌<◌, ◌≤◌, ◌^◌, ℕ, ⊤, Bool, true, false, List, []}
use Rattle.std.specs.Prelude.{◌∷◌, ◌++◌, length, Option, IfOk, IfSome, Result, Some}
use Rattle.std.specs.Option.{option_map}
use Rattle.std.specs.Str.{IsUtf8}
use Rattle.std.specs.List.{flat_map, list_any}
use Rattle.std.specs.Io.BufRead.{take_through, drop_through, ends_with_byte}
use Rattle.std.specs.Io.KnownBytes.{Appends, Consumes, Keeps}
use Rattle.cm_match_model.specs.Imports.{LinkSet}
use Rattle.cm_machine.specs.cm_machine_model.declared.event.Event.TheVariants as event
use Rattle.cm_machine.specs.cm_machine_set.Running.{RunningSet}
use Rattle.cm_tool_script.specs.declared.statement.Statement.{Statement}
use Rattle.cm_tool_script.specs.declared.statement.Statement.TheVariants as statement
use Rattle.cm_tool_script.specs.declared.statement.LineFault.{LineFault}
use Rattle.cm_tool_script.specs.declared.statement.LineFault.TheVariants as line_fault
use Rattle.cm_tool_script.specs.Statements.{AreRefused, SpellsStatement, words_of}
use Rattle.cm_live.specs.declared.answer.Answer.{Answer}
use Rattle.cm_live.specs.declared.answer.Answer.TheVariants as answer
use Rattle.cm_live.specs.declared.fault.LiveFault.{LiveFault}
use Rattle.cm_live.specs.declared.fault.LiveFault.TheVariants as fault
use Rattle.cm_live.specs.declared.served.Served.{Served}
use Rattle.cm_live.specs.declared.served.Served.TheVariants as served
use Rattle.cm_live.specs.Lines.{IsErrorLine, answer_lines}
use Rattle.cm_live.specs.Mirrors.{KeepsMirrors}
use Rattle.cm_live.specs.Statements.{Does, IsRefusedFor}

-- What became of a line: it is no statement, or its statement is refused, each with the reason; or
-- its statement was done, and answered so.
pub data Reply : Type 0 where
  unread : LiveFault → Reply
  refused : Statement → LiveFault → Reply
  done : Statement → Answer → Reply

-- A line that was read, with its end, what became of it, and the lines that answer it.
pub record ServedLine : Type 0 where
  pub bytes : List ℕ
  pub reply : Reply
  pub answer : List ℕ

-- ---- lines and statements

-- whether a line has its LF; else the input ends within it
abbrev pub is_whole : List ℕ → Bool
is_whole bytes = ends_with_byte 10 bytes

-- A line with its LF spells this statement, as a line of a script does.
abbrev pub IsLineOf : List ℕ → Statement → Type 0
IsLineOf bytes s = (content : List ℕ) × (bytes ≡ content ++ 10 ∷ []) × SpellsStatement content s

-- why a text is no statement: it spells none, or is not UTF-8
abbrev pub IsUnspelled : List ℕ → LineFault → Type 0
IsUnspelled content f = AreRefused (words_of content) f
    ⊎ ((f ≡ line_fault.NotAStatement) × (IsUtf8 content → ⊥))

-- why a line is no statement: the input ends within it, or it spells none
abbrev pub IsOfNoStatement : List ℕ → LiveFault → Type 0
IsOfNoStatement bytes fault.Cut = is_whole bytes ≡ false
IsOfNoStatement bytes (fault.Line f) =
    (content : List ℕ) × (bytes ≡ content ++ 10 ∷ []) × IsUnspelled content f
IsOfNoStatement bytes f = ⊥

-- ---- what lines do to a set

-- A `pages` is not recorded once a root call was: a script has one. Some true: one was; None:
-- nothing is recorded.
abbrev pub Admits : Option Bool → Statement → Type 0
Admits (Some true) (statement.Pages pages) = ⊥
Admits recording s = ⊤

-- why a statement is not recorded
abbrev pub IsOfNoRecord : Option Bool → Statement → LiveFault → Type 0
IsOfNoRecord recording s f = (Admits recording s → ⊥) × (f ≡ fault.Recorded)

-- A line does this to a set of what is linked: what its statement does where that is done, and
-- the answer tells whose memory was written; and nothing where it is refused.
abbrev pub LineDoes : LinkSet → Option Bool → RunningSet → List ℕ → Reply → RunningSet → Type 0
LineDoes linked recording old bytes (unread f) new = IsOfNoStatement bytes f × (new ≡ old)
LineDoes linked recording old bytes (refused s f) new =
    IsLineOf bytes s × (IsRefusedFor old s f ⊎ IsOfNoRecord recording s f) × (new ≡ old)
LineDoes linked recording old bytes (done s a) new =
    IsLineOf bytes s × Admits recording s × Does linked old s a new × KeepsMirrors old s a new

-- whether a root call is recorded, once a statement was
abbrev pub begun_after : Statement → Bool → Bool
begun_after (statement.Pages pages) begun = false
begun_after (statement.Begin root) begun = true
begun_after s begun = begun

-- the same, after a line
abbrev pub recording_after : Option Bool → Reply → Option Bool
recording_after recording (done s a) = option_map (begun_after s) recording
recording_after recording r = recording

-- These lines answer what became of a line, where the set is so now: they tell what was written and
-- the event, or why the line is refused.
abbrev pub IsAnswerOf : RunningSet → Reply → List ℕ → Type 0
IsAnswerOf now (done s a) bytes = bytes ≡ answer_lines now.state a
IsAnswerOf now r bytes = IsErrorLine bytes

-- Lines do this to a set, one after the other, each is answered so, and nothing else is done to it.
abbrev pub LinesDo : LinkSet → Option Bool → RunningSet → List ServedLine → RunningSet → Type 0
LinesDo linked recording old [] new = new ≡ old
LinesDo linked recording old (l ∷ ls) new =
    (mid : RunningSet) × LineDoes linked recording old l.bytes l.reply mid
    × IsAnswerOf mid l.reply l.answer
    × LinesDo linked (recording_after recording l.reply) mid ls new

-- ---- moves and traps

-- how many moves were made
abbrev pub moves_of : Reply → ℕ
moves_of (done (statement.Move m) a) = 1
moves_of r = 0

abbrev pub moves_in : List ServedLine → ℕ
moves_in [] = 0
moves_in (l ∷ ls) = moves_of l.reply + moves_in ls

-- whether a root call trapped
abbrev pub is_trap : Reply → Bool
is_trap (done s (answer.Told written (event.Trapped t))) = true
is_trap r = false

abbrev pub has_trapped : List ServedLine → Bool
has_trapped ls = list_any (λ (l : ServedLine). is_trap l.reply) ls

-- Behind so many moves, and before each line, fewer than the limit were made.
abbrev pub StayBelow : ℕ → ℕ → List ServedLine → Type 0
StayBelow made limit [] = ⊤
StayBelow made limit (l ∷ ls) = (made < limit) × StayBelow (made + moves_of l.reply) limit ls

-- ---- what was read

-- Where the bytes that a reader has are known, this is the next line of them, up to and with its
-- LF, or to their end.
abbrev pub IsNextLine : Option (List ℕ) → List ℕ → Option (List ℕ) → Type 0
IsNextLine old line new = (0 < length line)
    × IfSome old (λ bytes. (line ≡ take_through 10 bytes) × (new ≡ Some (drop_through 10 bytes)))

-- Where the bytes that a reader has are known, there were no more.
abbrev pub IsUsedUp : Option (List ℕ) → Option (List ℕ) → Type 0
IsUsedUp old new = IfSome old (λ bytes. (bytes ≡ []) × (new ≡ Some []))

-- These lines were read, one behind the other, and no other bytes.
abbrev pub AreRead : Option (List ℕ) → List ServedLine → Option (List ℕ) → Type 0
AreRead old [] new = Keeps old new
AreRead old (l ∷ ls) new =
    (mid : Option (List ℕ)) × IsNextLine old l.bytes mid × AreRead mid ls new

-- These lines were read, and behind them maybe a part of one, where reading failed.
pub record AreReadAtLeast (old : Option (List ℕ)) (ls : List ServedLine) (new : Option (List ℕ))
    : Type 0 where
  pub mid : Option (List ℕ)
  pub part : List ℕ
  pub lines : AreRead old ls mid
  pub behind : Consumes mid new part

-- ---- what was written

-- the answers to lines, one behind the other
abbrev pub answers_to : List ServedLine → List ℕ
answers_to ls = flat_map (λ (l : ServedLine). l.answer) ls

-- The bytes that a reader has and those that a writer holds, where they are known.
pub record Streams : Type 0 where
  pub input : Option (List ℕ)
  pub output : Option (List ℕ)

abbrev pub streams : Option (List ℕ) → Option (List ℕ) → Streams
streams input output = record { input = input; output = output }

-- ---- the whole

-- These lines lead from one set to another, and at most so many moves are in them: behind that many
-- no line is read.
pub record Leads (linked : LinkSet) (recording : Option Bool) (old : RunningSet) (limit : ℕ)
    (ls : List ServedLine) (new : RunningSet) : Type 0 where
  pub does : LinesDo linked recording old ls new
  pub few : moves_in ls ≤ limit
  pub below : StayBelow 0 limit ls

-- The input is used up, unless so many lines were read that 64 bits count no more.
abbrev pub IsAtEndOf : Option (List ℕ) → List ServedLine → Option (List ℕ) → Type 0
IsAtEndOf old ls new = length ls < 2 ^ 64 - 1 → IfSome old (λ _. new ≡ Some [])

-- Serving ended so behind these lines: with so many moves; or before that with the input, after a
-- root call that trapped or with none.
abbrev pub Ends : Served → ℕ → Option (List ℕ) → List ServedLine → Option (List ℕ) → Type 0
Ends served.Limit limit old ls new = moves_in ls ≡ limit
Ends served.Trapped limit old ls new =
    (moves_in ls < limit) × (has_trapped ls ≡ true) × IsAtEndOf old ls new
Ends served.Ended limit old ls new =
    (moves_in ls < limit) × (has_trapped ls ≡ false) × IsAtEndOf old ls new

-- Serving does this to a set and to streams: lines lead from the set to the new one, and they are
-- what was read; and where there is no error, serving ended behind them, and what was written is
-- this greeting and the answers to them.
abbrev pub Serves : {E : Type 0} → LinkSet → Option Bool → ℕ → List ℕ → RunningSet → Streams
    → Result Served E → RunningSet → Streams → Type 0
Serves linked recording limit greeting old before r new after = (ls : List ServedLine)
    × Leads linked recording old limit ls new × AreReadAtLeast before.input ls after.input
    × IfOk r (λ s. AreRead before.input ls after.input
    × Ends s limit before.input ls after.input
    × Appends before.output after.output (greeting ++ answers_to ls))
