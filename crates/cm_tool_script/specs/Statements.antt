-- Which line of a script spells which statement (docs/COMMAND.md; this project's own choice).
use Rattle.std.specs.Prelude.{◌≡◌, ℕ, ◌^◌, ◌<◌, ◌==◌, ◌⊎◌, List, [], ◌∷◌, ◌++◌, codes}
use Rattle.std.specs.Prelude.{Result, MatchResult}
use Rattle.std.specs.Fmt.{decimal}
use Rattle.std.specs.List.{AllZip, slice_split}
use Rattle.cm_types.specs.declared.core_value.CoreValue.{CoreValue}
use Rattle.cm_types.specs.declared.core_value.CoreValue.TheVariants.{I32, I64}
use Rattle.cm_machine_model.specs.declared.moves.Move.{Move}
use Rattle.cm_machine_model.specs.declared.moves.Move.TheVariants.{Write, Grow, Call, Return}
use Rattle.cm_machine_model.specs.declared.moves.Move.TheVariants.{Unreachable}
use Rattle.cm_tool_script.specs.declared.statement.Statement.{Statement}
use Rattle.cm_tool_script.specs.declared.statement.Statement.TheVariants as statement
use Rattle.cm_tool_script.specs.declared.statement.LineFault.{LineFault}
use Rattle.cm_tool_script.specs.declared.statement.LineFault.TheVariants as fault
use Rattle.cm_tool_script.specs.HexBytes.{Spells}

-- The words of a line: it is cut at each space, code 32.
abbrev pub words_of : List ℕ → List (List ℕ)
words_of line = slice_split (λ b. b == 32) line

-- A word is a number of 32 bits, in decimal.
abbrev pub IsNumber : List ℕ → ℕ → Type 0
IsNumber word n = (word ≡ decimal n) × (n < 2 ^ 32)

-- A word is a core value: its type, and then its number in decimal.
abbrev pub IsValue : List ℕ → CoreValue → Type 0
IsValue word (I32 n) = (word ≡ codes "i32:" ++ decimal n) × (n < 2 ^ 32)
IsValue word (I64 n) = (word ≡ codes "i64:" ++ decimal n) × (n < 2 ^ 64)

-- These words are the one number `n`.
abbrev pub AreOne : List (List ℕ) → ℕ → Type 0
AreOne words n = (words ≡ decimal n ∷ []) × (n < 2 ^ 32)

-- These words are `write AT HEX`, whatever `HEX` spells.
abbrev pub AreWrite : List (List ℕ) → ℕ → List ℕ → Type 0
AreWrite words at hex = (words ≡ codes "write" ∷ decimal at ∷ hex ∷ []) × (at < 2 ^ 32)

-- These words make this move: `write AT HEX`, `grow N`, `call F V ..`, `return V ..` or
-- `unreachable`.
abbrev pub AreMove : List (List ℕ) → Move → Type 0
AreMove words (Write at bytes) = (hex : List ℕ) × AreWrite words at hex × Spells hex bytes.items
AreMove words (Grow pages) = (words ≡ codes "grow" ∷ decimal pages ∷ []) × (pages < 2 ^ 32)
AreMove words (Call func args) =
    (rest : List (List ℕ))
    × (words ≡ codes "call" ∷ decimal func ∷ rest)
    × (func < 2 ^ 32)
    × AllZip IsValue rest args.items
AreMove words (Return values) =
    (rest : List (List ℕ)) × (words ≡ codes "return" ∷ rest) × AllZip IsValue rest values.items
AreMove words Unreachable = words ≡ codes "unreachable" ∷ []

-- These words are this statement: `pages N ..`, `guest I`, `begin I` or a move.
abbrev pub AreStatement : List (List ℕ) → Statement → Type 0
AreStatement words (statement.Pages counts) =
    (rest : List (List ℕ)) × (words ≡ codes "pages" ∷ rest) × AllZip IsNumber rest counts.items
AreStatement words (statement.Guest index) =
    (words ≡ codes "guest" ∷ decimal index ∷ []) × (index < 2 ^ 32)
AreStatement words (statement.Begin index) =
    (words ≡ codes "begin" ∷ decimal index ∷ []) × (index < 2 ^ 32)
AreStatement words (statement.Move made) = AreMove words made

-- A line spells a statement.
abbrev pub SpellsStatement : List ℕ → Statement → Type 0
SpellsStatement line s = AreStatement (words_of line) s

-- These words are no statement, nor a `write` of a word that may spell no bytes.
abbrev pub AreNoStatement : List (List ℕ) → Type 0
AreNoStatement words =
    ((s : Statement) → AreStatement words s → ⊥)
    × ((at : ℕ) (hex : List ℕ) → AreWrite words at hex → ⊥)

-- These words are a `write`, of a word that spells no bytes.
abbrev pub AreWriteOfNoBytes : List (List ℕ) → Type 0
AreWriteOfNoBytes words =
    (at : ℕ) × (hex : List ℕ) × AreWrite words at hex × ((bytes : List ℕ) → Spells hex bytes → ⊥)

-- Why words are refused; there may be no memory for any.
abbrev pub AreRefused : List (List ℕ) → LineFault → Type 0
AreRefused words fault.NotAStatement = AreNoStatement words
AreRefused words fault.BadHex = AreWriteOfNoBytes words
AreRefused words fault.Memory = Unit {0}
AreRefused words fault.PagesFirst = ⊥
AreRefused words fault.PagesTwice = ⊥
AreRefused words fault.NoGuest = ⊥
AreRefused words fault.NoSuchComponent = ⊥

-- What words are read as: a statement that they are, or why they are refused.
abbrev pub AreReadAs : List (List ℕ) → Result Statement LineFault → Type 0
AreReadAs words r = MatchResult r (AreStatement words) (AreRefused words)

-- A part of a statement is read: without a fault it is as said, and it is refused only where it
-- cannot be as said, or where there is no memory.
abbrev pub IsRead : {A : Type 0} → (A → Type 0) → Result A LineFault → Type 0
IsRead {A} IsSaid r =
    MatchResult r IsSaid
    (λ e. (e ≡ fault.Memory) ⊎ ((e ≡ fault.NotAStatement) × ((a : A) → IsSaid a → ⊥)))
