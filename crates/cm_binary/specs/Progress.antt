-- What was read of a file, and what may stand behind it.
use Rattle.std.specs.Prelude.{◌≡◌, ℕ, ◌+◌, ◌≤◌, ◌<◌, List, [], ◌∷◌, ◌++◌, length, Result, Ok}
use Rattle.cm_binary_grammar.specs.declared.fault.Fault.{Fault}
use Rattle.cm_binary_grammar.specs.declared.fault.End.{End}
use Rattle.cm_binary_grammar.specs.declared.fault.ReadError.{ReadError}
use Rattle.cm_binary_grammar.specs.declared.fault.ReadError.TheVariants as errors
use Rattle.cm_binary_grammar.specs.Faults.{Fails, and_then}
use Rattle.cm_binary_grammar.specs.Grammar.{fixed}
use Rattle.cm_binary_grammar.specs.Whole.{state_after}
use Rattle.cm_binary_model.specs.Trees.{SectionTree}
use Rattle.cm_binary_model.specs.declared.limits.TheConstants.{COMPONENT_PREAMBLE, MAX_TYPES}
use Rattle.cm_binary_forms.specs.declared.fault.DecodeReason.{DecodeReason}
use Rattle.cm_binary_forms.specs.declared.fault.DecodeReason.TheVariants.{BadPreamble}
use Rattle.cm_binary_forms.specs.Texts.{WholeProduction}
use Rattle.cm_binary_forms.specs.Sections.{section, sections, room_after}
use Rattle.cm_binary_forms.specs.File.{component}
use Rattle.cm_binary.specs.Answers.{AreBytes}
use Rattle.cm_binary.specs.declared.front.Next.{Next}
use Rattle.cm_binary.specs.declared.front.Next.TheVariants as nexts

-- What was read of a file: what comes next, the sections, how many bytes they and the preamble
-- took, how many more types may stand in the file.
pub record Progress : Type 0 where
  pub next : Next
  pub sections : List SectionTree
  pub offset : ℕ
  pub room : ℕ

-- Nothing was read.
abbrev pub fresh : Progress
fresh = record { next = nexts.Preamble; sections = []; offset = 0; room = MAX_TYPES }

-- What may stand behind, by what comes next, where so many more types may stand.
abbrev pub from : Next → ℕ → WholeProduction (List SectionTree)
from nexts.Preamble room = component
from nexts.Section room = sections room

-- What may stand behind what was read, were there no limit on bytes.
abbrev pub behind : Progress → WholeProduction (List SectionTree)
behind p = from p.next p.room

-- These bytes are what comes next, and new is old with it.
abbrev pub IsNext : Next → Progress → List ℕ → Progress → Type 0
IsNext nexts.Preamble old taken new = (taken ≡ COMPONENT_PREAMBLE)
    × (new.sections ≡ old.sections) × (new.room ≡ old.room)
IsNext nexts.Section old taken new = (x : SectionTree) × (section old.room).Spells x taken
    × (new.sections ≡ old.sections ++ x ∷ []) × (new.room ≡ room_after old.room x)

-- What comes next was read at the front of these bytes; new is what was read then, and the rest
-- stands behind it.
pub record Takes (old : Progress) (bytes rest : List ℕ) (new : Progress) : Type 0 where
  pub taken : List ℕ
  pub parts : bytes ≡ taken ++ rest
  pub some : 0 < length taken
  pub next : new.next ≡ nexts.Section
  pub is_next : IsNext old.next old taken new
  pub counted : new.offset ≡ old.offset + length taken

-- What comes next is not at the front of these bytes, for this reason.
abbrev pub StopsBy : Next → ℕ → End DecodeReason → List ℕ → ReadError DecodeReason → Type 0
StopsBy nexts.Preamble room e bytes error =
    Fails error ((fixed COMPONENT_PREAMBLE BadPreamble).reads e bytes)
StopsBy nexts.Section room e bytes error = Fails error ((section room).reads e bytes)

abbrev pub Stops : Progress → End DecodeReason → List ℕ → ReadError DecodeReason → Type 0
Stops p e bytes error = StopsBy p.next p.room e bytes error

-- The fault stands in these bytes.
abbrev pub StopsInside : List ℕ → ReadError DecodeReason → Type 0
StopsInside bytes errors.Memory = Unit {0}
StopsInside bytes (errors.Fault f) = f.left ≤ length bytes

-- What is read where so much was read already.
abbrev pub with_sections : List SectionTree → Result (List SectionTree) (Fault DecodeReason)
    → Result (List SectionTree) (Fault DecodeReason)
with_sections read answer = and_then answer (λ more. Ok (read ++ more))

-- How many more types may stand behind these sections.
abbrev pub room_behind : List SectionTree → ℕ
room_behind read = state_after room_after MAX_TYPES read

-- What was read was spelled: it took so many bytes, and left room for so many types.
abbrev pub HasReadBy : Next → Progress → Type 0
HasReadBy nexts.Preamble p = p ≡ fresh
HasReadBy nexts.Section p = (front : List ℕ) × component.Spells p.sections front
    × (p.offset ≡ length front) × (p.room ≡ room_behind p.sections)

abbrev pub HasRead : Progress → Type 0
HasRead p = HasReadBy p.next p

-- new is what was read of a front of these bytes, and the rest stands behind it: whatever follows,
-- reading on from there comes to what reading from the beginning comes to.
pub record Reaches (old : Progress) (bytes rest : List ℕ) (new : Progress) : Type 0 where
  pub taken : List ℕ
  pub parts : bytes ≡ taken ++ rest
  pub counted : new.offset ≡ old.offset + length taken
  pub sound : HasRead old → HasRead new
  pub same : HasRead old → (e : End DecodeReason) (more : List ℕ) → AreBytes (bytes ++ more)
      → with_sections old.sections ((behind old).reads e (bytes ++ more))
      ≡ with_sections new.sections ((behind new).reads e (rest ++ more))
