-- What a decoder holds, and what it answers.
use Rattle.std.specs.Prelude.{◌≡◌, ◌≢◌, ℕ, ◌+◌, ◌-◌, ◌≤◌, ◌↔◌, List, [], ◌∷◌, ◌++◌, length, Option}
use Rattle.std.specs.Prelude.{Some, None, Result, Ok, Err}
use Rattle.cm_leb.specs.Numbers.{SpellsUnsigned}
use Rattle.cm_binary_grammar.specs.declared.fault.End.{End}
use Rattle.cm_binary_grammar.specs.declared.fault.ReadError.TheVariants as errors
use Rattle.cm_binary_grammar.specs.declared.fault.End.TheVariants as end
use Rattle.cm_binary_grammar.specs.Faults.{flaw, want}
use Rattle.cm_binary_grammar.specs.Whole.{at_most}
use Rattle.cm_binary_model.specs.Trees.{SectionTree}
use Rattle.cm_binary_model.specs.declared.limits.TheConstants.{MAX_FILE_BYTES}
use Rattle.cm_binary_forms.specs.declared.fault.DecodeFault.{DecodeFault}
use Rattle.cm_binary_forms.specs.declared.fault.DecodeReason.TheVariants.{Truncated, TooLong}
use Rattle.cm_binary_forms.specs.Texts.{WholeProduction}
use Rattle.cm_binary.specs.Answers.{AreBytes}
use Rattle.cm_binary_forms.specs.declared.fault.DecodeReason.{DecodeReason}
use Rattle.cm_binary.specs.Progress.{Progress, fresh, behind, HasRead, Reaches, Stops}

-- What a decoder holds: what was read, the bytes kept unread, the fault that was met.
pub record Held : Type 0 where
  pub read : Progress
  pub kept : List ℕ
  pub fault : Option DecodeFault

-- Nothing has come.
abbrev pub nothing : Held
nothing = record { read = fresh; kept = []; fault = None }

-- A component, or a fault.
abbrev pub Answer : Type 0
Answer = Result (List SectionTree) DecodeFault

-- What may stand behind what was read, in a file of at most so many bytes.
abbrev pub rest_of_file : Progress → WholeProduction (List SectionTree)
rest_of_file p = at_most (MAX_FILE_BYTES - p.offset) TooLong (behind p)

-- What these bytes come to behind what was read: the sections that were read and those that they
-- spell, or their first fault.
abbrev pub ComesTo : Progress → List ℕ → Answer → Type 0
ComesTo p bytes (Ok c) =
    (more : List SectionTree) × (rest_of_file p).Spells more bytes × (c ≡ p.sections ++ more)
ComesTo p bytes (Err f) = (left : ℕ) × (f.at + left ≡ p.offset + length bytes)
    × (rest_of_file p).Faulty (end.Cut Truncated) bytes (flaw left f.reason)

abbrev pub AfterFault : Option DecodeFault → Held → List ℕ → Answer → Type 0
AfterFault (Some fault) d bytes answer = answer ≡ Err fault
AfterFault None d bytes answer = ComesTo d.read (d.kept ++ bytes) answer

-- The answer where a decoder holds d, and these bytes are all that follow.
abbrev pub After : Held → List ℕ → Answer → Type 0
After d bytes answer = AfterFault d.fault d bytes answer

-- new holds what old holds, and these bytes behind it.
pub record Follows (old : Held) (bytes : List ℕ) (new : Held) : Type 0 where
  pub answers : (more : List ℕ) (answer : Answer) → AreBytes (bytes ++ more)
      → After new more answer ↔ After old (bytes ++ more) answer
  pub unharmed : new.fault ≡ None
  pub counted : new.read.offset + length new.kept
      ≡ old.read.offset + length old.kept + length bytes

-- The fault is the answer whatever follows these bytes.
abbrev pub IsSettled : Held → List ℕ → DecodeFault → Type 0
IsSettled d bytes fault = (more : List ℕ) → AreBytes (bytes ++ more)
    → After d (bytes ++ more) (Err fault)

-- The bytes begin with the id and the size of a section.
abbrev pub BeginsSection : ℕ → List ℕ → Type 0
BeginsSection size bytes = (id : ℕ) × (number : List ℕ) × (rest : List ℕ)
    × (bytes ≡ id ∷ (number ++ rest)) × SpellsUnsigned 32 number size

-- ---- what the code keeps

-- Behind what was read stand these bytes, and more are wanted.
pub record Waits (p : Progress) (kept : List ℕ) : Type 0 where
  pub read : HasRead p
  pub bytes : AreBytes kept
  pub few : p.offset + length kept ≤ MAX_FILE_BYTES
  pub wants : Stops p (end.Cut Truncated) kept (errors.Fault (want (end.Cut Truncated)))

-- What holds of a decoder: it waits, or it has met a fault.
abbrev pub IsHeld : Option DecodeFault → Progress → List ℕ → Type 0
IsHeld (Some fault) p kept = kept ≡ []
IsHeld None p kept = Waits p kept

-- More of these bytes was read, and the rest waits.
pub record GoesOn (old : Progress) (bytes rest : List ℕ) (new : Progress) : Type 0 where
  pub reached : Reaches old bytes rest new
  pub waits : Waits new rest

-- Behind what was read, these bytes have this fault whatever follows.
abbrev pub HasFault : Progress → List ℕ → DecodeFault → Type 0
HasFault p bytes f = (more : List ℕ) → AreBytes (bytes ++ more) → ComesTo p (bytes ++ more) (Err f)

-- More of these bytes was read, and the rest stops for want of a byte.
pub record EndsEarly (old : Progress) (e : End DecodeReason) (bytes rest : List ℕ)
    (new : Progress) : Type 0 where
  pub reached : Reaches old bytes rest new
  pub left : ℕ
  pub stopped : Stops new e rest (errors.Fault (flaw left Truncated))

-- More of these bytes was read, and the rest stops at this fault.
pub record StopsAt (old : Progress) (e : End DecodeReason) (bytes : List ℕ) (f : DecodeFault)
    (new : Progress) : Type 0 where
  pub rest : List ℕ
  pub reached : Reaches old bytes rest new
  pub left : ℕ
  pub place : f.at + left ≡ new.offset + length rest
  pub stopped : Stops new e rest (errors.Fault (flaw left f.reason))
  pub other : f.reason ≢ Truncated
