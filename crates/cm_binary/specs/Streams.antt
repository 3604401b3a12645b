-- Files that are read from a reader, and written to a writer.
use Rattle.std.specs.Prelude.{◌≡◌, ◌⊎◌, ℕ, ◌<◌, List, length, take, Option, Ok, Err}
use Rattle.std.specs.Io.KnownBytes.{Consumes, Appends, IsAtEnd}
use Rattle.cm_binary_forms.specs.declared.fault.DecodeFault.{DecodeFault}
use Rattle.cm_binary_forms.specs.declared.fault.DecodeReason.TheVariants.{Memory, Read}
use Rattle.cm_binary.specs.Answers.{AreBytes, IsAnswer}
use Rattle.cm_binary.specs.After.{Answer}
use Rattle.cm_binary.specs.Pieces.{StaysFault, IsOpen}
use Rattle.cm_binary.specs.declared.fault.WriteReason.{WriteReason}
use Rattle.cm_binary.specs.declared.fault.WriteReason.TheVariants as reasons
use Rattle.cm_binary.specs.declared.fault.WriteFault.{WriteFault}

-- The fault where the reader fails behind these bytes: the one that they have however they go on,
-- else that it failed there; or that memory was refused.
abbrev pub FailsBehind : List ℕ → DecodeFault → Type 0
FailsBehind bytes f = (f.reason ≡ Memory) ⊎ StaysFault bytes f
    ⊎ ((f.reason ≡ Read) × (f.at ≡ length bytes) × IsOpen bytes)

-- The answer of a reader behind these bytes, which has so many left: what they come to where it is
-- at its end, else a fault.
abbrev pub IsReadUpTo : Option (List ℕ) → List ℕ → Answer → Type 0
IsReadUpTo left bytes (Ok c) = IsAtEnd left × IsAnswer bytes (Ok c)
IsReadUpTo left bytes (Err f) = FailsBehind bytes f ⊎ (IsAtEnd left × IsAnswer bytes (Err f))

-- Some bytes were read, and this is the answer for them.
abbrev pub IsReadFrom : Option (List ℕ) → Option (List ℕ) → Answer → Type 0
IsReadFrom old new answer =
    (bytes : List ℕ) × Consumes old new bytes × AreBytes bytes × IsReadUpTo new bytes answer

-- The answer is that for these bytes, unless the reader fails or memory is refused.
abbrev pub IsKnown : List ℕ → Answer → Type 0
IsKnown bytes (Ok c) = IsAnswer bytes (Ok c)
IsKnown bytes (Err f) = (f.reason ≡ Memory) ⊎ (f.reason ≡ Read)
    ⊎ (AreBytes bytes → IsAnswer bytes (Err f))

-- The writer's bytes grew by a beginning of these, as long as the fault says, and not by all.
abbrev pub WritesSome : Option (List ℕ) → Option (List ℕ) → List ℕ → WriteFault → Type 0
WritesSome old new bytes f = Appends old new (take f.written bytes) × (f.written < length bytes)

-- The number of a reason.
abbrev pub write_reason_number : WriteReason → ℕ
write_reason_number reasons.Write = 1
write_reason_number reasons.Memory = 2
