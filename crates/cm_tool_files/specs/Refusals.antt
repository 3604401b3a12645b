-- Why bytes are no valid component (Binary.md; Explainer.md, "Component Definitions").
use Rattle.std.specs.Prelude.{◌≡◌, ◌<◌, ◌≤◌, ◌⊎◌, ℕ, List, length, slice_get}
use Rattle.std.specs.Str.Lossy.{utf8_valid_len}
use Rattle.cm_binary_model.specs.Trees.{SectionTree}
use Rattle.cm_binary_forms.specs.File.{FirstFault}
use Rattle.cm_binary_forms.specs.declared.fault.DecodeReason.TheVariants as decoding
use Rattle.cm_validate_model.specs.declared.fault.ValidReason.TheVariants as validity
use Rattle.cm_validate_model.specs.Valid.{IsFaultOf}
use Rattle.cm_validate.specs.cm_validate_spaces.Walks.{IsFineBefore}
use Rattle.cm_tool_files.specs.declared.bad_file.FileReason.{FileReason}
use Rattle.cm_tool_files.specs.declared.bad_file.FileReason.TheVariants as reason
use Rattle.cm_tool_files.specs.declared.text_fault.TextFileFault.TheVariants as texts
use Rattle.cm_tool_files.specs.declared.text_fault.TheConstants as constants

-- Bytes spell no component file, and this is their first fault, with the byte there; or memory was
-- refused.
abbrev pub IsNoComponent : List ℕ → FileReason → Type 0
IsNoComponent bytes (reason.NoComponent f found) =
    ((f.reason ≡ decoding.Memory) ⊎ FirstFault bytes f.at f.reason)
    × (found ≡ slice_get bytes f.at)
IsNoComponent bytes _ = ⊥

-- A component is not valid, and this is its first fault; or memory was refused at an item before
-- which nothing is wrong.
abbrev pub IsNotValid : List SectionTree → FileReason → Type 0
IsNotValid c (reason.NotValid f) =
    ((f.reason ≡ validity.Memory) × IsFineBefore c f.section f.item)
    ⊎ IsFaultOf c f.section f.item f.reason
IsNotValid c _ = ⊥

-- The reason is that memory was refused.
abbrev pub IsWantOfMemory : FileReason → Type 0
IsWantOfMemory (reason.NoComponent f found) = f.reason ≡ decoding.Memory
IsWantOfMemory (reason.NotValid f) = f.reason ≡ validity.Memory
IsWantOfMemory _ = ⊥

-- Bytes are no text that is read: there are too many, or else they end to be UTF-8 at this byte.
abbrev pub IsNoText : List ℕ → FileReason → Type 0
IsNoText bytes (reason.NoText texts.TooLong) = constants.MAX_TEXT < length bytes
IsNoText bytes (reason.NoText (texts.BadUtf8 at)) =
    (length bytes ≤ constants.MAX_TEXT) × (at ≡ utf8_valid_len bytes)
IsNoText bytes _ = ⊥
