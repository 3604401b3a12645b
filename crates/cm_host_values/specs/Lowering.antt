-- What lowering the values of a host comes to (CanonicalABI.md, "Lifting and Lowering Values"; the
-- faults and their order are this project's own choice).
use Rattle.std.specs.Prelude.{ℕ, ◌<◌, ◌≤◌, List, []}
use Rattle.cm_types.specs.Types.{Fields}
use Rattle.cm_types.specs.Values.{HasType, Val}
use Rattle.cm_abi_model.specs.declared.encoding.StringEncoding.TheVariants.{Utf8}
use Rattle.cm_abi_model.specs.declared.request.Request.{Request}
use Rattle.cm_abi_model.specs.Denotes.{Denotes}
use Rattle.cm_abi_model.specs.Parts.{parts_in}
use Rattle.cm_abi_model.specs.Requests.{requests, tuple_of}
use Rattle.cm_abi_model.specs.Taken.{MAX_CONTENT}
use Rattle.cm_abi_model.specs.Views.{View, Way}
use Rattle.cm_host_values.specs.Sees.{host_of}
use Rattle.cm_machine_guests.specs.declared.bump.Bump.{Bump}
use Rattle.cm_host_values.specs.declared.fault.ValuesFault.{ValuesFault}
use Rattle.cm_host_values.specs.declared.fault.ValuesFault.TheVariants as fault
use Rattle.cm_host_values.specs.declared.lowering.Lowered.{Lowered}
use Rattle.cm_host_values.specs.Answers.{AreAnswers, HasNoRoom}
use Rattle.cm_host_values.specs.Content.{content_in}
use Rattle.cm_host_values.specs.Standing.{BeginsWith}

-- what is asked for a host's values, whose strings are in UTF-8 and stay so
abbrev pub asked_for : Way → Fields → Val → List Request
asked_for way types v = requests way types v Utf8 Utf8 []

-- the bytes of the strings and lists of the tuple of the values
abbrev pub content_of : Fields → Val → ℕ
content_of types v = content_in (parts_in (tuple_of types) v)

-- The regions that values ask for were given out.
abbrev pub WereGiven : Bump → Way → Fields → Val → Bump → Type 0
WereGiven old way types v new =
    (answers : List ℕ) × AreAnswers old (asked_for way types v) answers new

-- In every memory that begins with the bytes the core values denote the values, whose types are
-- those of a host.
abbrev pub DenoteThere : Way → Fields → Val → Lowered → Type 0
DenoteThere way types v l =
    (w : View) → BeginsWith w l.bytes.items → Denotes (host_of w) way types l.slots.items v

-- why values are not lowered, where the regions of a range are to be given out; whether there is
-- memory is not told
abbrev pub IsValuesFault : Bump → Way → Fields → Val → ValuesFault → Type 0
IsValuesFault b way types v fault.WrongTypes = HasType (tuple_of types) v → ⊥
IsValuesFault b way types v fault.TooLarge =
    HasType (tuple_of types) v × (MAX_CONTENT < content_of types v)
IsValuesFault b way types v fault.NoRoom =
    HasType (tuple_of types) v × (content_of types v ≤ MAX_CONTENT)
    × HasNoRoom b (asked_for way types v)
IsValuesFault b way types v fault.Memory = HasType (tuple_of types) v
