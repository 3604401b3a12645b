-- Sets of the components of files.
use Rattle.std.specs.Prelude.{◌≡◌, ◌↔◌, ◌⊎◌, ⊤, ℕ, List, Option, None, Some, Result, Ok, Err}
use Rattle.std.specs.Prelude.{false, length}
use Rattle.cm_machine_model.specs.State.{are_page_counts}
use Rattle.cm_machine_model.specs.declared.event.Misuse.{Misuse}
use Rattle.cm_machine_model.specs.declared.event.Misuse.TheVariants as misuse
use Rattle.cm_match_model.specs.Links.{CanBeLinked}
use Rattle.cm_shims.specs.Files.{Reading}
use Rattle.cm_match_model.specs.Imports.{LinkSet}
use Rattle.cm_validate_model.specs.Spaces.{Spaces}
use Rattle.huxarte_c_calls.specs.Spans.{AreWithin, parts_of}
use Rattle.huxarte_c_calls.specs.Verdicts.{verdict_by}
use Rattle.huxarte_c_calls.specs.declared.spans.HuxSpan.{HuxSpan}
use Rattle.huxarte_c_calls.specs.declared.verdicts.HuxVerdict.{HuxVerdict}
use Rattle.huxarte_c_components.specs.Choosing.{IsSetBy}
use Rattle.huxarte_c_components.specs.Linking.{CanLink, IsLinkRefusal, IsPartsRefusal}
use Rattle.huxarte_c_components.specs.Linking.{IsUnlinkedBy}
use Rattle.huxarte_c_components.specs.declared.choosing.HuxChoice.{HuxChoice}
use Rattle.huxarte_c_components.specs.declared.choosing.HuxPlace.{HuxPlace}
use Rattle.huxarte_c.specs.PlayedSets.{IsNewPlayed, PlayedSet}
use Rattle.huxarte_c.specs.Refused.{of_set}
use Rattle.huxarte_c.specs.declared.refusal.SetRefusal.{SetRefusal}
use Rattle.huxarte_c.specs.declared.refusal.SetRefusal.TheVariants as refusal

-- a new set of these components, which can be linked by places and choices
abbrev pub IsSetLinked : List HuxPlace → List HuxChoice → List Spaces → List ℕ → PlayedSet
    → Type 0
IsSetLinked places choices components pages s = (set : LinkSet)
    × IsSetBy components places choices set × CanBeLinked set × IsNewPlayed set pages s

-- why the machine makes no set of linked components
abbrev pub IsUnmadeBy : LinkSet → List ℕ → SetRefusal → Type 0
IsUnmadeBy set pages (refusal.Misuse m) = ((m ≡ misuse.BadPages) ⊎ (m ≡ misuse.Memory))
    × ((m ≡ misuse.BadPages) ↔ (are_page_counts (length set.spaces) pages ≡ false))
IsUnmadeBy set pages refusal.Memory = ⊤
IsUnmadeBy set pages _ = ⊥

-- why there is none of components: they can't be linked, or the machine makes none
abbrev pub IsUnmade : List HuxPlace → List HuxChoice → List Spaces → List ℕ → SetRefusal → Type 0
IsUnmade places choices components pages (refusal.Link r) =
    IsUnlinkedBy places choices components r
IsUnmade places choices components pages (refusal.Misuse m) = (set : LinkSet)
    × IsSetBy components places choices set × CanBeLinked set
    × IsUnmadeBy set pages (refusal.Misuse m)
IsUnmade places choices components pages refusal.Memory = ⊤
IsUnmade places choices components pages _ = ⊥

-- a new set of the components of files, which link by places and choices
abbrev pub IsSetOf : List HuxPlace → List HuxChoice → List (List ℕ) → List ℕ → PlayedSet → Type 0
IsSetOf places choices files pages s = (readings : List Reading) × (set : LinkSet)
    × CanLink places choices files readings set × IsNewPlayed set pages s

-- the components of files link, and the machine makes no set of them
abbrev pub IsUnmadeLinked : List HuxPlace → List HuxChoice → List (List ℕ) → List ℕ
    → SetRefusal → Type 0
IsUnmadeLinked places choices files pages r = (readings : List Reading) × (set : LinkSet)
    × CanLink places choices files readings set × IsUnmadeBy set pages r

abbrev pub IsUnmadeOf : List HuxPlace → List HuxChoice → List (List ℕ) → List ℕ → SetRefusal
    → Type 0
IsUnmadeOf places choices files pages (refusal.Link r) = IsLinkRefusal places choices files r
IsUnmadeOf places choices files pages (refusal.Misuse m) =
    IsUnmadeLinked places choices files pages (refusal.Misuse m)
IsUnmadeOf places choices files pages refusal.Memory = ⊤
IsUnmadeOf places choices files pages _ = ⊥

-- and of files that are parts of bytes, one of which may pass their end
abbrev pub IsUnmadeParts : List HuxPlace → List HuxChoice → List ℕ → List HuxSpan → List ℕ
    → SetRefusal → Type 0
IsUnmadeParts places choices bytes spans pages (refusal.Link r) =
    IsPartsRefusal places choices bytes spans r
IsUnmadeParts places choices bytes spans pages (refusal.Misuse m) = AreWithin bytes spans
    × IsUnmadeLinked places choices (parts_of bytes spans) pages (refusal.Misuse m)
IsUnmadeParts places choices bytes spans pages refusal.Memory = ⊤
IsUnmadeParts places choices bytes spans pages _ = ⊥

-- the handle kept none, and keeps a new set of the components of files
abbrev pub KeptMade : List HuxPlace → List HuxChoice → List ℕ → List HuxSpan → List ℕ
    → Option PlayedSet → Option PlayedSet → Type 0
KeptMade places choices bytes spans pages None (Some s) =
    AreWithin bytes spans × IsSetOf places choices (parts_of bytes spans) pages s
KeptMade places choices bytes spans pages None None = ⊥
KeptMade places choices bytes spans pages (Some s) new = ⊥

-- why it does not: it keeps a set already, or there is none of these files
abbrev pub IsNotMade : List HuxPlace → List HuxChoice → List ℕ → List HuxSpan → List ℕ
    → Option PlayedSet → SetRefusal → Type 0
IsNotMade places choices bytes spans pages (Some s) r = r ≡ refusal.Full
IsNotMade places choices bytes spans pages None r =
    IsUnmadeParts places choices bytes spans pages r

abbrev pub IsMade : List HuxPlace → List HuxChoice → List ℕ → List HuxSpan → List ℕ
    → Option PlayedSet → Option PlayedSet → Result (Unit {0}) SetRefusal → Type 0
IsMade places choices bytes spans pages old new (Ok _) =
    KeptMade places choices bytes spans pages old new
IsMade places choices bytes spans pages old new (Err r) =
    (new ≡ old) × IsNotMade places choices bytes spans pages old r

abbrev pub IsNewVerdict : List HuxPlace → List HuxChoice → List ℕ → List HuxSpan → List ℕ
    → Option PlayedSet → Option PlayedSet → HuxVerdict → Type 0
IsNewVerdict places choices bytes spans pages old new v = (o : Result (Unit {0}) SetRefusal)
    × IsMade places choices bytes spans pages old new o × (v ≡ verdict_by of_set o)
