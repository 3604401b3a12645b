-- Whether the components of files link.
use Rattle.std.specs.Prelude.{◌≡◌, ◌⊎◌, ⊤, ℕ, List, Result, Ok, Err, map}
use Rattle.std.specs.List.{AllByRecursion}
use Rattle.cm_match.specs.Before.{AreServedBefore}
use Rattle.cm_match_model.specs.Imports.{LinkSet}
use Rattle.cm_match_model.specs.Links.{CanBeLinked, IsLinkFault}
use Rattle.cm_match_model.specs.Reasons.{reason_number}
use Rattle.cm_match_model.specs.declared.fault.LinkReason.TheVariants as link_reason
use Rattle.cm_validate_model.specs.Spaces.{Spaces, spaces_of}
use Rattle.cm_shims.specs.Files.{AreRead, IsFileFault, IsSound, Reading, component_in}
use Rattle.huxarte_c_components.specs.declared.linking.LinkRefusal.{LinkRefusal}
use Rattle.huxarte_c_components.specs.declared.linking.LinkRefusal.TheVariants as refusal
use Rattle.huxarte_c_components.specs.Choosing.{IsMisplaced, IsSetBy}
use Rattle.huxarte_c_components.specs.Faults.{of_files}
use Rattle.huxarte_c_components.specs.declared.choosing.HuxChoice.{HuxChoice}
use Rattle.huxarte_c_components.specs.declared.choosing.HuxPlace.{HuxPlace}
use Rattle.huxarte_c_calls.specs.declared.kinds.HuxKind.TheVariants as kind
use Rattle.huxarte_c_calls.specs.declared.spans.HuxSpan.{HuxSpan}
use Rattle.huxarte_c_calls.specs.declared.verdicts.HuxVerdict.{HuxVerdict}
use Rattle.huxarte_c_calls.specs.Spans.{AreWithin, parts_of}
use Rattle.huxarte_c_calls.specs.Verdicts.{at_item, of_kind, verdict_by}

-- what is wrong, in numbers
abbrev pub of_link : LinkRefusal → HuxVerdict
of_link refusal.Outside = of_kind kind.Outside
of_link (refusal.Files f) = of_files f
of_link (refusal.Choice n) = at_item kind.Choice 0 0 n 0
of_link (refusal.Link f) = at_item kind.Link (reason_number f.reason) f.component 0 f.import
of_link refusal.Memory = of_kind kind.Memory

-- files are read as plain components, each of which is valid and has the types that its shims say
pub record AreSound (files : List (List ℕ)) (readings : List Reading) : Type 0 where
  pub read : AreRead files readings
  pub sound : AllByRecursion IsSound readings

-- the plain components that files are read as
abbrev pub spaces_read : List Reading → List Spaces
spaces_read readings = map spaces_of (map component_in readings)

-- Files stand for valid components, which can be linked by these places and choices: where there
-- are none, as a set whose imports see all exports before them.
pub record CanLink (places : List HuxPlace) (choices : List HuxChoice) (files : List (List ℕ))
    (readings : List Reading) (set : LinkSet) : Type 0 where
  pub are : AreSound files readings
  pub set_is : IsSetBy (spaces_read readings) places choices set
  pub linked : CanBeLinked set

abbrev pub AreLinked : List HuxPlace → List HuxChoice → List (List ℕ) → Type 0
AreLinked places choices files =
    (readings : List Reading) × (set : LinkSet) × CanLink places choices files readings set

-- Components can't be linked, and this is the first fault; or there was no memory at an import
-- before which all are served, or for the text of the plan.
abbrev pub IsUnlinked : LinkSet → LinkRefusal → Type 0
IsUnlinked set (refusal.Link f) =
    ((f.reason ≡ link_reason.Memory) × AreServedBefore set f.component f.import)
    ⊎ IsLinkFault set f.component f.import f.reason
IsUnlinked set refusal.Memory = ⊤
IsUnlinked set _ = ⊥

-- why components are not linked by places and choices: one of these is of no import, or of one that
-- has a choice, or the set is refused
abbrev pub IsUnlinkedBy : List HuxPlace → List HuxChoice → List Spaces → LinkRefusal → Type 0
IsUnlinkedBy places choices components (refusal.Choice n) = IsMisplaced components choices n
IsUnlinkedBy places choices components refusal.Memory = ⊤
IsUnlinkedBy places choices components (refusal.Link f) =
    (set : LinkSet) × IsSetBy components places choices set × IsUnlinked set (refusal.Link f)
IsUnlinkedBy places choices components _ = ⊥

-- components can be linked by places and choices
abbrev pub CanLinkBy : List HuxPlace → List HuxChoice → List Spaces → Type 0
CanLinkBy places choices components =
    (set : LinkSet) × IsSetBy components places choices set × CanBeLinked set

-- files stand for valid components, which are not linked for this reason
pub record IsLinkStop (places : List HuxPlace) (choices : List HuxChoice)
    (files : List (List ℕ)) (r : LinkRefusal) : Type 0 where
  pub readings : List Reading
  pub are : AreSound files readings
  pub fails : IsUnlinkedBy places choices (spaces_read readings) r

-- why the components of files do not link; memory may be refused for the text of the plan
abbrev pub IsLinkRefusal : List HuxPlace → List HuxChoice → List (List ℕ) → LinkRefusal → Type 0
IsLinkRefusal places choices files (refusal.Files f) = IsFileFault files f
IsLinkRefusal places choices files refusal.Memory = ⊤
IsLinkRefusal places choices files refusal.Outside = ⊥
IsLinkRefusal places choices files r = IsLinkStop places choices files r

-- why files that are parts of bytes, one of which may pass their end, are not linked
abbrev pub IsPartsRefusal : List HuxPlace → List HuxChoice → List ℕ → List HuxSpan → LinkRefusal
    → Type 0
IsPartsRefusal places choices bytes spans refusal.Outside = AreWithin bytes spans → ⊥
IsPartsRefusal places choices bytes spans refusal.Memory = ⊤
IsPartsRefusal places choices bytes spans r =
    AreWithin bytes spans × IsLinkRefusal places choices (parts_of bytes spans) r

-- why parts of bytes are not there
abbrev pub IsSpansFault : List ℕ → List HuxSpan → LinkRefusal → Type 0
IsSpansFault bytes spans refusal.Outside = AreWithin bytes spans → ⊥
IsSpansFault bytes spans refusal.Memory = ⊤
IsSpansFault bytes spans _ = ⊥

-- whether they link
abbrev pub IsLinkOutcome : List HuxPlace → List HuxChoice → List ℕ → List HuxSpan
    → Result (Unit {0}) LinkRefusal → Type 0
IsLinkOutcome places choices bytes spans (Ok _) =
    AreWithin bytes spans × AreLinked places choices (parts_of bytes spans)
IsLinkOutcome places choices bytes spans (Err r) = IsPartsRefusal places choices bytes spans r

abbrev pub IsLinkVerdict : List HuxPlace → List HuxChoice → List ℕ → List HuxSpan → HuxVerdict
    → Type 0
IsLinkVerdict places choices bytes spans v = (o : Result (Unit {0}) LinkRefusal)
    × IsLinkOutcome places choices bytes spans o × (v ≡ verdict_by of_link o)
