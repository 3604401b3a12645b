-- Plays of the components of files (docs/COMMAND.md, "Scripts"): what the drives of a play come to
-- is not said here.
use Rattle.std.specs.Prelude.{◌≡◌, ⊤, ℕ, List, [], ◌∷◌, Result, Ok, Err}
use Rattle.cm_validate_model.specs.Spaces.{Spaces}
use Rattle.huxarte_c.specs.declared.playing.PlayRefusal.{PlayRefusal}
use Rattle.huxarte_c.specs.declared.playing.PlayRefusal.TheVariants as refusal
use Rattle.huxarte_c_components.specs.Linking.{AreLinked, CanLinkBy, IsLinkRefusal}
use Rattle.huxarte_c_components.specs.Linking.{IsPartsRefusal, IsUnlinkedBy, of_link}
use Rattle.huxarte_c_components.specs.declared.linking.LinkRefusal.TheVariants as link
use Rattle.huxarte_c_calls.specs.declared.kinds.HuxKind.TheVariants as kind
use Rattle.huxarte_c_calls.specs.declared.spans.HuxSpan.{HuxSpan}
use Rattle.huxarte_c_calls.specs.declared.verdicts.HuxVerdict.{HuxVerdict}
use Rattle.huxarte_c_calls.specs.Spans.{AreWithin, parts_of}
use Rattle.huxarte_c_calls.specs.Verdicts.{of_kind, verdict_by}

-- why a play is not done, in numbers
abbrev pub of_play : PlayRefusal → HuxVerdict
of_play (refusal.Link r) = of_link r
of_play refusal.Unplayed = of_kind kind.Unplayed
of_play refusal.Trapped = of_kind kind.Trapped
of_play refusal.Stopped = of_kind kind.Stopped

-- how a play of linked components ends that is not done: the script or the set is refused, a drive
-- trapped, or one could not begin or reached its limit
abbrev pub IsDriveRefusal : PlayRefusal → Type 0
IsDriveRefusal (refusal.Link r) = ⊥
IsDriveRefusal _ = ⊤

-- components can't be linked, or are linked, and a play ends so
abbrev pub IsUnplayed : List Spaces → PlayRefusal → Type 0
IsUnplayed components (refusal.Link r) = IsUnlinkedBy [] [] components r
IsUnplayed components _ = CanLinkBy [] [] components

-- the components of files
abbrev pub IsUnplayedOf : List (List ℕ) → PlayRefusal → Type 0
IsUnplayedOf files (refusal.Link r) = IsLinkRefusal [] [] files r
IsUnplayedOf files _ = AreLinked [] [] files

-- and of files that are parts of bytes, one of which may pass their end
abbrev pub IsSpansRefusal : List ℕ → List HuxSpan → PlayRefusal → Type 0
IsSpansRefusal bytes spans (refusal.Link r) = IsPartsRefusal [] [] bytes spans r
IsSpansRefusal bytes spans _ = AreWithin bytes spans × AreLinked [] [] (parts_of bytes spans)

-- and where the script is a part, too
abbrev pub IsPlayRefusal : List ℕ → List HuxSpan → HuxSpan → PlayRefusal → Type 0
IsPlayRefusal bytes spans script (refusal.Link link.Outside) =
    AreWithin bytes (script ∷ spans) → ⊥
IsPlayRefusal bytes spans script (refusal.Link link.Memory) = ⊤
IsPlayRefusal bytes spans script r =
    AreWithin bytes (script ∷ spans) × IsSpansRefusal bytes spans r

-- what a play comes to
abbrev pub IsPlayOutcome : List ℕ → List HuxSpan → HuxSpan → Result (Unit {0}) PlayRefusal
    → Type 0
IsPlayOutcome bytes spans script (Ok _) =
    AreWithin bytes (script ∷ spans) × AreLinked [] [] (parts_of bytes spans)
IsPlayOutcome bytes spans script (Err r) = IsPlayRefusal bytes spans script r

-- the verdict on a play
abbrev pub IsPlayVerdict : List ℕ → List HuxSpan → HuxSpan → HuxVerdict → Type 0
IsPlayVerdict bytes spans script v =
    (o : Result (Unit {0}) PlayRefusal) × IsPlayOutcome bytes spans script o
    × (v ≡ verdict_by of_play o)
