-- Plays of the components of files.
use Rattle.std.proofs.Common.{◌≡◌, ◌≤◌, ◌+◌, List, [], ℕ, true, false, length, subst, Result, Ok, Err, IfErr, OnOk}
use Rattle.std.specs.List.{AllByRecursion}
use Rattle.cm_shims.specs.Files.{AreRead, IsSound, Reading}
use Rattle.cm_validate_model.specs.Spaces.{Spaces}
use Rattle.huxarte_c.specs.declared.playing.PlayRefusal.{PlayRefusal}
use Rattle.huxarte_c.specs.declared.playing.PlayRefusal.TheVariants as refusal
use Rattle.huxarte_c.specs.Playing.{IsPlayOutcome, IsSpansRefusal, IsUnplayed, IsUnplayedOf}
use Rattle.huxarte_c_components.proofs.LinkLaws.{part_refused, stop_is}
use Rattle.huxarte_c_components.specs.Choosing.{IsSetBy}
use Rattle.huxarte_c_components.specs.Linking.{AreLinked, CanLinkBy, spaces_read}
use Rattle.huxarte_c_components.specs.declared.linking.LinkRefusal.TheVariants as link
use Rattle.huxarte_c_calls.specs.declared.spans.HuxSpan.{HuxSpan}
use Rattle.huxarte_c_calls.specs.Spans.{AreWithin, parts_of}

linked : (files : List (List ℕ)) (rs : List Reading) (set : List Spaces)
    → AreRead files rs → AllByRecursion IsSound rs → set ≡ spaces_read rs → CanLinkBy [] [] set → AreLinked [] [] files
linked files rs set read sound is can = (
  rs,
  can.0,
  record {
    are = record { read = read; sound = sound };
    set_is = subst (λ s. IsSetBy s [] [] can.0) is can.1;
    linked = can.2;
  },
)

-- what holds of index spaces holds of the files that stand for them
pub unplayed_is : {A : Type 0} (files : List (List ℕ)) (rs : List Reading) (set : List Spaces) (r : Result A PlayRefusal)
    → AreRead files rs → AllByRecursion IsSound rs → set ≡ spaces_read rs → IfErr r (IsUnplayed set) → IfErr r (IsUnplayedOf files)
unplayed_is files rs set (Ok v) read sound is why = tt
unplayed_is files rs set (Err (refusal.Link e)) read sound is why = stop_is [] [] files rs set e read sound is why
unplayed_is files rs set (Err refusal.Unplayed) read sound is why = linked files rs set read sound is why
unplayed_is files rs set (Err refusal.Trapped) read sound is why = linked files rs set read sound is why
unplayed_is files rs set (Err refusal.Stopped) read sound is why = linked files rs set read sound is why

are_linked : (bytes : List ℕ) (spans : List HuxSpan) (files : List (List ℕ)) → files ≡ parts_of bytes spans → AreLinked [] [] files → AreLinked [] [] (parts_of bytes spans)
are_linked bytes spans files same are = subst (AreLinked [] []) same are

-- files that are parts of bytes
pub spans_refused : {A : Type 0} (bytes : List ℕ) (spans : List HuxSpan) (files : List (List ℕ)) (r : Result A PlayRefusal) → files ≡ parts_of bytes spans
    → AreWithin bytes spans → IfErr r (IsUnplayedOf files) → IfErr r (IsSpansRefusal bytes spans)
spans_refused bytes spans files (Ok v) same within why = tt
spans_refused bytes spans files (Err (refusal.Link e)) same within why = part_refused [] [] bytes spans files e same within why
spans_refused bytes spans files (Err refusal.Unplayed) same within why = (within, are_linked bytes spans files same why)
spans_refused bytes spans files (Err refusal.Trapped) same within why = (within, are_linked bytes spans files same why)
spans_refused bytes spans files (Err refusal.Stopped) same within why = (within, are_linked bytes spans files same why)

pub not_there : false ≡ true → ⊥
not_there e = cc

-- a script that is a part, too
pub played : (bytes : List ℕ) (spans : List HuxSpan) (script : HuxSpan) (r : Result (Unit {0}) PlayRefusal) → script.at + script.length ≤ length bytes
    → OnOk r (AreWithin bytes spans) → OnOk r (AreLinked [] [] (parts_of bytes spans)) → IfErr r (IsSpansRefusal bytes spans) → IsPlayOutcome bytes spans script r
played bytes spans script (Ok v) fits within are why = ((fits, within), are)
played bytes spans script (Err (refusal.Link link.Outside)) fits within are why = λ all. why all.1
played bytes spans script (Err (refusal.Link (link.Files f))) fits within are why = ((fits, why.0), why)
played bytes spans script (Err (refusal.Link (link.Choice n))) fits within are why = ((fits, why.0), why)
played bytes spans script (Err (refusal.Link (link.Link f))) fits within are why = ((fits, why.0), why)
played bytes spans script (Err (refusal.Link link.Memory)) fits within are why = tt
played bytes spans script (Err refusal.Unplayed) fits within are why = ((fits, why.0), why)
played bytes spans script (Err refusal.Trapped) fits within are why = ((fits, why.0), why)
played bytes spans script (Err refusal.Stopped) fits within are why = ((fits, why.0), why)
