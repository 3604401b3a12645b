-- Components of files that link, or do not.
use Rattle.std.proofs.Common.{◌≡◌, List, ℕ, subst, Result, Ok, Err, IfErr, OnOk}
use Rattle.std.specs.List.{AllByRecursion}
use Rattle.cm_shims.specs.Files.{AreRead, IsSound, Reading}
use Rattle.cm_validate_model.specs.Spaces.{Spaces}
use Rattle.huxarte_c_components.specs.declared.choosing.HuxChoice.{HuxChoice}
use Rattle.huxarte_c_components.specs.declared.choosing.HuxPlace.{HuxPlace}
use Rattle.huxarte_c_components.specs.declared.linking.LinkRefusal.{LinkRefusal}
use Rattle.huxarte_c_components.specs.declared.linking.LinkRefusal.TheVariants as refusal
use Rattle.huxarte_c_components.specs.Choosing.{IsSetBy}
use Rattle.huxarte_c_components.specs.Linking.{AreLinked, CanLinkBy, IsLinkRefusal, IsPartsRefusal, IsSpansFault, IsUnlinkedBy, spaces_read}
use Rattle.huxarte_c_calls.specs.declared.spans.HuxSpan.{HuxSpan}
use Rattle.huxarte_c_calls.specs.Spans.{AreWithin, parts_of}

pub linked_is : {A E : Type 0} (places : List HuxPlace) (choices : List HuxChoice) (files : List (List ℕ)) (rs : List Reading) (set : List Spaces) (r : Result A E)
    → AreRead files rs → AllByRecursion IsSound rs → set ≡ spaces_read rs → OnOk r (CanLinkBy places choices set) → OnOk r (AreLinked places choices files)
linked_is places choices files rs set (Ok v) read sound is can = (
  rs,
  can.0,
  record {
    are = record { read = read; sound = sound };
    set_is = subst (λ s. IsSetBy s places choices can.0) is can.1;
    linked = can.2;
  },
)
linked_is places choices files rs set (Err e) read sound is can = tt

-- why components do not link is why their files do not
pub stop_is : (places : List HuxPlace) (choices : List HuxChoice) (files : List (List ℕ)) (rs : List Reading) (set : List Spaces) (e : LinkRefusal)
    → AreRead files rs → AllByRecursion IsSound rs → set ≡ spaces_read rs → IsUnlinkedBy places choices set e → IsLinkRefusal places choices files e
stop_is places choices files rs set refusal.Outside read sound is why = absurd why
stop_is places choices files rs set (refusal.Files f) read sound is why = absurd why
stop_is places choices files rs set (refusal.Choice n) read sound is why =
    record { readings = rs; are = record { read = read; sound = sound }; fails = subst (λ s. IsUnlinkedBy places choices s (refusal.Choice n)) is why }
stop_is places choices files rs set (refusal.Link f) read sound is why =
    record { readings = rs; are = record { read = read; sound = sound }; fails = subst (λ s. IsUnlinkedBy places choices s (refusal.Link f)) is why }
stop_is places choices files rs set refusal.Memory read sound is why = tt

pub unlinked_is : {A : Type 0} (places : List HuxPlace) (choices : List HuxChoice) (files : List (List ℕ)) (rs : List Reading) (set : List Spaces) (r : Result A LinkRefusal)
    → AreRead files rs → AllByRecursion IsSound rs → set ≡ spaces_read rs → IfErr r (IsUnlinkedBy places choices set) → IfErr r (IsLinkRefusal places choices files)
unlinked_is places choices files rs set (Ok v) read sound is why = tt
unlinked_is places choices files rs set (Err e) read sound is why = stop_is places choices files rs set e read sound is why

-- ---- files that are parts of bytes

pub on_ok : {A E : Type 0} (r : Result A E) (P : Type 0) → P → OnOk r P
on_ok (Ok v) P p = p
on_ok (Err e) P p = tt

pub linked_parts : {A E : Type 0} (places : List HuxPlace) (choices : List HuxChoice) (files others : List (List ℕ)) (r : Result A E) → files ≡ others
    → OnOk r (AreLinked places choices files) → OnOk r (AreLinked places choices others)
linked_parts places choices files others r same are = subst (λ (f : List (List ℕ)). OnOk r (AreLinked places choices f)) same are

-- why files do not link is why the parts do not that they are
pub part_refused : (places : List HuxPlace) (choices : List HuxChoice) (bytes : List ℕ) (spans : List HuxSpan) (files : List (List ℕ)) (e : LinkRefusal) → files ≡ parts_of bytes spans
    → AreWithin bytes spans → IsLinkRefusal places choices files e → IsPartsRefusal places choices bytes spans e
part_refused places choices bytes spans files refusal.Outside same within why = absurd why
part_refused places choices bytes spans files (refusal.Files f) same within why = (within, subst (λ (x : List (List ℕ)). IsLinkRefusal places choices x (refusal.Files f)) same why)
part_refused places choices bytes spans files (refusal.Choice n) same within why = (within, subst (λ (x : List (List ℕ)). IsLinkRefusal places choices x (refusal.Choice n)) same why)
part_refused places choices bytes spans files (refusal.Link f) same within why = (within, subst (λ (x : List (List ℕ)). IsLinkRefusal places choices x (refusal.Link f)) same why)
part_refused places choices bytes spans files refusal.Memory same within why = tt

pub refused_parts : {A : Type 0} (places : List HuxPlace) (choices : List HuxChoice) (bytes : List ℕ) (spans : List HuxSpan) (files : List (List ℕ)) (r : Result A LinkRefusal)
    → files ≡ parts_of bytes spans → AreWithin bytes spans → IfErr r (IsLinkRefusal places choices files) → IfErr r (IsPartsRefusal places choices bytes spans)
refused_parts places choices bytes spans files (Ok v) same within why = tt
refused_parts places choices bytes spans files (Err e) same within why = part_refused places choices bytes spans files e same within why

-- why parts are not there is why they do not link
pub spans_refused : (places : List HuxPlace) (choices : List HuxChoice) (bytes : List ℕ) (spans : List HuxSpan) (e : LinkRefusal) → IsSpansFault bytes spans e → IsPartsRefusal places choices bytes spans e
spans_refused places choices bytes spans refusal.Outside why = why
spans_refused places choices bytes spans refusal.Memory why = tt
spans_refused places choices bytes spans (refusal.Files f) why = absurd why
spans_refused places choices bytes spans (refusal.Choice n) why = absurd why
spans_refused places choices bytes spans (refusal.Link f) why = absurd why
