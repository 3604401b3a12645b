-- The files of a bundle, and how they are linked, in numbers (this project's own choice).
use Rattle.std.specs.Prelude.{◌≡◌, ◌⊎◌, ◌+◌, ◌++◌, ◌==◌, ◌&&◌, ⊤, ℕ, List, [], ◌∷◌, Some}
use Rattle.std.specs.Prelude.{length, map, take}
use Rattle.std.specs.List.{flat_map}
use Rattle.cm_bundle_links.specs.cm_bundle.Bundles.{FirstFault, IsBundle, spelled}
use Rattle.cm_bundle_links.specs.cm_bundle.Reasons as reading
use Rattle.cm_bundle_links.specs.cm_bundle.Trees.{BundleTree, SupplyTree}
use Rattle.cm_bundle_links.specs.cm_bundle.declared.fault.BundleReason.TheVariants as bundle_reason
use Rattle.cm_bundle_links.specs.Links.{AreLinks, IsLink, IsLinksFault, argument_in}
use Rattle.cm_bundle_links.specs.Reasons as linking
use Rattle.cm_match_model.specs.Fitting.{NamedExport}
use Rattle.cm_match_model.specs.Imports.{Sees}
use Rattle.cm_match_model.specs.declared.component.Link.{Link}
use Rattle.cm_match_serving.specs.Candidates.{each_from}
use Rattle.cm_shims.specs.Files.{IsFileFault, Reading}
use Rattle.cm_types.specs.Signatures.{NamedExtern}
use Rattle.cm_validate_model.specs.Spaces.{Spaces}
use Rattle.huxarte_c_calls.specs.declared.kinds.HuxKind.TheVariants as kind
use Rattle.huxarte_c_calls.specs.declared.spans.HuxSpan.{HuxSpan}
use Rattle.huxarte_c_calls.specs.declared.verdicts.HuxVerdict.{HuxVerdict}
use Rattle.huxarte_c_calls.specs.Texts.{written}
use Rattle.huxarte_c_calls.specs.Verdicts.{at_item, fine, of_kind}
use Rattle.huxarte_c_components.specs.declared.choosing.HuxChoice.{HuxChoice}
use Rattle.huxarte_c_components.specs.declared.unbundled.HuxBundle.{HuxBundle}
use Rattle.huxarte_c_components.specs.declared.unbundling.BundleRefusal.{BundleRefusal}
use Rattle.huxarte_c_components.specs.declared.unbundling.BundleRefusal.TheVariants as refusal
use Rattle.huxarte_c_components.specs.Faults.{of_files}
use Rattle.huxarte_c_components.specs.Linking.{AreSound, spaces_read}

-- ---- what is wrong, in numbers

abbrev pub of_unbundling : BundleRefusal → HuxVerdict
of_unbundling (refusal.Bundle f) = at_item kind.Bundle (reading.reason_number f.reason) 0 f.at 0
of_unbundling (refusal.Files f) = of_files f
of_unbundling (refusal.Links f) =
    at_item kind.BundleLinks (linking.reason_number f.reason) f.part 0 f.argument
of_unbundling refusal.Memory = of_kind kind.Memory

-- ---- what is handed out

-- the files of a bundle, in order
abbrev pub files_in : BundleTree → List (List ℕ)
files_in b = map (λ p. p.file) b.parts

-- files one behind the other, and where each of them stands, from here on
abbrev pub bytes_of : List (List ℕ) → List ℕ
bytes_of files = flat_map (λ f. f) files

abbrev pub spans_from : ℕ → List (List ℕ) → List HuxSpan
spans_from at [] = []
spans_from at (f ∷ fs) = record { at = at; length = length f } ∷ spans_from (at + length f) fs

-- the choice of a link for an import, and those of the rows of files from this one on
abbrev pub choice_of : ℕ → ℕ → Link → HuxChoice
choice_of importer import_at l = record {
  importer = importer;
  import_at = import_at;
  provider = l.component;
  export_at = l.export;
}

abbrev pub choices_from : ℕ → List (List Link) → List HuxChoice
choices_from importer [] = []
choices_from importer (row ∷ rows) =
    each_from (choice_of importer) 0 row ++ choices_from (importer + 1) rows

-- files and links are handed out: how much there is, and in buffers as much as there is room for
pub record IsHandedOut (files : List (List ℕ)) (rows : List (List Link)) (seen : HuxBundle)
    (spans spans_after : List HuxSpan) (texts texts_after : List ℕ)
    (choices choices_after : List HuxChoice) : Type 0 where
  pub files_are : seen.files ≡ length files
  pub bytes_are : seen.bytes ≡ length (bytes_of files)
  pub choices_are : seen.choices ≡ length (choices_from 0 rows)
  pub spans_written : spans_after ≡ written spans (spans_from 0 files)
  pub texts_written : texts_after ≡ written texts (bytes_of files)
  pub choices_written : choices_after ≡ written choices (choices_from 0 rows)

-- ---- bundles

-- the files of a bundle stand for valid components, and these are the links that it says
abbrev pub IsLinkedBy : BundleTree → List (List Link) → Type 0
IsLinkedBy b rows = (readings : List Reading) × AreSound (files_in b) readings
    × AreLinks b (spaces_read readings) rows

-- why these components have none, and why the files of a bundle have none
abbrev pub IsLinksRefusal : BundleTree → List Spaces → BundleRefusal → Type 0
IsLinksRefusal b set (refusal.Links f) = IsLinksFault b set f
IsLinksRefusal b set _ = ⊥

abbrev pub IsNotLinked : BundleTree → BundleRefusal → Type 0
IsNotLinked b (refusal.Bundle f) = ⊥
IsNotLinked b (refusal.Files f) = IsFileFault (files_in b) f
IsNotLinked b (refusal.Links f) = (readings : List Reading) × AreSound (files_in b) readings
    × IsLinksFault b (spaces_read readings) f
IsNotLinked b refusal.Memory = ⊤

-- bytes are the spelling of this bundle
pub record IsSpelled (bytes : List ℕ) (b : BundleTree) : Type 0 where
  pub bundle : IsBundle b
  pub bytes_are : bytes ≡ spelled b

-- bytes are a bundle, whose files and links are handed out
pub record IsUnbundled (bytes : List ℕ) (seen : HuxBundle) (spans spans_after : List HuxSpan)
    (texts texts_after : List ℕ) (choices choices_after : List HuxChoice) : Type 0 where
  pub bundle : BundleTree
  pub spelled : IsSpelled bytes bundle
  pub rows : List (List Link)
  pub linked : IsLinkedBy bundle rows
  pub out : IsHandedOut (files_in bundle) rows seen spans spans_after texts texts_after
      choices choices_after

-- why they are not: they are no bundle, and this is the first fault, or its files do not link
abbrev pub IsNotUnbundled : List ℕ → BundleRefusal → Type 0
IsNotUnbundled bytes (refusal.Bundle f) =
    (f.reason ≡ bundle_reason.Memory) ⊎ FirstFault bytes f.at f.reason
IsNotUnbundled bytes refusal.Memory = ⊤
IsNotUnbundled bytes r = (b : BundleTree) × IsSpelled bytes b × IsNotLinked b r

-- a verdict, and what is seen and written before and after: a bundle, or unchanged by a refusal
abbrev pub IsUnbundleVerdict : List ℕ → HuxVerdict → HuxBundle → HuxBundle → List HuxSpan
    → List HuxSpan → List ℕ → List ℕ → List HuxChoice → List HuxChoice → Type 0
IsUnbundleVerdict bytes v before seen spans spans_after texts texts_after choices choices_after =
    (IsUnbundled bytes seen spans spans_after texts texts_after choices choices_after × (v ≡ fine))
    ⊎ ((r : BundleRefusal) × IsNotUnbundled bytes r × (v ≡ of_unbundling r)
    × (seen ≡ before) × (spans_after ≡ spans) × (texts_after ≡ texts)
    × (choices_after ≡ choices))

-- ---- what imports see by the choices of a bundle

-- an import of a part is given an argument, and sees the one export that this names, of the name
-- and the sort that it says, of a component before
pub record SeesNamed (b : BundleTree) (set : List Spaces) (sees : Sees) (importer number : ℕ)
    (item : NamedExtern) : Type 0 where
  pub argument : SupplyTree
  pub given : argument_in b importer number ≡ Some argument
  pub link : Link
  pub is : IsLink b.front (take importer set) item argument link
  pub only : (e : NamedExport) → sees importer number e
      ≡ ((link.component == e.component) && (link.export == e.number))
