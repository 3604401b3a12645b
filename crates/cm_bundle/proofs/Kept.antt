-- The files of a bundle that is read, and how many parts a bundle of a set has.
use Rattle.std.proofs.Common.{◌≡◌, ◌∙◌, ◌+◌, ◌<◌, ◌≤◌, ◌⊎◌, ℕ, List, [], ◌∷◌, Ok, Err, inl, inr, length, map, arith, ap, refl, sym, subst, Vec, Global}
use Rattle.std.proofs.Math.Logic.{∥∥₁_elim}
use Rattle.std.proofs.lemmas.List.FromFn.{length-enumerate_from}
use Rattle.std.specs.Coded.{le_prop}
use Rattle.std.specs.List.{AllByRecursion, enumerate_from}
use Rattle.std.specs.Prelude.{IfErr, IfOk, Result}
use Rattle.cm_lemmas.proofs.Lists.{map_length, mapped_twice}
use Rattle.cm_match_model.specs.Imports.{LinkSet}
use Rattle.cm_match_model.specs.Links.{CanBeLinked}
use Rattle.cm_bundle.specs.Answers.{Accepts}
use Rattle.cm_bundle.specs.declared.form.Bundle.{Bundle}
use Rattle.cm_bundle.specs.declared.form.Part.{Part}
use Rattle.cm_bundle.specs.declared.form.TheConstants.{MAX_PARTS}
use Rattle.cm_bundle.specs.declared.fault.BundleFault.{BundleFault}
use Rattle.cm_bundle.specs.declared.writing.WriteFault.TheVariants as faults
use Rattle.cm_bundle.specs.Trees.{BundleTree, GroupTree, PartTree, NameTree, part_tree}
use Rattle.cm_bundle.specs.Bundled.{bundle_of, bundle_with, first_part, part_of, FrontFits}
use Rattle.cm_bundle.specs.Fronts.{spaces_behind, AreGroups, IsGroup}
use Rattle.cm_bundle.specs.Names.{IsName, name_sections, names_of}
use Rattle.cm_bundle.specs.Refusals.{IsRefused}
use Rattle.cm_bundle.specs.Spelled.{AreSupplied}
use Rattle.cm_bundle.specs.BundlingRefusals.{AreComplete, IsUnwritten, IsWritten}
use Rattle.cm_bundle.specs.declared.bundling.BundlingFault.{BundlingFault}
use Rattle.cm_bundle.proofs.NameLaws.{names_read}
use Rattle.cm_bundle.proofs.ServedLaws.{files_kept}

-- what is read as the bundle of a set has its files
pub files_read : (r : Result Bundle BundleFault) (set : LinkSet) (front : List GroupTree)
    (files : List (List ℕ)) (exporter : ℕ) (names : List NameTree)
    → Accepts r (bundle_of set front files exporter names)
    → IfOk r (λ b. map (λ (p : Part). p.file.now) b.parts.items ≡ files)
files_read (Ok b) set front files exporter names h =
    mapped_twice (λ (t : PartTree). t.file) part_tree b.parts.items
    ∙ ap (λ (t : BundleTree). map (λ (p : PartTree). p.file) t.parts) h
    ∙ files_kept set front files exporter (name_sections names)
files_read (Err f) set front files exporter names h = tt

parts_count : (set : LinkSet) (front : List GroupTree) (files : List (List ℕ)) (exporter : ℕ)
    (customs : List (List ℕ))
    → length (bundle_with set front files exporter customs).parts ≡ length files
parts_count set front files exporter customs =
    map_length (part_of set) (enumerate_from (first_part front) files)
    ∙ length-enumerate_from (first_part front) files

-- a set has few components
few_parts : (set : LinkSet) → ∥ CanBeLinked set ∥₁ → (front : List GroupTree)
    (files : List (List ℕ)) (exporter : ℕ) (customs : List (List ℕ)) (b : BundleTree)
    → b ≡ bundle_with set front files exporter customs
    → first_part front + length files ≡ length set.spaces → MAX_PARTS < length b.parts → ⊥
few_parts set merely front files exporter customs b is each many =
    let few : length set.spaces ≤ 16 = ∥∥₁_elim merely le_prop (λ can. omega (arith, can.few)) in
    absurd
    (omega (
      arith,
      few,
      many,
      each,
      parts_count set front files exporter customs,
      ap (λ (t : BundleTree). length t.parts) is,
    ))

-- ---- fronts

front_groups : (set : LinkSet) (front : List GroupTree) → FrontFits set front → AreGroups front
front_groups set [] fits = record { few = omega arith; each = tt {0} }
front_groups set (g ∷ gs) fits = fits.groups

-- what a set is bundled with is neither too much nor something else
pub is_fine : (set : LinkSet) → ∥ CanBeLinked set ∥₁ → (front : List GroupTree)
    (files : List (List ℕ)) (exporter : ℕ) (customs : List (List ℕ)) (b : BundleTree)
    → b ≡ bundle_with set front files exporter customs
    → AreComplete set front files exporter → IsRefused faults.TooManyParts b ⊎ IsRefused faults.BadFront b → ⊥
is_fine set merely front files exporter customs b is complete (inl (inl many)) =
    few_parts set merely front files exporter customs b is complete.there.each many
is_fine set merely front files exporter customs b is complete (inl (inr many)) =
    let groups = front_groups set front complete.fits in
    let same : length b.front ≡ length front = ap (λ (t : BundleTree). length t.front) is in
    omega (arith, same, groups.few, many)
is_fine set merely front files exporter customs b is complete (inr bad) =
    let groups = front_groups set front complete.fits in
    bad (subst (λ (t : BundleTree). AllByRecursion IsGroup t.front) (sym is) groups.each)

-- the first place of a part is behind that of what is imported
pub first_place : (front : List GroupTree) → length (spaces_behind front).places ≡ first_part front
first_place [] = refl
first_place (g ∷ gs) = refl

-- what a set is bundled with is supplied
pub is_supplied : (set : LinkSet) (front : List GroupTree) (files : List (List ℕ)) (exporter : ℕ)
    (customs : List (List ℕ)) (b : BundleTree) → b ≡ bundle_with set front files exporter customs
    → AreSupplied (first_part front) b.parts b.exports → IsRefused faults.NoSuchPart b → ⊥
is_supplied set front files exporter customs b is supplied bad =
    let same : length (spaces_behind b.front).places ≡ first_part front =
    ap (λ (t : BundleTree). length (spaces_behind t.front).places) is ∙ first_place front in
    bad (subst (λ (n : ℕ). AreSupplied n b.parts b.exports) (sym same) supplied)

-- ---- names

-- what is written with the custom sections of names is the bundle with these names
pub written_so : (r : Result (Vec ℕ Global) BundlingFault) (set : LinkSet) (front : List GroupTree)
    (files : List (List ℕ)) (exporter : ℕ) (names : List NameTree) (customs : List (List ℕ))
    → customs ≡ name_sections names
    → IfOk r (λ v. IsWritten (bundle_with set front files exporter customs) v.items)
    → IfOk r (λ v. IsWritten (bundle_of set front files exporter names) v.items)
written_so r set front files exporter names customs e h =
    subst (λ (cs : List (List ℕ)). IfOk r (λ v. IsWritten (bundle_with set front files exporter cs) v.items)) e h

pub unwritten_so : (r : Result (Vec ℕ Global) BundlingFault) (set : LinkSet) (front : List GroupTree)
    (files : List (List ℕ)) (exporter : ℕ) (names : List NameTree) (customs : List (List ℕ))
    → customs ≡ name_sections names
    → IfErr r (λ f. IsUnwritten f (bundle_with set front files exporter customs))
    → IfErr r (λ f. IsUnwritten f (bundle_of set front files exporter names))
unwritten_so r set front files exporter names customs e h =
    subst (λ (cs : List (List ℕ)). IfErr r (λ f. IsUnwritten f (bundle_with set front files exporter cs))) e h

-- and its names are these
pub named_so : (r : Result (Vec ℕ Global) BundlingFault) (set : LinkSet) (front : List GroupTree)
    (files : List (List ℕ)) (exporter : ℕ) (names : List NameTree) → AllByRecursion IsName names
    → IfOk r (λ v. IsWritten (bundle_of set front files exporter names) v.items)
    → IfOk r (λ v. names ≡ names_of (bundle_of set front files exporter names))
named_so (Ok v) set front files exporter names are h =
    sym (names_read (bundle_of set front files exporter names) names refl h.bundle are)
named_so (Err f) set front files exporter names are h = tt {0}
