-- Why a set is not bundled.
use Rattle.std.specs.Prelude.{◌≡◌, ◌≢◌, ◌+◌, ◌≤◌, ◌<◌, ◌^◌, ℕ, List, length}
use Rattle.cm_match_model.specs.Imports.{LinkSet}
use Rattle.cm_bundle.specs.Bundled.{first_part, FrontFits}
use Rattle.cm_bundle.specs.Bundles.{IsBundle, spelled}
use Rattle.cm_bundle.specs.declared.bundling.BundlingFault.{BundlingFault}
use Rattle.cm_bundle.specs.declared.bundling.BundlingFault.TheVariants as faults
use Rattle.cm_bundle.specs.Trees.{GroupTree, BundleTree}

-- There is a file for each component that is a part, and a component that exports.
pub record AreThere (set : LinkSet) (front : List GroupTree) (files : List (List ℕ)) (exporter : ℕ)
    : Type 0 where
  pub each : first_part front + length files ≡ length set.spaces
  pub exporter_there : exporter < length set.spaces

-- And the front is that of the set.
pub record AreComplete (set : LinkSet) (front : List GroupTree) (files : List (List ℕ))
    (exporter : ℕ) : Type 0 where
  pub there : AreThere set front files exporter
  pub fits : FrontFits set front

-- the first reason why it is not made this bundle; want of memory comes only behind the first two
abbrev pub IsRefused : BundlingFault → LinkSet → List GroupTree → List (List ℕ) → ℕ → BundleTree
    → Type 0
IsRefused faults.OtherFiles set front files exporter b =
    first_part front + length files ≢ length set.spaces
IsRefused faults.NoSuchComponent set front files exporter b =
    (first_part front + length files ≡ length set.spaces) × (length set.spaces ≤ exporter)
IsRefused faults.OtherFront set front files exporter b =
    AreThere set front files exporter × (¬ FrontFits set front)
IsRefused faults.TooLong set front files exporter b =
    AreComplete set front files exporter × (2 ^ 32 ≤ length (spelled b))
IsRefused faults.Memory set front files exporter b = AreThere set front files exporter

-- why a bundle of a complete set is not written
abbrev pub IsUnwritten : BundlingFault → BundleTree → Type 0
IsUnwritten faults.TooLong b = 2 ^ 32 ≤ length (spelled b)
IsUnwritten faults.Memory b = Unit {0}
IsUnwritten _ b = ⊥

-- these bytes are this bundle
pub record IsWritten (b : BundleTree) (bytes : List ℕ) : Type 0 where
  pub bundle : IsBundle b
  pub spelling : bytes ≡ spelled b
