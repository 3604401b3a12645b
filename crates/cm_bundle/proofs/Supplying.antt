-- The bundle of a set provides before it uses.
use Rattle.std.proofs.Common.{ℕ, ◌+◌, ◌<◌, List, [], ◌∷◌, Option, Some, None, map, length, slice_get, subst, arith}
use Rattle.std.specs.List.{AllByRecursion, enumerate_from}
use Rattle.std.specs.Option.{option_map_or}
use Rattle.cm_validate_model.specs.Definitions.{NamedExport}
use Rattle.cm_validate_model.specs.Spaces.{Spaces}
use Rattle.cm_match_model.specs.Imports.{LinkSet, links_of}
use Rattle.cm_match_model.specs.Origins.{LeadEarlier}
use Rattle.cm_bundle.specs.Spelled.{AreSupplied, IsSupply}
use Rattle.cm_bundle.specs.Trees.{PartTree, SupplyTree}
use Rattle.cm_bundle.specs.Bundled.{exported, exports_of, part_of}
use Rattle.cm_bundle.specs.Texts.{HasTexts}
use Rattle.cm_bundle.proofs.Given.{IsBefore, arguments_before}

-- texts of earlier parts are supplies
pub are_supplies : (c : ℕ) (xs : List SupplyTree) → AllByRecursion HasTexts xs → AllByRecursion (IsBefore c) xs → AllByRecursion (IsSupply c) xs
are_supplies c [] texts before = tt {0}
are_supplies c (x ∷ xs) texts before = (record { name = texts.0.0; export = texts.0.1; earlier = before.0 }, are_supplies c xs texts.1 before.1)

abbrev pub AreTexts : List PartTree → Type 0
AreTexts ps = AllByRecursion (λ p. AllByRecursion HasTexts p.arguments) ps

module _ (set : LinkSet) (lead : LeadEarlier (links_of set)) where
  pub are_supplied : (n : ℕ) (files : List (List ℕ)) (exports : List SupplyTree) → AreTexts (map (part_of set) (enumerate_from n files)) → AllByRecursion (IsSupply (n + length files)) exports → AreSupplied n (map (part_of set) (enumerate_from n files)) exports
  are_supplied n [] exports texts all = subst (λ m. AllByRecursion (IsSupply m) exports) (omega arith) all
  are_supplied n (f ∷ fs) exports texts all = (
    are_supplies n _ texts.0 (arguments_before set lead n),
    are_supplied (n + 1) fs exports texts.1 (subst (λ m. AllByRecursion (IsSupply m) exports) (omega arith) all),
  )

-- what a component exports is of it
pub exports_before : (set : List Spaces) (c n : ℕ) → c < n → AllByRecursion (IsBefore n) (exports_of set c)
exports_before set c n lt = by_place (slice_get set c)
  where
    each : (es : List NamedExport) → AllByRecursion (IsBefore n) (map (exported c) es)
    each [] = tt {0}
    each (e ∷ es) = (lt, each es)

    by_place : (o : Option Spaces) → AllByRecursion (IsBefore n) (option_map_or (λ s. map (exported c) s.exports) o [])
    by_place None = tt {0}
    by_place (Some s) = each s.exports
