use Rattle.std.proofs.Common.{◌+◌, ◌<◌, ℕ, List, map, length, arith, subst, sym}
use Rattle.std.specs.List.{AllByRecursion}
use Rattle.cm_bundle.specs.Spelled.{AreSupplied}
use Rattle.cm_bundle.specs.Trees.{PartTree, SupplyTree, part_tree, supply_tree}
use Rattle.cm_match.specs.Linked.{set_in}
use Rattle.cm_bundle.proofs.Given.{IsBefore}
use Rattle.cm_bundle.proofs.Supplying.{AreTexts, are_supplied, are_supplies, exports_before}
use Rattle.cm_bundle.proofs.bundled.bundle_with.Goals as goal

pub returns-clause-supplied : goal.returns-clause-supplied
returns-clause-supplied c =
    let set = set_in c.args.linked.now in
    let first = c.first_part-first.result in
    let files : List (List ℕ) = map (λ f. f.now) c.args.files.now in
    let exports = map supply_tree c.in_ok-exports.exports.items in
    let parts = c.in_ok-parts.ensures.parts in
    let below : c.args.exporter < first + length files = omega (arith, c.requires.there.each, c.requires.there.exporter_there, c.first_part-first.ensures) in
    let before : AllByRecursion (IsBefore (first + length files)) exports = subst (λ (xs : List SupplyTree). AllByRecursion (IsBefore (first + length files)) xs) (sym c.in_ok-exports.ensures.exports) (exports_before set.spaces c.args.exporter (first + length files) below) in
    let all = subst (λ (ps : List PartTree). AreSupplied first ps exports) (sym parts)
    (are_supplied set (c.links_lead_earlier.ensures set) first files exports (subst AreTexts parts c.in_ok-parts.ensures.texts) (are_supplies (first + length files) exports c.in_ok-exports.ensures.texts before)) in
    subst (λ (n : ℕ). AreSupplied n (map part_tree c.in_ok-parts.parts.items) exports) c.first_part-first.ensures all
