use Rattle.std.proofs.Common.{inl, List, ℕ, map}
use Rattle.cm_match.specs.Linked.{set_in}
use Rattle.cm_bundle.specs.Trees.{GroupTree, bundle_tree, group_tree}
use Rattle.cm_bundle.proofs.Kept.{is_fine}
use Rattle.cm_bundle.proofs.bundling.write_set.Goals as goal

pub unreachable-requires : goal.unreachable-requires
unreachable-requires c =
    let set = set_in c.args.linked.now in
    let front : List GroupTree = map group_tree c.args.front.now in
    let files : List (List ℕ) = map (λ f. f.now) c.args.files.now in
    let customs : List (List ℕ) = map (λ x. x.now) c.args.customs.now in
    let many = rw c.in-Err-TooManyParts.field-0-is at c.in-Err-TooManyParts.ensures.refused in
    is_fine set c.components-components.ensures.linked front files c.args.exporter customs (bundle_tree c.in_ok-bundle.bundle) c.in_ok-bundle.ensures.bundle c.requires (inl many)
