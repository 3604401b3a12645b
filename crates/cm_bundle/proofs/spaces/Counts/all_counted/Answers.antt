use Rattle.std.proofs.Common.{List, sym, ap, ◌∙◌, arith, get_or}
use Rattle.cm_bundle.specs.Spelled.{all_counted, exports_of}
use Rattle.cm_bundle.specs.Trees.{SupplyTree, supply_tree}
use Rattle.cm_bundle.proofs.Counting.{counted_within}
use Rattle.cm_bundle.proofs.Items.{no_supply, next_here}
use Rattle.cm_bundle.proofs.spaces.Counts.all_counted.Goals as goal

pub counted-counts-requires : goal.counted-counts-requires
counted-counts-requires c =
    let i = c.loop-supply.invariant in
    (omega (arith, i.1, c.requires.0, c.loop-supply-test.true), omega (arith, i.2, c.requires.1, c.loop-supply-test.true))

pub loop-supply-preserved : goal.loop-supply-preserved
loop-supply-preserved c =
    let l = c.loop-supply in
    let i = l.invariant in
    let n = next_here supply_tree c.args.supplies.now l.supply-index no_supply c.loop-supply-test.true in
    let w = counted_within l.counts (get_or c.args.supplies.now l.supply-index no_supply).export.sort in
    rw c.counted-counts.ensures (
      sym (ap (λ (ys : List SupplyTree). all_counted l.counts (exports_of ys)) n) ∙ i.0,
      omega (arith, i.1, w.0),
      omega (arith, i.2, w.1),
    )
