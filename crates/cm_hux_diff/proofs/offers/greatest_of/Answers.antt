use Rattle.std.proofs.Common.{take, subst, arith}
use Rattle.std.specs.Prelude.{filter}
use Rattle.std.proofs.lemmas.List.{take_all}
use Rattle.cm_match_model.specs.Ranges.{exports_named}
use Rattle.cm_match_serving.specs.ExportTables.{HasExports}
use Rattle.cm_hux_diff.specs.Facing.{is_greatest}
use Rattle.cm_hux_diff.proofs.Faces.{greatest_next}
use Rattle.cm_hux_diff.proofs.Places.{read_at}
use Rattle.cm_hux_diff.proofs.offers.greatest_of.Goals as goal

pub loop-place-preserved : goal.loop-place-preserved
loop-place-preserved c =
    let xs = c.args.names.now in
    let x = c.index-names-place.result in
    let n = c.loop-place.place in
    subst (HasExports c.add_greatest.new.kept) (greatest_next xs n x (read_at x xs n c.loop-place-test.true c.index-names-place.is))
    (c.in_ok-add_greatest.ensures (exports_named 0 xs) (filter (is_greatest xs) (exports_named 0 (take n xs))) c.requires c.loop-place.invariant)

pub returns : goal.returns
returns c = subst (λ es. HasExports c.loop-place.kept (filter (is_greatest c.args.names.now) (exports_named 0 es))) (take_all c.loop-place.place c.args.names.now (omega (arith, c.loop-place-test.false))) c.loop-place.invariant
