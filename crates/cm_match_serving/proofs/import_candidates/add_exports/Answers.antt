use Rattle.std.proofs.Common.{◌++◌, map, take, subst, arith}
use Rattle.cm_lemmas.proofs.Lists.{take_all}
use Rattle.cm_match_serving.specs.ExportTables.{HasExports}
use Rattle.cm_validate_spaces.specs.cm_validate_entries.ComponentSpaces.{export_def}
use Rattle.cm_match_model.specs.Imports.{exports_from}
use Rattle.cm_match_serving.proofs.Rows.{exports_next, read_at}
use Rattle.cm_match_serving.proofs.import_candidates.add_exports.Goals as goal

pub loop-number-preserved : goal.loop-number-preserved
loop-number-preserved c = λ types funcs before has.
    let xs = c.args.entries.now in
    let x = c.index-entries-number.result in
    let n = c.loop-number.number in
    subst (HasExports c.add.new.self) (exports_next before c.args.component (export_def types funcs) xs n x (read_at xs n x c.loop-number-test.true c.index-entries-number.is))
    (c.in_ok-add.ensures.ok (before ++ exports_from c.args.component 0 (map (export_def types funcs) (take n xs))) (c.loop-number.invariant types funcs before has))

pub returns : goal.returns
returns c = λ types funcs before has.
    subst (λ es. HasExports c.loop-number.exports (before ++ exports_from c.args.component 0 (map (export_def types funcs) es)))
    (take_all c.args.entries.now c.loop-number.number (omega (arith, c.loop-number-test.false)))
    (c.loop-number.invariant types funcs before has)
