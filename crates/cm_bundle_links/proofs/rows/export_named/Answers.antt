use Rattle.std.proofs.Common.{◌∙◌, None, Some, sym}
use Rattle.cm_lemmas.proofs.Lists.{got}
use Rattle.cm_bundle.specs.Trees.{export_tree}
use Rattle.cm_bundle_links.proofs.TableLaws.{found_there, missing_there}
use Rattle.cm_bundle_links.proofs.rows.export_named.Goals as goal

pub returns-in-Some-clause-named : goal.returns-in-Some-clause-named
returns-in-Some-clause-named c set tables =
    let there = sym (got c.args.before.now c.args.component (Some c.in-Some.table) c.in-Some.ensures.lookup) in
    rw c.sort_number.ensures at c.find.ensures ∙ found_there set c.args.before.now c.args.component c.in-Some.table.now _ c.args.export.name.now tables there

pub returns-in-None-clause-named : goal.returns-in-None-clause-named
returns-in-None-clause-named c set tables =
    missing_there set c.args.before.now c.args.component (export_tree c.args.export) tables (sym (got c.args.before.now c.args.component None c.in-None.ensures.lookup))
