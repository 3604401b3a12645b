use Rattle.std.proofs.Common.{◌∙◌, Some, slice_get, sym, ap}
use Rattle.cm_lemmas.proofs.Lists.{got}
use Rattle.cm_match.specs.Linked.{components_in}
use Rattle.cm_bundle.proofs.SetRead.{import_read}
use Rattle.cm_bundle.proofs.set_supplies.import_at.Goals as goal

pub returns : goal.returns
returns c =
    let there = ap (λ cs. slice_get cs c.args.component) (sym c.components.ensures.components) ∙ sym (got c.components.result.now c.args.component (Some c.in_ok-get.field-0) c.in_ok-get.ensures.lookup) in
    import_read (components_in c.args.linked.now) c.args.component c.in_ok-get.field-0.now there c.args.import c.imports.result.now c.get-2.result c.imports.ensures.are c.get-2.ensures.lookup
