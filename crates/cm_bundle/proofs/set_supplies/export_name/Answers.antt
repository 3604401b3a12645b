use Rattle.std.proofs.Common.{◌≡◌, ◌∙◌, Some, None, rules, slice_get, sym, ap}
use Rattle.std.proofs.lemmas.Str.{is_utf8-from_IsUtf8}
use Rattle.std.specs.Option.{option_map}
use Rattle.cm_lemmas.proofs.Lists.{got}
use Rattle.cm_match.specs.Linked.{components_in}
use Rattle.cm_bundle.proofs.SetRead.{name_read}
use Rattle.cm_bundle.proofs.set_supplies.export_name.Goals as goal

pub returns-in_err-get-2-clause-name : goal.returns-in_err-get-2-clause-name
returns-in_err-get-2-clause-name c =
    let there = ap (λ cs. slice_get cs c.args.component) (sym c.components-components.ensures.components) ∙ sym (got c.components-components.result.now c.args.component (Some c.in_ok-get.field-0) c.in_ok-get.ensures.lookup) in
    let none : c.from_residual-in_err-get-2.result ≡ None = search rules in
    ap (option_map (λ n. n.now)) none ∙ name_read (components_in c.args.linked.now) c.args.component c.in_ok-get.field-0.now there c.args.export c.exports.result.now None c.exports.ensures.are c.in_err-get-2.ensures.lookup

pub returns-clause-name : goal.returns-clause-name
returns-clause-name c =
    let there = ap (λ cs. slice_get cs c.args.component) (sym c.components-components.ensures.components) ∙ sym (got c.components-components.result.now c.args.component (Some c.in_ok-get.field-0) c.in_ok-get.ensures.lookup) in
    ap Some c.as_str.ensures.text
    ∙ name_read (components_in c.args.linked.now) c.args.component c.in_ok-get.field-0.now there c.args.export c.exports.result.now (Some c.in_ok-get-2.field-0) c.exports.ensures.are c.in_ok-get-2.ensures.lookup

pub returns-clause-text : goal.returns-clause-text
returns-clause-text c = is_utf8-from_IsUtf8 _ c.as_str.utf8
