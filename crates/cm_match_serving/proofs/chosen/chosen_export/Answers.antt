use Rattle.std.proofs.Common.{◌≡◌, ◌∙◌, Some, None, sym, ap, arith, slice_get, option_and_then}
use Rattle.std.specs.Option.{option_map}
use Rattle.cm_validate_spaces.specs.Checked.{spaces_in}
use Rattle.cm_match_serving.specs.Sets.{spaces_of_all}
use Rattle.cm_match_serving.proofs.Found.{name_read}
use Rattle.cm_match_serving.proofs.Rows.{set_at}
use Rattle.cm_match_serving.proofs.Seeing.{export_is, export_is_later}
use Rattle.cm_match_serving.proofs.chosen.chosen_export.Goals as goal
use Rattle.cm_lemmas.proofs.Lists.{got}

pub returns-then-provider-importer : goal.returns-then-provider-importer
returns-then-provider-importer c =
    export_is_later (spaces_of_all c.args.components.now) c.args.importer c.args.link (omega (arith, c.if-provider-importer.true))

pub returns-in_err-get : goal.returns-in_err-get
returns-in_err-get c =
    let cs = c.args.components.now in
    let at = c.args.link.component in
    let none : slice_get cs at ≡ None = sym (got cs at None c.in_err-get.ensures.lookup) in
    let empty = set_at cs at ∙ ap (option_map spaces_in) none in
    export_is (spaces_of_all cs) c.args.importer c.args.link c.from_residual.result (omega (arith, c.if-provider-importer.false))
    (ap (option_map (λ e. e.now.name.now)) c.from_residual.ensures ∙ sym (ap (λ o. option_map (λ e. e.name) (option_and_then (λ s. slice_get s.exports c.args.link.export) o)) empty))

pub returns : goal.returns
returns c =
    let cs = c.args.components.now in
    let at = c.args.link.component in
    let x = c.in_ok-get.field-0.now in
    let there : slice_get cs at ≡ Some x = sym (got cs at (Some c.in_ok-get.field-0) c.in_ok-get.ensures.lookup) in
    export_is (spaces_of_all cs) c.args.importer c.args.link c.get-2.result (omega (arith, c.if-provider-importer.false))
    (name_read cs at x there c.args.link.export c.exports.result.now c.get-2.result c.exports.ensures.are c.get-2.ensures.lookup)
