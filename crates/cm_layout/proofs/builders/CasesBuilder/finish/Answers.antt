use Rattle.std.proofs.Common.{◌≡◌, ◌∙◌, ap, map, arith}
use Rattle.cm_types.specs.Types.{cases}
use Rattle.cm_layout.specs.declared.layouts.Form.TheViews as view
use Rattle.cm_layout.specs.Shapes.{cases_shape, payloads_from, payloads_of}
use Rattle.cm_layout.specs.Sizes.{case_count, discriminant_size}
use Rattle.cm_layout.specs.Layouts.{payload_of}
use Rattle.cm_layout.proofs.HeadLaws.{cases_taken, cases_all_taken}
use Rattle.cm_layout.proofs.LayoutLemmas.{made, seen_form_Cases, all_payloads, count_payloads, cases_shape_is}
use Rattle.cm_layout.proofs.builders.CasesBuilder.finish.Goals as goal

pub whole-requires-clause-fits : goal.whole-requires-clause-fits
whole-requires-clause-fits c = omega (arith, (cases_all_taken c.requires.0 c.args.self.so_far c.requires.1.numbers).small, c.requires.1.numbers.room)

pub whole-requires-clause-narrow : goal.whole-requires-clause-narrow
whole-requires-clause-narrow c = omega (arith, (cases_all_taken c.requires.0 c.args.self.so_far c.requires.1.numbers).narrow, c.requires.1.numbers.room)

pub returns : goal.returns
returns c k all b =
    let v = c.in_ok-new.field-0 in
    let d = c.discriminant_size-discriminant.result in
    let o = c.offset.result in
    let xs = c.args.self.payloads.items in
    let g = cases_all_taken all c.args.self.so_far b.numbers in
    let ps = all_payloads xs (payloads_of all) b.payloads in
    let disc : d ≡ discriminant_size (case_count all) = c.discriminant_size-discriminant.ensures.value ∙ ap discriminant_size (c.len.ensures ∙ c.args.self.payloads.ok.0 ∙ count_payloads xs all ps) in
    made (cases k all) c.whole.result (view.Cases d o v)
    (cases_taken k all c.args.self.so_far d c.whole.result g disc c.whole.ensures.size c.whole.ensures.align c.whole.ensures.width c.whole.ensures.is_bulk)
    (seen_form_Cases d o v ∙ ap (λ w. cases_shape d o (payloads_from (map payload_of w.items))) c.in_ok-new.ensures.ok
    ∙ cases_shape_is k all c.args.self.so_far d o (map payload_of xs) g disc c.offset.ensures.value ps)
