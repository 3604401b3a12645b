use Rattle.std.proofs.Common.{◌∙◌, ap}
use Rattle.cm_types.specs.Types.{fixed_list}
use Rattle.cm_layout.specs.declared.layouts.Layout.{out-Layout}
use Rattle.cm_layout.specs.declared.layouts.Form.TheViews as view
use Rattle.cm_layout.specs.Layouts.{layout_of}
use Rattle.cm_layout.specs.Shapes.{fixed_list_shape}
use Rattle.cm_layout.proofs.HeadLaws.{fixed_list_taken, fixed_list_room}
use Rattle.cm_layout.proofs.LayoutLemmas.{made, taken_by, seen_form_FixedList}
use Rattle.cm_layout.proofs.layouts.Layout.fixed_list.Goals as goal

pub repeated-head-requires-clause-fits : goal.repeated-head-requires-clause-fits
repeated-head-requires-clause-fits c = (fixed_list_room c.requires.0 c.args.length (out-Layout c.args.element).head c.requires.1 (taken_by c.requires.0 c.args.element c.requires.2)).0

pub repeated-head-requires-clause-narrow : goal.repeated-head-requires-clause-narrow
repeated-head-requires-clause-narrow c = (fixed_list_room c.requires.0 c.args.length (out-Layout c.args.element).head c.requires.1 (taken_by c.requires.0 c.args.element c.requires.2)).1

pub returns : goal.returns
returns c t e =
    let b = c.in_ok-element.element in
    let n = c.args.length in
    let h = c.repeated-head.ensures in
    made (fixed_list t n) c.repeated-head.result (view.FixedList b n)
    (fixed_list_taken t n (out-Layout c.args.element).head c.repeated-head.result (taken_by t c.args.element e) h.size h.align h.width h.is_bulk)
    (seen_form_FixedList b n ∙ ap (λ l. fixed_list_shape (layout_of l).head (layout_of l).shape n) c.in_ok-element.ensures.ok ∙ ap (λ l. fixed_list_shape l.head l.shape n) e)
