use Rattle.std.proofs.Common.{◌∙◌, ap, sym}
use Rattle.cm_layout.specs.Layouts.{payload_of}
use Rattle.cm_layout.proofs.LayoutLemmas.{seen_Carried, carried_greatest}
use Rattle.cm_layout.proofs.layouts.Payload.so_far.Goals as goal

pub returns-in-Carried : goal.returns-in-Carried
returns-in-Carried c t e =
    carried_greatest t c.in-Carried.layout c.none-in-Carried.result c.with.result (sym (ap payload_of c.in-Carried.is ∙ seen_Carried c.in-Carried.layout) ∙ e)
    c.none-in-Carried.ensures c.with.ensures.size c.with.ensures.align c.with.ensures.width
