use Rattle.std.proofs.Common.{◌∙◌, sym}
use Rattle.cm_types.specs.Types.{cases, enum_type}
use Rattle.cm_types.specs.TypeTrees.{plain_from}
use Rattle.cm_layout.specs.declared.layouts.Form.TheVariants as form
use Rattle.cm_layout.proofs.HeadLaws.{enum_taken}
use Rattle.cm_layout.proofs.LayoutLemmas.{made, seen_form_Enum, enum_shape}
use Rattle.cm_layout.proofs.layouts.Layout.enumeration.Goals as goal

pub returns : goal.returns
returns c names e =
    let d = c.discriminant_size-discriminant.result in
    let n = c.args.count in
    let disc = c.discriminant_size-discriminant.ensures.value in
    made (cases enum_type (plain_from names)) c.unit.result (form.Enum d n) (enum_taken enum_type names n d c.unit.result (sym e) disc c.unit.ensures) (seen_form_Enum d n ∙ enum_shape enum_type names d n disc (sym e))
