use Rattle.std.proofs.Common.{◌≡◌, map, length, sym, ◌∙◌}
use Rattle.std.proofs.lemmas.List.{length-map}
use Rattle.cm_wit_tables.specs.DeclaredViews.{declaration_view}
use Rattle.cm_wit_tables.proofs.OrderLaws.{rows_fit, order_told}
use Rattle.cm_wit_tables.proofs.making.declaration_order.Goals as goal

pub order_of-requires : goal.order_of-requires
order_of-requires c =
    let ds = map declaration_view c.args.declarations.now in
    let n : length c.in_ok-use_rows.field-0.items ≡ length ds = sym c.in_ok-use_rows.field-0.ok.0 ∙ (c.in_ok-use_rows.ensures.len ∙ sym (length-map c.args.declarations.now declaration_view)) in
    rows_fit ds c.in_ok-use_rows.field-0.items c.deref.result.now c.deref.ensures.value c.in_ok-use_rows.ensures.uses n (c.what_is_used_is_declared.ensures ds)

pub returns : goal.returns
returns c =
    let ds = map declaration_view c.args.declarations.now in
    let n : length c.in_ok-use_rows.field-0.items ≡ length ds = sym c.in_ok-use_rows.field-0.ok.0 ∙ (c.in_ok-use_rows.ensures.len ∙ sym (length-map c.args.declarations.now declaration_view)) in
    order_told ds c.in_ok-use_rows.field-0.items c.deref.result.now c.deref.ensures.value c.in_ok-use_rows.ensures.uses n c.order_of.result c.order_of.ensures
