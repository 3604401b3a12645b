use Rattle.cm_wit_signature.proofs.members.add_item.Goals as goal

pub returns-in_ok-add_used-in-Use-clause-fronted : goal.returns-in_ok-add_used-in-Use-clause-fronted
returns-in_ok-add_used-in-Use-clause-fronted c = λ h. record {
  plain = h.plain;
  each = c.in_ok-add_used-in-Use.ensures.fronted c.args.out.now.fronts.items h.each;
}
