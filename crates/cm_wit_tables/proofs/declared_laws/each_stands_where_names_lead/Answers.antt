use Rattle.cm_wit_tables.proofs.ThereLaws.{all_there, all_lead}
use Rattle.cm_wit_tables.proofs.declared_laws.each_stands_where_names_lead.Goals as goal

pub returns : goal.returns
returns c = λ ds table acyclic solves.
    let r = c.acyclic_ones_can_be_ranked.ensures ds acyclic in
    (all_there ds table solves r.0 r.1, all_lead ds table solves r.0 r.1)
