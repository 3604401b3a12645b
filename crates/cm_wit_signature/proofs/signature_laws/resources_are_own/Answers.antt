use Rattle.cm_wit_signature.proofs.OwnLaws.{all_own}
use Rattle.cm_wit_signature.proofs.signature_laws.resources_are_own.Goals as goal

pub returns : goal.returns
returns c = λ ds table l acyclic solves.
    let r = c.acyclic_ones_can_be_ranked.ensures ds acyclic in
    all_own ds table solves r.0 r.1 l
