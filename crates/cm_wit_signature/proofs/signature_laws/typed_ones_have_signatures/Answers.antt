use Rattle.cm_wit_tables.specs.Worlds.{instances, declarations}
use Rattle.cm_wit_worlds.specs.Interfaces.{interfaces}
use Rattle.std.proofs.Common.{length}
use Rattle.cm_wit_signature.proofs.WorldLaws.{signature_there}
use Rattle.cm_wit_signature.proofs.signature_laws.typed_ones_have_signatures.Goals as goal

pub returns : goal.returns
returns c = λ fs w into out table typed acyclic solves.
    let ds = declarations fs (instances (length (interfaces fs)) into out) in
    let r = c.acyclic_ones_can_be_ranked.ensures ds acyclic in
    let whole = (c.each_stands_where_names_lead.ensures ds table acyclic solves).0 typed.of_declarations in
    signature_there fs w into out table typed whole (λ k h. (c.resources_stand_for_resources.ensures ds r.0 table k r.1 solves).0 h)
