use Rattle.std.proofs.Common.{ap, map}
use Rattle.cm_shims.specs.Files.{reading_of}
use Rattle.cm_validate_model.specs.Spaces.{spaces_of}
use Rattle.huxarte_c_components.proofs.LinkLaws.{linked_is, unlinked_is}
use Rattle.huxarte_c_components.proofs.linking.plan_of_read.Goals as goal

pub returns-in-Ok-clause-linked : goal.returns-in-Ok-clause-linked
returns-in-Ok-clause-linked c = λ bytes read.
    linked_is c.args.places.now c.args.choices.now bytes (map reading_of c.args.files.now) _ c.plan_of.result read c.in-Ok.ensures.sound (ap (map spaces_of) c.in-Ok.ensures.held) c.plan_of.ensures.linked

pub returns-in-Ok-clause-refused : goal.returns-in-Ok-clause-refused
returns-in-Ok-clause-refused c = λ bytes read.
    unlinked_is c.args.places.now c.args.choices.now bytes (map reading_of c.args.files.now) _ c.plan_of.result read c.in-Ok.ensures.sound (ap (map spaces_of) c.in-Ok.ensures.held) c.plan_of.ensures.refused
