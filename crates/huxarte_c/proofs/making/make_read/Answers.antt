use Rattle.std.proofs.Common.{ap, map}
use Rattle.cm_shims.specs.Files.{reading_of}
use Rattle.cm_validate_model.specs.Spaces.{spaces_of}
use Rattle.huxarte_c.proofs.SetLaws.{made_is, unmade_is}
use Rattle.huxarte_c.proofs.making.make_read.Goals as goal

pub returns-in-Ok-clause-made : goal.returns-in-Ok-clause-made
returns-in-Ok-clause-made c = λ bytes read.
    made_is (λ b. b.value) c.args.places.now c.args.choices.now bytes (map reading_of c.args.files.now) _ _ c.make_linked.result read c.in-Ok.ensures.sound (ap (map spaces_of) c.in-Ok.ensures.held) c.make_linked.ensures.made

pub returns-in-Ok-clause-refused : goal.returns-in-Ok-clause-refused
returns-in-Ok-clause-refused c = λ bytes read.
    unmade_is c.args.places.now c.args.choices.now bytes (map reading_of c.args.files.now) _ _ c.make_linked.result read c.in-Ok.ensures.sound (ap (map spaces_of) c.in-Ok.ensures.held) c.make_linked.ensures.refused
