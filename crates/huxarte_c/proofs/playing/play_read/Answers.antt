use Rattle.std.proofs.Common.{[], ap, map}
use Rattle.cm_shims.specs.Files.{reading_of}
use Rattle.cm_validate_model.specs.Spaces.{spaces_of}
use Rattle.huxarte_c_components.proofs.LinkLaws.{linked_is}
use Rattle.huxarte_c.proofs.PlayLaws.{unplayed_is}
use Rattle.huxarte_c.proofs.playing.play_read.Goals as goal

pub returns-in-Ok-clause-linked : goal.returns-in-Ok-clause-linked
returns-in-Ok-clause-linked c = λ bytes read.
    linked_is [] [] bytes (map reading_of c.args.files.now) _ c.play_set.result read c.in-Ok.ensures.sound (ap (map spaces_of) c.in-Ok.ensures.held) c.play_set.ensures.linked

pub returns-in-Ok-clause-refused : goal.returns-in-Ok-clause-refused
returns-in-Ok-clause-refused c = λ bytes read.
    unplayed_is bytes (map reading_of c.args.files.now) _ c.play_set.result read c.in-Ok.ensures.sound (ap (map spaces_of) c.in-Ok.ensures.held) c.play_set.ensures.refused
