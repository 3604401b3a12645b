use Rattle.std.proofs.Common.{◌∙◌, map}
use Rattle.cm_shims.specs.Files.{reading_of}
use Rattle.huxarte_c_components.proofs.OnlyLaws.{never, stands}
use Rattle.huxarte_c_components.proofs.sound.check_one.Goals as goal

pub returns-in-Ok-clause-held : goal.returns-in-Ok-clause-held
returns-in-Ok-clause-held c = λ b read.
    (stands b (map reading_of c.args.files.now) c.only.result read c.in-Ok.ensures.sound (λ d one. c.only.ensures d (c.in-Ok.ensures.held ∙ one))).0

pub returns-in-Ok-clause-refused : goal.returns-in-Ok-clause-refused
returns-in-Ok-clause-refused c = λ b read.
    never b c.only.result (stands b (map reading_of c.args.files.now) c.only.result read c.in-Ok.ensures.sound (λ d one. c.only.ensures d (c.in-Ok.ensures.held ∙ one))).1
