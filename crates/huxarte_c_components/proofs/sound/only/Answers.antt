use Rattle.std.proofs.Common.{◌∙◌, ap, sym, map}
use Rattle.cm_validate_spaces.specs.Checked.{sections_in}
use Rattle.huxarte_c_components.proofs.OnlyLaws.{last_of_one}
use Rattle.huxarte_c_components.proofs.sound.only.Goals as goal

pub returns-in-Some : goal.returns-in-Some
returns-in-Some c = λ d one.
    last_of_one sections_in d c.pop.new.self.items c.in-Some.component (ap (map sections_in) (sym c.in-Some.ensures.items) ∙ one)
