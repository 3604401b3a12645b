use Rattle.std.proofs.Common.{◌≡◌, ◌∙◌, List, ap}
use Rattle.cm_names.specs.Keys.{Key, first_key}
use Rattle.cm_validate_functions.proofs.KeyLaws.{found_by_name}
use Rattle.cm_validate_functions.proofs.leading.Names.export.Goals as goal

pub returns : goal.returns
returns c = λ s are. c.find.ensures ∙ ap (λ (ks : List Key). first_key ks 0 c.args.name.now) are.exports_are ∙ found_by_name (λ e. e.name) c.args.name.now s.exports
