use Rattle.std.proofs.Common.{◌≡◌, ◌∙◌, [], List, ap}
use Rattle.cm_names.specs.Keys.{Key, first_key}
use Rattle.cm_validate_functions.specs.Used.{destructor_in}
use Rattle.cm_validate_functions.proofs.KeyLaws.{found_by_number}
use Rattle.cm_validate_functions.proofs.using.Uses.destroying.Goals as goal

pub returns : goal.returns
returns c = λ s are. c.find.ensures ∙ ap (λ (ks : List Key). first_key ks c.args.func []) are.destructors_are ∙ found_by_number destructor_in c.args.func s.resources
