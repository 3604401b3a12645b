use Rattle.std.proofs.Common.{◌≡◌, ◌∙◌, [], List, ap}
use Rattle.cm_names.specs.Keys.{Key, first_key}
use Rattle.cm_validate_functions.specs.Used.{lower_allocator}
use Rattle.cm_validate_functions.proofs.KeyLaws.{found_by_number}
use Rattle.cm_validate_functions.proofs.using.Uses.allocating.Goals as goal

pub returns : goal.returns
returns c = λ s are. c.find.ensures ∙ ap (λ (ks : List Key). first_key ks c.args.func []) are.allocators_are ∙ found_by_number lower_allocator c.args.func s.core_funcs
