use Rattle.std.proofs.Common.{◌≡◌, ◌∙◌, List, ℕ, Option, ap, sym}
use Rattle.std.specs.Borrow.{Bor}
use Rattle.std.specs.Option.{option_map}
use Rattle.cm_validate_functions.specs.Leading.{lowered_in}
use Rattle.cm_validate_functions.proofs.leading.Names.lowered.Goals as goal

pub returns-in-None : goal.returns-in-None
returns-in-None c = λ s are. c.lowered_func.ensures s are ∙ sym (ap (λ (i : Option (Bor (List ℕ))). lowered_in s (option_map (λ n. n.now) i) c.args.name.name.now) c.in-None.is)

pub returns-in-Some : goal.returns-in-Some
returns-in-Some c = λ s are. c.lowered_item.ensures s are ∙ sym (ap (λ (i : Option (Bor (List ℕ))). lowered_in s (option_map (λ n. n.now) i) c.args.name.name.now) c.in-Some.is)
