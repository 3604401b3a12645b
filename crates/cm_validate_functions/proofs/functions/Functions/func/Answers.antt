use Rattle.std.proofs.Common.{◌≡◌, ◌∙◌, List, ℕ, Option, ap, sym}
use Rattle.std.specs.Borrow.{Bor}
use Rattle.std.specs.Option.{option_map}
use Rattle.cm_validate_spaces.specs.Checked.{spaces_in}
use Rattle.cm_validate_functions.specs.Leading.{exported_in}
use Rattle.cm_validate_functions.proofs.functions.Functions.func.Goals as goal

pub returns-in-None-clause-is : goal.returns-in-None-clause-is
returns-in-None-clause-is c = c.own_func.ensures.is ∙ sym (ap (λ (i : Option (Bor (List ℕ))). exported_in (spaces_in c.args.self.now.checked.now) (option_map (λ n. n.now) i) c.args.name.name.now) c.in-None.is)

pub returns-in-Some-clause-is : goal.returns-in-Some-clause-is
returns-in-Some-clause-is c = c.func_in.ensures.is ∙ sym (ap (λ (i : Option (Bor (List ℕ))). exported_in (spaces_in c.args.self.now.checked.now) (option_map (λ n. n.now) i) c.args.name.name.now) c.in-Some.is)
