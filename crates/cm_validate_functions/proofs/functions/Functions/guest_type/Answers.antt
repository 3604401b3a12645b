use Rattle.std.proofs.Common.{rules, ◌≡◌, ◌∙◌, List, Some, None, ap}
use Rattle.cm_types.specs.Types.{FuncTy}
use Rattle.cm_types_arena.specs.Placed.{placed_func}
use Rattle.cm_validate_spaces.specs.Checked.{funcs_in, spaces_in}
use Rattle.cm_validate_functions.specs.CoreTypes.{post_return_type}
use Rattle.cm_validate_functions.specs.Kept.{lift_def}
use Rattle.cm_validate_functions.specs.Lifts.{first_use, lifting, post_return}
use Rattle.cm_validate_functions.proofs.FlatLaws.{by_post_return}
use Rattle.cm_validate_functions.proofs.functions.Functions.guest_type.Goals as goal

pub returns-in-Some-post_return_of : goal.returns-in-Some-post_return_of
returns-in-Some-post_return_of c =
    let checked = c.args.self.now.checked.now in
    let s = spaces_in checked in
    let l = lift_def (funcs_in checked) c.in-Some-post_return_of.lift in
    let none : None ≡ first_use lifting s c.args.index = search rules in
    let some : Some l ≡ first_use post_return s c.args.index = search rules in
    by_post_return s c.args.index l _ none some (c.in_ok-post_return_type.ensures ∙ ap (λ (fs : List FuncTy). post_return_type (placed_func fs c.in-Some-post_return_of.lift.ty)) c.types-types.ensures.funcs)
