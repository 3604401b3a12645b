use Rattle.std.proofs.Common.{rules, ◌≡◌, ◌∙◌, List, Some, ap, sym, slice_get}
use Rattle.cm_types.specs.Types.{FuncTy}
use Rattle.cm_layout.specs.declared.flat_funcs.Side.TheVariants.{Lower}
use Rattle.cm_types_arena.specs.Placed.{placed_func}
use Rattle.cm_validate_model.specs.Definitions.{lowered}
use Rattle.cm_validate_spaces.specs.Checked.{funcs_in, spaces_in}
use Rattle.cm_validate_functions.specs.CoreTypes.{flat_type}
use Rattle.cm_validate_functions.proofs.FlatLaws.{lowered_kind}
use Rattle.cm_validate_functions.proofs.functions.Functions.kinds.Goals as goal

pub returns-in_ok-flat_type-in-Some-Made-Lowered : goal.returns-in_ok-flat_type-in-Some-Made-Lowered
returns-in_ok-flat_type-in-Some-Made-Lowered c =
    let checked = c.args.self.now.checked.now in
    let m = c.in-Some-Made-Lowered in
    let at : Some (lowered m.field-0-0-0 m.field-0-0-1 (placed_func (funcs_in checked) m.ty) m.field-0-0-3.now) ≡ slice_get (spaces_in checked).core_funcs c.args.index = search rules in
    lowered_kind (spaces_in checked) c.args.index _ _ _ _ _ at (c.in_ok-flat_type-in-Some-Made-Lowered.ensures ∙ ap (λ (fs : List FuncTy). flat_type Lower (placed_func fs m.ty)) c.types.ensures.funcs)
