use Rattle.std.proofs.Common.{◌≡◌, ap, arith}
use Rattle.std.specs.List.{sum_by}
use Rattle.cm_binary_model.specs.Limits.{items_in}
use Rattle.cm_validate_spaces.specs.Checked.{sections_in}
use Rattle.cm_machine_links.proofs.Counts.{core_funcs_few}
use Rattle.cm_machine_links.proofs.making.core_func_count.Goals as goal

pub overflow_cast-result : goal.overflow_cast-result
overflow_cast-result c =
    let same : sum_by items_in c.component.result.now ≡ sum_by items_in (sections_in c.args.checked.now) = ap (sum_by items_in) c.component.ensures.component in
    omega (arith, core_funcs_few (sections_in c.args.checked.now), c.core_func_count.ensures, c.sections.ensures.few, same)
