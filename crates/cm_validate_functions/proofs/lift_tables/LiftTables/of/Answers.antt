use Rattle.std.proofs.Common.{◌≡◌, ◌∙◌, [], ap, map}
use Rattle.cm_names.specs.Keys.{key_view}
use Rattle.cm_lemmas.proofs.Lists.{mapped_twice}
use Rattle.cm_validate_spaces.specs.Checked.{funcs_in}
use Rattle.cm_validate_functions.specs.Kept.{lift_def}
use Rattle.cm_validate_functions.specs.declared.lifts.Lift.{Lift}
use Rattle.cm_validate_functions.specs.Lifts.{allocating, lifting, post_return}
use Rattle.cm_validate_functions.specs.Options.{first_in, post_return_in, realloc_in}
use Rattle.cm_validate_functions.specs.Tables.{number_key, use_key}
use Rattle.cm_validate_functions.proofs.lift_tables.LiftTables.of.Goals as goal

pub returns : goal.returns
returns c =
    let funcs = funcs_in c.args.checked.now in
    let lifts = c.in_ok-lifts.lifts.items in
    let lifted = c.in_ok-of_lifted.ensures ∙ ap (map (λ (l : Lift). (l.core_func, []))) c.deref.ensures.value in
    let returned = c.in_ok-of_post_returns.ensures ∙ ap (map (λ (l : Lift). number_key (first_in post_return_in l.options.now))) c.deref-2.ensures.value in
    let allocated = c.in_ok-of_allocators.ensures ∙ ap (map (λ (l : Lift). number_key (first_in realloc_in l.options.now))) c.deref-3.ensures.value in
    record {
      firsts = c.in_ok-lifts.ensures;
      lifted_are = c.in_ok-lifted.ensures ∙ lifted ∙ mapped_twice (use_key lifting) (lift_def funcs) lifts;
      post_returns_are = c.in_ok-post_returns.ensures ∙ returned ∙ mapped_twice (use_key post_return) (lift_def funcs) lifts;
      allocators_are = c.in_ok-allocators.ensures ∙ allocated ∙ mapped_twice (use_key allocating) (lift_def funcs) lifts;
    }
