use Rattle.std.proofs.Common.{subst}
use Rattle.std.specs.Option.{option_map}
use Rattle.cm_types.specs.Types.{Fields}
use Rattle.cm_layout.specs.Layouts.{layout_of}
use Rattle.cm_types_arena.specs.Places.{funcs_of}
use Rattle.cm_types_arena.specs.TypeDefs.{func_at}
use Rattle.cm_types_arena.specs.Replaced.{replaced}
use Rattle.cm_abi_model.specs.Views.{results}
use Rattle.cm_machine_model.specs.Plan.{one_field}
use Rattle.cm_machine_parts.specs.Links.{ArePassed}
use Rattle.cm_machine_links.proofs.PassingFacts.{fields_are, pointer_of}
use Rattle.cm_machine_links.proofs.passing.call_types_at.Goals as goal

pub returns-clause-passes : goal.returns-clause-passes
returns-clause-passes c = λ s laid.
    let o = option_map (replaced s) (func_at (funcs_of c.args.types.now) c.args.func).result in
    let are : ArePassed results (one_field o) c.in_ok-results.results = subst (λ (fs : Fields). ArePassed results fs c.in_ok-results.results) (fields_are o) (c.in_ok-results.ensures s laid) in
    record {
      params_are = c.in_ok-params.ensures s laid;
      results_are = are;
      pointer_is = pointer_of (one_field o) (layout_of c.in_ok-results.results.layout) c.is_spilled-has_pointer.result are.layout_is c.is_spilled-has_pointer.ensures;
    }
