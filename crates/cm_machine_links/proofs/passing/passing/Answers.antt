use Rattle.cm_layout.specs.Layouts.{layout_of}
use Rattle.cm_abi_model.specs.Ways.{way_of}
use Rattle.cm_types_arena.specs.Places.{funcs_of}
use Rattle.cm_types_arena.specs.TypeDefs.{func_at}
use Rattle.cm_types_arena.specs.Replaced.{replaced_func}
use Rattle.cm_machine_links.specs.Standing.{passed_fields}
use Rattle.cm_machine_links.specs.declared.passing.TheConstants.{MAX_LISTED_NODES}
use Rattle.cm_machine_links.proofs.PassingFacts.{kinds_that_way, steps_kept}
use Rattle.cm_machine_links.proofs.passing.passing.Goals as goal

pub tuple_program-requires-clause-tuple : goal.tuple_program-requires-clause-tuple
tuple_program-requires-clause-tuple c =
    let s = c.requires.laid.0 in
    (s, c.requires.programs s c.requires.laid.1, c.in_ok-layout.ensures s c.requires.laid.1)

pub returns : goal.returns
returns c = λ s laid. record {
  layout_is = c.in_ok-layout.ensures s laid;
  kinds_are = kinds_that_way c.passing_stays.ensures.kinds s (func_at (funcs_of c.args.types.now) c.args.func) (way_of c.args.way) c.most_flat.result (layout_of c.in_ok-layout.layout) c.is_spilled-spilled.result
      c.in_ok-flat.flat.items c.in_ok-kinds.kinds.items (c.in_ok-layout.ensures s laid) c.most_flat.ensures c.is_spilled-spilled.ensures c.in_ok-flat.ensures c.in_ok-kinds.ensures;
  steps_are = steps_kept (way_of c.args.way) (passed_fields (replaced_func s (func_at (funcs_of c.args.types.now) c.args.func)) (way_of c.args.way)) c.in_ok-steps.steps MAX_LISTED_NODES c.node_count-nodes.result
      (layout_of c.in_ok-layout.layout) (c.in_ok-layout.ensures s laid) c.in_ok-steps.ensures;
  checks_are = c.in_ok-program.ensures.checks;
  puts_are = c.in_ok-program.ensures.puts;
}
