use Rattle.std.proofs.Common.{◌++◌, ◌∷◌, [], ap, ◌∙◌, List}
use Rattle.cm_types_arena.specs.TypeDefs.{func_def_type}
use Rattle.cm_validate_model.specs.Definitions.{TypeDef}
use Rattle.cm_validate_types.specs.declared.entries.TypeEntry.TheVariants as entry
use Rattle.cm_validate_types.specs.Entries.{def_of}
use Rattle.cm_validate_types.specs.TypeScopes.{arena_funcs, arena_types, own_types}
use Rattle.cm_validate_types.proofs.ScopeLaws.{func_added}
use Rattle.cm_validate_types.proofs.StayLaws.{stays_on, func_unmoved}
use Rattle.cm_validate_types.proofs.scope.TypeScope.add_func.Goals as goal

pub returns-clause-added : goal.returns-clause-added
returns-clause-added c =
    let old = c.args.self.now in
    let new = c.push_func.new.self in
    c.in_ok-add.ensures.added
    ∙ ap (λ (ts : List TypeDef). ts ++ def_of (arena_types new) (arena_funcs new) (entry.Func c.at.result) ∷ []) c.push_func.ensures.own
    ∙ ap (λ (d : TypeDef). own_types old ++ d ∷ [])
    (func_added c.unmoved.ensures.funcs (arena_funcs old) (arena_funcs new) (func_def_type (arena_types old) c.args.def) c.at.result c.in-Ok.ensures.pushed (c.at.ensures.place ∙ c.in-Ok.ensures.place) c.at.ensures.by)

pub returns-clause-stays : goal.returns-clause-stays
returns-clause-stays c =
    let pushed = c.push_func.new.self in
    stays_on c.args.self.now pushed c.add.new.self c.push_func.ensures.stays (record {
      settled = c.add.ensures.settled tt;
      moved = λ n. c.add.ensures.moved n (func_unmoved (arena_types pushed) (arena_funcs pushed) c.at.result c.at.ensures.by n);
      around = c.add.ensures.around_entries;
    })

pub returns-in_err-add-clause-stays : goal.returns-in_err-add-clause-stays
returns-in_err-add-clause-stays c =
    let pushed = c.push_func.new.self in
    stays_on c.args.self.now pushed c.add.new.self c.push_func.ensures.stays (record {
      settled = c.add.ensures.settled tt;
      moved = λ n. c.add.ensures.moved n (func_unmoved (arena_types pushed) (arena_funcs pushed) c.at.result c.at.ensures.by n);
      around = c.add.ensures.around_entries;
    })
