use Rattle.std.proofs.Common.{◌∙◌, ap, sym, subst, List, map}
use Rattle.cm_types_arena.specs.declared.entries.TypeEntry.{TypeEntry}
use Rattle.cm_types_arena.specs.Arena.{types_in}
use Rattle.cm_types_arena.specs.TypeDefs.{field_def_type}
use Rattle.cm_types_arena.proofs.FuncLaws.{params_within, params_spelled}
use Rattle.cm_types_arena.proofs.types.Types.build_func.Goals as goal

pub invariant_of-func : goal.invariant_of-func
invariant_of-func c =
    let es = c.args.self.now.entries.items in
    let made = c.in_ok-params.ensures ∙ ap (λ (xs : List TypeEntry). map (field_def_type (types_in xs)) c.args.def.params.items) c.deref.ensures.value in
    record {
      within_limits = params_within (types_in es) c.args.def c.in_ok-params.params.items made c.requires.within;
      spellable = params_spelled es c.args.def c.in_ok-params.params.items c.args.self.now.arena c.requires.parts made;
    }
