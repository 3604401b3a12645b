-- What imported functions come to (how components are linked is this project's own choice).
use Rattle.std.specs.Prelude.{List}
use Rattle.cm_types_arena.specs.Placed.{placed_func}
use Rattle.cm_match_serving.specs.cm_validate_spaces.declared.checked.Checked.{Checked}
use Rattle.cm_match_serving.specs.cm_validate_entries.Entries.{func_def}
use Rattle.cm_match_model.specs.Targets as targets
use Rattle.cm_match_serving.specs.Sets.{funcs_at}
use Rattle.cm_match.specs.declared.following.ServingFunc.{ServingFunc}
use Rattle.cm_match.specs.declared.target.Target.{Target}

-- what a target is
abbrev pub target_def : List Checked → Target → targets.Target
target_def cs t =
    record {
      component = t.component;
      core_func = t.core_func;
      ty = placed_func (funcs_at cs t.component) t.ty;
      options = t.options.now;
    }

-- a function of a component
abbrev pub func_at : List Checked → ServingFunc → targets.FuncAt
func_at cs f =
    record { component = f.component; func = func_def (funcs_at cs f.component) f.func }
