use Rattle.std.proofs.Common.{◌≡◌, ℕ, map, drop}
use Rattle.std.specs.List.{list_all}
use Rattle.cm_binary_model.specs.Trees.{arg_tree}
use Rattle.cm_validate_model.specs.Definitions.{CoreFuncDef}
use Rattle.cm_validate_model.specs.Spaces.{Spaces}
use Rattle.cm_validate_core.specs.CoreSpaces.{IsCoreOf}
use Rattle.cm_validate_core.specs.Instances.{is_arg_there}
use Rattle.cm_validate_core.proofs.spaces.CoreSpaces.args_are_there.Given as goal

-- those to come are there where all are
abbrev pub invariant-loop-arg : goal.invariant-loop-arg
invariant-loop-arg l =
    (made : ℕ → CoreFuncDef) (s : Spaces) → IsCoreOf made l.self s
    → list_all (is_arg_there s) (map arg_tree (drop l.arg-index l.args)) ≡ list_all (is_arg_there s) (map arg_tree l.args)
