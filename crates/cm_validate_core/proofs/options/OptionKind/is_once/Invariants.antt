use Rattle.std.proofs.Common.{◌≡◌, drop}
use Rattle.cm_validate_model.specs.Options.{is_once}
use Rattle.cm_validate_core.specs.Kinds.{is_of_kind}
use Rattle.cm_validate_core.proofs.OptionLaws.{once_more}
use Rattle.cm_validate_core.proofs.options.OptionKind.is_once.Given as goal

-- what is to come holds so many more of the kind where all hold one at most
abbrev pub invariant-loop-option : goal.invariant-loop-option
invariant-loop-option l =
    once_more (is_of_kind l.self) l.seen (drop l.option-index l.options)
    ≡ is_once (is_of_kind l.self) l.options
