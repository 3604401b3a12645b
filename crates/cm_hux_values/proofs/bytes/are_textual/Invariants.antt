use Rattle.std.proofs.Common.{◌≡◌}
use Rattle.std.specs.List.{list_all}
use Rattle.cm_hux_values.specs.Texts.{is_textual}
use Rattle.cm_hux_values.proofs.bytes.are_textual.Given as goal

-- whether texts have these characters
abbrev pub invariant-loop-c : goal.invariant-loop-c
invariant-loop-c l = l.all ≡ list_all is_textual l.yielded
