use Rattle.std.proofs.Common.{take}
use Rattle.std.specs.Fmt.{HasWritten, IsPlainFormatter}
use Rattle.std.specs.List.{flat_map}
use Rattle.cm_tool_lines.specs.EventLines.{value_word}
use Rattle.cm_tool_lines.proofs.events.ValueWordsDisplay.fmt.Given as goal

abbrev pub invariant-loop-value : goal.invariant-loop-value
invariant-loop-value g l =
    IsPlainFormatter l.initial.f → HasWritten g.W.Write.write_str_gives l.initial.f (flat_map value_word (take l.value-index l.value-items)) l.f
