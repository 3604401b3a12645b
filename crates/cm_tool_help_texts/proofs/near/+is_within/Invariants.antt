use Rattle.std.proofs.Common.{◌+◌, length}
use Rattle.cm_tool_help_texts.proofs.near.+is_within.Given as goal

abbrev pub decreases-is_within : goal.decreases-is_within
decreases-is_within l = length l.word.now + length l.meant.now
