use Rattle.std.proofs.Common.{◌≡◌}
use Rattle.std.specs.Prelude.{take}
use Rattle.cm_match_serving.specs.Sets.{sections_of}
use Rattle.cm_stubs_files.proofs.read_back.valid_all.Given as goal

abbrev pub invariant-loop-at : goal.invariant-loop-at
invariant-loop-at l = sections_of l.all.items ≡ take l.at l.fn.components
