use Rattle.std.proofs.Common.{◌≡◌, ◌++◌, length, map, take}
use Rattle.std.specs.List.{flat_map}
use Rattle.cm_leb.specs.NumbersWritten.{shortest_unsigned}
use Rattle.cm_binary.proofs.written.write_vec.Given as goal

abbrev pub invariant-loop-value : goal.invariant-loop-value
invariant-loop-value g l = l.out.items ≡ l.fn.out.items ++ shortest_unsigned (length l.values) ++ flat_map g.T.Part.spelling (map g.T.Part.tree (take l.value-index l.values))
