use Rattle.std.proofs.Common.{◌≡◌, ◌+◌, ◌≤◌, ◌++◌, drop, length, vec_len}
use Rattle.std.specs.Prelude.{vec_capacity}
use Rattle.cm_machine_model.specs.State.{lends_to}
use Rattle.cm_machine_parts.proofs.lends.add_to.Given as goal

abbrev pub invariant-loop-index : goal.invariant-loop-index
invariant-loop-index l = record {
  added : l.lends.items ++ lends_to l.frame l.instance (drop l.index-index l.indices) ≡ l.fn.lends.items ++ lends_to l.frame l.instance l.indices;
  room : vec_len l.lends + length (drop l.index-index l.indices) ≤ vec_capacity l.lends;
}
