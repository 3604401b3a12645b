use Rattle.std.proofs.Common.{◌≡◌, drop}
use Rattle.cm_machine_parts.specs.Lends.{AreLentAtLeast, tables_after_unlends}
use Rattle.cm_machine_parts.specs.States.{handles_in}
use Rattle.cm_machine_parts.proofs.ends.unlend_all.Given as goal

abbrev pub invariant-loop-lend : goal.invariant-loop-lend
invariant-loop-lend l = record {
  lent : AreLentAtLeast (drop l.lend-index l.lends) (handles_in l.tables.items);
  ended : tables_after_unlends (drop l.lend-index l.lends) (handles_in l.tables.items) ≡ tables_after_unlends l.lends (handles_in l.fn.tables.items);
}
