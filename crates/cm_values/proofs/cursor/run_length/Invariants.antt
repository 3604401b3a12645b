use Rattle.std.proofs.Common.{◌≡◌, drop, take, ◌++◌}
use Rattle.cm_values.specs.Grammar.{run_behind, run_front}
use Rattle.cm_values.specs.Words.{belongs}
use Rattle.cm_values.proofs.cursor.run_length.Given as goal

abbrev pub invariant-loop-count : goal.invariant-loop-count
invariant-loop-count l = record {
  front : run_front (belongs l.kind) l.text ≡ take l.count l.text ++ run_front (belongs l.kind) (drop l.count l.text);
  behind : run_behind (belongs l.kind) l.text ≡ run_behind (belongs l.kind) (drop l.count l.text);
}
