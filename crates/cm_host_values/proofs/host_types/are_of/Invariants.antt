use Rattle.std.proofs.Common.{◌≡◌, drop, length}
use Rattle.cm_host_values.proofs.TypedRows.{Typed}
use Rattle.cm_host_values.proofs.host_types.are_of.Given as goal

-- what is left decides
abbrev pub invariant-loop-i : goal.invariant-loop-i
invariant-loop-i l =
    record {
      count : length l.values ≡ length l.trees;
      onward : Typed l.trees l.values → Typed (drop l.i l.trees) (drop l.i l.values);
      back : Typed (drop l.i l.trees) (drop l.i l.values) → Typed l.trees l.values;
    }
