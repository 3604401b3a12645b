use Rattle.std.proofs.Common.{◌≡◌, ◌++◌, ◌≤◌, drop}
use Rattle.std.specs.String.{string_bytes}
use Rattle.cm_values.specs.Spelling.{set_labels, with_commas}
use Rattle.cm_values.proofs.ListLaws.{from_place}
use Rattle.cm_values.proofs.printed_flags.put_set_labels.Given as goal

abbrev pub invariant-loop-place : goal.invariant-loop-place
invariant-loop-place l = record {
  few : l.written ≤ l.place;
  text : string_bytes l.out ++ from_place l.written (set_labels l.place (drop l.place l.labels) l.bits) ≡ string_bytes l.initial.out ++ with_commas (set_labels 0 l.labels l.bits);
}
