use Rattle.std.proofs.Common.{◌≡◌, ◌<◌, ◌^◌, drop}
use Rattle.cm_values.specs.Words.{read_on}
use Rattle.cm_values.proofs.numbers.digits_value.Given as goal

abbrev pub invariant-loop-digit : goal.invariant-loop-digit
invariant-loop-digit l = record {
  fits : l.number < 2 ^ 64;
  same : read_on l.base 0 l.digits ≡ read_on l.base l.number (drop l.digit-index l.digits);
}
