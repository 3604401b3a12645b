use Rattle.std.proofs.Common.{rules}
use Rattle.cm_validate_functions.proofs.functions.Functions.of.Goals as goal

pub invariant_of-result : goal.invariant_of-result
invariant_of-result c = record {
  counted = search rules;
  named = ∣ c.in_ok-names.ensures ∣₁;
  kept = ∣ c.in_ok-lifts.ensures ∣₁;
  used = ∣ c.in_ok-uses.ensures ∣₁;
}
