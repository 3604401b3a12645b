use Rattle.cm_validate_model.specs.Spaces.{spaces_of}
use Rattle.cm_validate_spaces.proofs.checking.validate.Goals as goal

pub invariant_of-result : goal.invariant_of-result
invariant_of-result c = record {
  valid = c.in-Ok.ensures.valid.0;
  indexed = ∣ c.into_entries.ensures.entries (spaces_of c.args.component.now) c.in-Ok.ensures.valid.1 ∣₁;
}
