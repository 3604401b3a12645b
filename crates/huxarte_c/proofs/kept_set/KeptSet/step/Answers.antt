use Rattle.std.proofs.Common.{refl}
use Rattle.huxarte_c.proofs.kept_set.KeptSet.step.Goals as goal

pub returns-in-Ok-clause-written : goal.returns-in-Ok-clause-written
returns-in-Ok-clause-written c = record {
  written = c.in-Ok.written;
  instance_is = refl;
  regions_are = refl;
  tells = rw (← c.self.view_is) c.in-Ok.ensures.told;
}
