use Rattle.std.proofs.Common.{[], refl}
use Rattle.cm_binary_model.specs.Trees.{lift}
use Rattle.cm_validate_core.proofs.CanonLaws.{canon_done, no_more_funcs}
use Rattle.cm_validate_core.proofs.spaces.CoreSpaces.add_lift.Goals as goal

pub returns-clause-added : goal.returns-clause-added
returns-clause-added c = λ made s f ty r.
    canon_done made c.args.self.now c.memory_after-self.result s (lift f c.args.options.now ty) [] (no_more_funcs made c.args.self.now s r) refl
    (c.memory_after-self.ensures.memory made s r) (c.memory_after-self.ensures.numbered made s r)
