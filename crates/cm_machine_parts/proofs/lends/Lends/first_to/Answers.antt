use Rattle.std.proofs.Common.{List, sym, subst, ◌∙◌}
use Rattle.cm_machine_model.specs.declared.frame.Lend.{Lend}
use Rattle.cm_machine_parts.specs.Lends.{NoneAbove}
use Rattle.cm_machine_parts.proofs.lends.Lends.first_to.Goals as goal

pub first_to-requires-clause-above : goal.first_to-requires-clause-above
first_to-requires-clause-above c =
    subst (λ (ls : List Lend). NoneAbove c.args.frame ls) (sym (c.deref.ensures.value ∙ c.self.view_is)) c.requires
