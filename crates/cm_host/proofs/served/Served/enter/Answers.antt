use Rattle.std.proofs.Common.{ap, sym, subst, ◌∙◌}
use Rattle.cm_host.specs.Serving.{EntersAt, place_of}
use Rattle.cm_host.proofs.served.Served.enter.Goals as goal

pub returns-in-Some-clause-enters : goal.returns-in-Some-clause-enters
returns-in-Some-clause-enters g c =
    subst (λ o. EntersAt g.S.Service.does c.args.self.now o c.args.slots.now c.args.memory.now c.enter_at.result c.enter_at.new.self)
    (sym (sym (c.place_of.ensures ∙ ap (λ es. place_of es c.args.core_func) c.deref.ensures.value) ∙ c.in-Some.is)) c.enter_at.ensures.enters
