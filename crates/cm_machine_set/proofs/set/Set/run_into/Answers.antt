use Rattle.std.proofs.Common.{arith, subst, sym, ◌∙◌}
use Rattle.std.proofs.lemmas.Grind.{common_steps}
use Rattle.cm_machine_links.specs.declared.links.Links.{Links}
use Rattle.cm_machine_links.specs.Planned.{ArePlanned}
use Rattle.cm_machine_set.proofs.Runs.{stopped, went_on, ended}
use Rattle.cm_machine_set.proofs.set.Set.run_into.Goals as goal

pub returns-then-last-clause-run : goal.returns-then-last-clause-run
returns-then-last-clause-run c plan planned valid =
    let here : ArePlanned plan c.loop-made.self.links = subst (λ (x : Links). ArePlanned plan x) (sym c.loop-made.invariant.links) planned in
    let step = c.in-Ok.ensures.step plan here (c.loop-made.invariant.valid plan planned valid) in
    stopped plan c.args.self.now.state c.args.moves.now c.loop-made.self.state c.args.moves.now c.loop-made.made-index c.loop-made.events.items (c.loop-made.invariant.told plan planned valid) c.made-item.result c.loop-made-test.true c.made-item.is c.in-Ok.event c.step.new.self.state step c.push.new.self.items c.in-Ok-push.ensures.items cc

pub loop-made-preserved : goal.loop-made-preserved
loop-made-preserved c = record {
  told = λ plan planned valid.
      let here : ArePlanned plan c.loop-made.self.links = subst (λ (x : Links). ArePlanned plan x) (sym c.loop-made.invariant.links) planned in
      let step = c.in-Ok.ensures.step plan here (c.loop-made.invariant.valid plan planned valid) in
      went_on plan c.args.self.now.state c.args.moves.now c.loop-made.self.state c.args.moves.now c.loop-made.made-index c.loop-made.events.items (c.loop-made.invariant.told plan planned valid) c.made-item.result c.loop-made-test.true c.made-item.is c.in-Ok.event c.step.new.self.state step c.push.new.self.items c.in-Ok-push.ensures.items cc;
  valid = λ plan planned valid.
      let here : ArePlanned plan c.loop-made.self.links = subst (λ (x : Links). ArePlanned plan x) (sym c.loop-made.invariant.links) planned in
      c.in-Ok.ensures.valid plan here (c.loop-made.invariant.valid plan planned valid);
  links = c.in-Ok.ensures.planned ∙ c.loop-made.invariant.links;
  room = grind (arith, common_steps);
  stands = λ _. c.in-Ok.ensures.goes_on cc;
}

pub returns-clause-run : goal.returns-clause-run
returns-clause-run c plan planned valid =
    ended plan c.args.self.now.state c.args.moves.now c.loop-made.self.state c.args.moves.now c.loop-made.made-index c.loop-made.events.items (c.loop-made.invariant.told plan planned valid) c.loop-made-test.false
