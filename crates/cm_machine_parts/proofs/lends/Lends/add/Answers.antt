use Rattle.std.proofs.Common.{List, ◌++◌, sym, ap, subst, ◌∙◌}
use Rattle.cm_machine_model.specs.declared.frame.Lend.{Lend}
use Rattle.cm_machine_model.specs.State.{lends_to}
use Rattle.cm_machine_parts.specs.Lends.{NeverFall, NoneAbove}
use Rattle.cm_machine_parts.proofs.LendLists.{never_fall_more}
use Rattle.cm_machine_parts.proofs.lends.Lends.add.Goals as goal

pub invariant_of-self-2 : goal.invariant_of-self-2
invariant_of-self-2 c =
    let added : List Lend = lends_to c.args.frame c.args.instance c.args.indices.now in
    let above : NoneAbove c.args.frame c.self.inside.lends.items = subst (λ (ls : List Lend). NoneAbove c.args.frame ls) (sym c.self.view_is) c.requires in
    subst NeverFall (sym (c.add_to.ensures ∙ ap (λ (ls : List Lend). ls ++ added) c.reserve.ensures.items)) (never_fall_more c.self.inside.lends.items c.args.frame c.args.instance c.args.indices.now c.self.invariant above)
