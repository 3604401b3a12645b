use Rattle.std.proofs.Common.{rules, ◌≡◌, ◌+◌, cond, arith, ap, sym, ◌∙◌}
use Rattle.cm_wit_tables.specs.DeclaredViews.{declaration_view}
use Rattle.cm_wit_tables.proofs.IdLaws.{numbered_push, numbered_all}
use Rattle.cm_wit_tables.proofs.resources.resource_ids.Goals as goal
use Rattle.cm_wit_tables.proofs.resources.resource_ids.Goals.{then-declares_resource, else-declares_resource}

pub loop-declaration-preserved : goal.loop-declaration-preserved
loop-declaration-preserved c =
    let next : c.if-declares_resource.number ≡ c.loop-declaration.number + cond c.declares_resource.result 1 0 = elim c.if-declares_resource.branch [
      | then-declares_resource w ↦ w.number-is ∙ ap (λ b. c.loop-declaration.number + cond b 1 0) (sym w.if-declares_resource.true)
      | else-declares_resource w ↦ w.number-is ∙ (let z : c.loop-declaration.number ≡ c.loop-declaration.number + 0 = omega arith in z) ∙ ap (λ b. c.loop-declaration.number + cond b 1 0) (sym w.if-declares_resource.false)
    ] in
    numbered_push declaration_view c.args.declarations.now c.loop-declaration.declaration-index c.loop-declaration.number c.if-declares_resource.number c.loop-declaration.ids.items c.push.new.self.items c.declaration-item.result c.declares_resource.result (omega arith) c.declaration-item.is c.declares_resource.ensures next (search rules) c.loop-declaration.invariant

pub returns-clause-numbered : goal.returns-clause-numbered
returns-clause-numbered c = numbered_all declaration_view c.args.declarations.now c.loop-declaration.declaration-index c.loop-declaration.number c.loop-declaration.ids.items (omega arith) (omega arith) c.loop-declaration.invariant
