use Rattle.cm_validate_types.specs.TypeScopes.{arena_funcs, arena_types}
use Rattle.cm_validate_instances.proofs.MovedLaws.{around_before, known_in, there_in}
use Rattle.cm_validate_instances.proofs.PropLaws.{moved_known}
use Rattle.cm_validate_instances.proofs.declarations.Declarations.alias.Goals as goal

pub invariant_of-self : goal.invariant_of-self
invariant_of-self c =
    let d = c.args.self.now in
    let t = c.add.new.self in
    record {
      counted = d.counted;
      items_placed = there_in d.scope t c.add.ensures.types c.add.ensures.funcs d.items.items d.items_placed;
      moved_counted = ∣ (λ a.
          let before = around_before d.first d.scope t c.add.ensures.around a in
          c.add.ensures.moved d.first (c.in_ok-entry-in-Some.ensures.moved (arena_types d.scope) (arena_funcs d.scope) d.first (c.in-Some.ensures.moved before)) (moved_known d.first d.scope d.moved_counted before)) ∣₁;
      items_settled = known_in d.scope t c.add.ensures.types c.add.ensures.funcs d.first d.items.items c.add.ensures.around d.items_settled;
    }
