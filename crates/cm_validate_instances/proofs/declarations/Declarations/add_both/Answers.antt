use Rattle.std.proofs.Common.{is_ok, sym, subst}
use Rattle.cm_validate_instances.proofs.MovedLaws.{AreKnown, AreThere, around_before, known_in, known_more, there_in, there_more}
use Rattle.cm_validate_instances.proofs.PropLaws.{moved_known}
use Rattle.cm_validate_instances.proofs.declarations.Declarations.add_both.Goals as goal

pub invariant_of-self : goal.invariant_of-self
invariant_of-self c =
    let d = c.args.self.now in
    record {
      counted = d.counted;
      items_placed = subst (AreThere d.scope) (sym c.reserve.ensures.items) d.items_placed;
      moved_counted = d.moved_counted;
      items_settled = subst (AreKnown d.first d.scope) (sym c.reserve.ensures.items) d.items_settled;
    }

pub invariant_of-self-in-Break-branch-3 : goal.invariant_of-self-in-Break-branch-3
invariant_of-self-in-Break-branch-3 c =
    let d = c.args.self.now in
    let t = c.add.new.self in
    let items = c.reserve.new.self.items in
    record {
      counted = d.counted;
      items_placed = there_in d.scope t c.add.ensures.types c.add.ensures.funcs items (subst (AreThere d.scope) (sym c.reserve.ensures.items) d.items_placed);
      moved_counted = ∣ (λ a.
          let before = around_before d.first d.scope t c.add.ensures.around a in
          c.add.ensures.moved d.first (c.requires.moved before) (moved_known d.first d.scope d.moved_counted before)) ∣₁;
      items_settled = known_in d.scope t c.add.ensures.types c.add.ensures.funcs d.first items c.add.ensures.around (subst (AreKnown d.first d.scope) (sym c.reserve.ensures.items) d.items_settled);
    }

pub invariant_of-self-2 : goal.invariant_of-self-2
invariant_of-self-2 c =
    let d = c.args.self.now in
    let t = c.add.new.self in
    let before = c.reserve.new.self.items in
    let items = c.push.new.self.items in
    record {
      counted = d.counted;
      items_placed = there_in d.scope t c.add.ensures.types c.add.ensures.funcs items
          (there_more d.scope (is_ok c.push.result) before items _ c.push.ensures.items (subst (AreThere d.scope) (sym c.reserve.ensures.items) d.items_placed) c.requires.placed);
      moved_counted = ∣ (λ a.
          let around = around_before d.first d.scope t c.add.ensures.around a in
          c.add.ensures.moved d.first (c.requires.moved around) (moved_known d.first d.scope d.moved_counted around)) ∣₁;
      items_settled = known_in d.scope t c.add.ensures.types c.add.ensures.funcs d.first items c.add.ensures.around
          (known_more d.scope (is_ok c.push.result) before items _ c.push.ensures.items d.first (subst (AreKnown d.first d.scope) (sym c.reserve.ensures.items) d.items_settled) c.requires.settled);
    }
