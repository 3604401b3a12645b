use Rattle.std.proofs.Common.{rules, ◌≡◌, ◌∙◌, ◌++◌, ◌∷◌, [], ◌<◌, length, Some, None, slice_get, ap}
use Rattle.cm_types_arena.specs.declared.instances.Item.{Item}
use Rattle.cm_validate_core.specs.NameMaps.{entries_of}
use Rattle.cm_validate.specs.Items.{member_item}
use Rattle.cm_validate.proofs.ItemLaws.{before_end, map_at}
use Rattle.cm_validate.proofs.items.member_items.Goals as goal
use Rattle.cm_validate.proofs.items.member_items.Goals.{in-Some+in_ok-named_item+in_ok-push, in_default}

pub loop-number-preserved : goal.loop-number-preserved
loop-number-preserved c = elim c.match-at.branch [
  | in-Some+in_ok-named_item+in_ok-push w ↦
      let at : slice_get (entries_of c.args.members.now) c.loop-number.number ≡ Some w.in-Some.field-0.now = search rules in
      let made : w.in_ok-named_item.field-0 ≡ member_item w.in-Some.field-0.now = w.in_ok-named_item.ensures in
      let n : w.push.new.self.items ≡ c.loop-number.items.items ++ w.in_ok-named_item.field-0 ∷ [] = search rules in
      ap (λ v. v.items) w.items-is ∙ n ∙ ap (λ (y : Item). c.loop-number.items.items ++ y ∷ []) made
      ∙ map_at member_item (entries_of c.args.members.now) c.loop-number.number w.in-Some.field-0.now c.loop-number.items.items at c.loop-number.invariant
  | in_default w ↦
      let lt : c.loop-number.number < length (entries_of c.args.members.now) = search rules in
      let none : None ≡ slice_get (entries_of c.args.members.now) c.loop-number.number = search rules in
      absurd (before_end (entries_of c.args.members.now) c.loop-number.number lt none)
]
