use Rattle.std.proofs.Common.{rules, ◌≡◌, ◌∙◌, ◌<◌, length, map, Some, None, slice_get, ap}
use Rattle.cm_validate_core.specs.NameMaps.{entries_of}
use Rattle.cm_validate_functions.specs.Kept.{lift_def}
use Rattle.cm_validate_functions.proofs.KeyLaws.{before_end}
use Rattle.cm_validate_functions.proofs.LiftLaws.{members_next}
use Rattle.cm_validate_functions.proofs.lifts.add_members.Goals as goal
use Rattle.cm_validate_functions.proofs.lifts.add_members.Goals.{in-Some+in_ok-add_member, in_default}

pub loop-number-preserved : goal.loop-number-preserved
loop-number-preserved c = elim c.match-at.branch [
  | in-Some+in_ok-add_member w ↦ λ types funcs.
      let at : slice_get (entries_of c.args.members.now) c.loop-number.number ≡ Some w.in-Some.field-0.now = search rules in
      ap (λ v. map (lift_def funcs) v.items) w.lifts-is
      ∙ w.in_ok-add_member.ensures types funcs
      ∙ members_next c.args.export types funcs (entries_of c.args.members.now) c.loop-number.number w.in-Some.field-0.now _ (map (lift_def funcs) c.loop-number.lifts.items) at (c.loop-number.invariant types funcs)
  | in_default w ↦
      let lt : c.loop-number.number < length (entries_of c.args.members.now) = search rules in
      let none : None ≡ slice_get (entries_of c.args.members.now) c.loop-number.number = search rules in
      absurd (before_end (entries_of c.args.members.now) c.loop-number.number lt none)
]
