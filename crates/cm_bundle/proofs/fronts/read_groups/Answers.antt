use Rattle.std.proofs.Common.{◌∙◌, ◌+◌, ◌-◌, ap, length, map, arith}
use Rattle.std.proofs.lemmas.Result.{err_from_is_err_and}
use Rattle.std.proofs.lemmas.List.{map_push}
use Rattle.cm_lemmas.proofs.Lists.{one_longer}
use Rattle.cm_bundle.specs.Trees.{group_tree}
use Rattle.cm_bundle.proofs.FrontLoops.{groups_more, groups_done, groups_fail, group_fails, groups_end}
use Rattle.cm_bundle.proofs.fronts.read_groups.Goals as goal

pub returns-in_err-next-clause-read : goal.returns-in_err-next-clause-read
returns-in_err-next-clause-read c =
    let l = c.loop in
    let p = err_from_is_err_and c.from_residual.result c.from_residual.ensures.1 in
    rw (p.1, p.2) (groups_fail (1001 - l.counter) (1001 - (l.counter + 1)) (map group_tree l.groups.items) l.bytes.end l.bytes.rest.now c.in_err-next.field-0.0 _ (omega (arith, c.loop-test.true)) c.in_err-next.ensures.read l.invariant.0)

pub returns-in-Instance-clause-read : goal.returns-in-Instance-clause-read
returns-in-Instance-clause-read c =
    let l = c.loop in
    let next = rw c.in-Instance.is at c.in_ok-next.ensures.read in
    groups_done (1001 - l.counter) (1001 - (l.counter + 1)) (map group_tree l.groups.items) l.bytes.end l.bytes.rest.now c.code.new.self.rest.now _ (omega (arith, c.loop-test.true)) next l.invariant.0

pub returns-in_err-group-in-Group-clause-read : goal.returns-in_err-group-in-Group-clause-read
returns-in_err-group-in-Group-clause-read c =
    let l = c.loop in
    let p = err_from_is_err_and c.from_residual-in_err-group-in-Group.result c.from_residual-in_err-group-in-Group.ensures.1 in
    let next = rw c.in-Group.is at c.in_ok-next.ensures.read in
    rw (p.1, p.2) (group_fails (1001 - l.counter) (1001 - (l.counter + 1)) (map group_tree l.groups.items) l.bytes.end c.code.new.self.end l.bytes.rest.now c.code.new.self.rest.now c.in_err-group-in-Group.field-0.0 _ (omega (arith, c.loop-test.true)) c.in_ok-next.ensures.end next c.in_err-group-in-Group.ensures.read l.invariant.0)

pub loop-preserved : goal.loop-preserved
loop-preserved c =
    let l = c.loop in
    let one = c.in_ok-group-in-Group in
    let next = rw c.in-Group.is at c.in_ok-next.ensures.read in
    let pushed = ap (map group_tree) c.in_ok-push-in-Group.ensures.items ∙ map_push group_tree l.groups.items one.group in (
      groups_more (1001 - l.counter) (1001 - (l.counter + 1)) (map group_tree l.groups.items) _ (group_tree one.group) l.bytes.end c.code.new.self.end c.read_group.new.bytes.end l.bytes.rest.now c.code.new.self.rest.now c.read_group.new.bytes.rest.now _ (omega (arith, c.loop-test.true)) pushed c.in_ok-next.ensures.end (one.ensures.end ∙ c.in_ok-next.ensures.end) next one.ensures.read l.invariant.0,
      one.ensures.end ∙ c.in_ok-next.ensures.end ∙ l.invariant.1,
      omega (arith, ap length c.in_ok-push-in-Group.ensures.items, one_longer l.groups.items one.group, l.invariant.2),
    )

pub returns-clause-read : goal.returns-clause-read
returns-clause-read c =
    let l = c.loop in
    rw c.fault.ensures (groups_end (1001 - l.counter) (map group_tree l.groups.items) l.bytes.end l.bytes.rest.now _ (omega (arith, c.loop-test.false)) l.invariant.0)
