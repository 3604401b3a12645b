use Rattle.std.proofs.Common.{◌≡◌, ◌+◌, length, sym, ap, ◌∙◌, arith, subst}
use Rattle.cm_validate_items.specs.Ranges.{range_defs, source_defs}
use Rattle.cm_validate_items.specs.declared.ranges.Range.{Range}
use Rattle.cm_validate_items.proofs.RangeLaws.{FollowFrom, counted, defs_more, follows, one_more, starts}
use Rattle.cm_validate_items.proofs.ranges.Resources.push.Goals as goal

pub invariant_of-self-2 : goal.invariant_of-self-2
invariant_of-self-2 c =
    let old = c.args.self.now in
    let r : Range = record { first = old.count; source = c.args.source } in
    let f : FollowFrom 0 old.ranges.items old.count = follows old.ranges.items 0 old.count old.follow (omega (arith, old.counted)) in
    let end : c.in-Some.count ≡ old.count + length (source_defs c.args.source) = omega (arith, c.in-Some.ensures.0, c.in-Some.ensures.1, c.len.ensures) in
    let more : FollowFrom 0 c.push.new.self.items c.in-Some.count = subst (λ rs. FollowFrom 0 rs c.in-Some.count) (sym c.in_ok-push.ensures.items) (one_more old.ranges.items 0 old.count r c.in-Some.count f (omega arith) end) in
    let all = counted c.push.new.self.items 0 c.in-Some.count more in
    record { follow = starts c.push.new.self.items 0 c.in-Some.count more; counted = omega (arith, all) }

pub returns-clause-added : goal.returns-clause-added
returns-clause-added c =
    let old = c.args.self.now in
    let r : Range = record { first = old.count; source = c.args.source } in
    ap range_defs c.in_ok-push.ensures.items ∙ defs_more old.ranges.items r
