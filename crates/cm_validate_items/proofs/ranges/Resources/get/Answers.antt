use Rattle.std.proofs.Common.{◌≡◌, ◌-◌, ◌≤◌, Some, None, sym, ap, ◌∙◌, arith, slice_get}
use Rattle.std.proofs.lemmas.Bool.{leb-true}
use Rattle.std.specs.Option.{option_map}
use Rattle.cm_validate_items.specs.Ranges.{begun, resource_def, source_defs}
use Rattle.cm_validate_items.proofs.RangeLaws.{FollowFrom, begun_before, follow_sorted, follows, got}
use Rattle.cm_validate_items.proofs.ranges.Resources.get.Goals as goal

pub returns-in_err-range : goal.returns-in_err-range
returns-in_err-range c =
    let old = c.args.self.now in
    let n = c.args.number in
    let f : FollowFrom 0 old.ranges.items old.count = follows old.ranges.items 0 old.count old.follow (omega (arith, old.counted)) in
    let told : begun old.ranges.items n ≡ None =
    ap (λ rs. begun rs n) (sym c.deref.ensures.value) ∙ sym (c.begun.ensures (rw c.deref.ensures.value (follow_sorted old.ranges.items 0 old.count f))) ∙ ap (option_map (λ r. r.now)) c.in_err-range.was in
    ap (option_map resource_def) c.from_residual.ensures ∙ sym (got old.ranges.items old.count n None f told)

pub returns-in_err-checked_sub : goal.returns-in_err-checked_sub
returns-in_err-checked_sub c =
    let old = c.args.self.now in
    let n = c.args.number in
    let r = c.in_ok-range.range.now in
    let f : FollowFrom 0 old.ranges.items old.count = follows old.ranges.items 0 old.count old.follow (omega (arith, old.counted)) in
    let told : begun old.ranges.items n ≡ Some r =
    ap (λ rs. begun rs n) (sym c.deref.ensures.value) ∙ sym (c.begun.ensures (rw c.deref.ensures.value (follow_sorted old.ranges.items 0 old.count f))) ∙ ap (option_map (λ r. r.now)) c.in_ok-range.was in
    let le : r.first ≤ n = leb-true r.first n (begun_before old.ranges.items n r told) in
    absurd (c.in_err-checked_sub.ensures le)

pub returns : goal.returns
returns c =
    let old = c.args.self.now in
    let n = c.args.number in
    let r = c.in_ok-range.range.now in
    let f : FollowFrom 0 old.ranges.items old.count = follows old.ranges.items 0 old.count old.follow (omega (arith, old.counted)) in
    let told : begun old.ranges.items n ≡ Some r =
    ap (λ rs. begun rs n) (sym c.deref.ensures.value) ∙ sym (c.begun.ensures (rw c.deref.ensures.value (follow_sorted old.ranges.items 0 old.count f))) ∙ ap (option_map (λ r. r.now)) c.in_ok-range.was in
    let off : c.in_ok-checked_sub.field-0 ≡ n - r.first = omega (arith, c.in_ok-checked_sub.ensures.0, c.in_ok-checked_sub.ensures.1) in
    c.get.ensures ∙ ap (slice_get (source_defs r.source)) off ∙ sym (got old.ranges.items old.count n (Some r) f told)
