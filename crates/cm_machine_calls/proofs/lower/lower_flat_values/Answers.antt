use Rattle.std.proofs.Common.{◌≡◌, ◌<◌, ◌∙◌, ◌+◌, ap, sym, subst, ℕ, List, ◌∷◌, length, arith}
use Rattle.std.specs.Prelude.{slice_index, slice_set}
use Rattle.cm_handles.specs.Handles.{Handles}
use Rattle.cm_abi_model.specs.Giving.{borrowed_count}
use Rattle.cm_abi_model.specs.Ways.{way_of}
use Rattle.cm_abi_model.specs.declared.receiver.Receiver.{Receiver}
use Rattle.cm_machine_model.specs.declared.frame.Frame.{Frame}
use Rattle.cm_machine_model.specs.declared.frame.Purpose.TheVariants as purpose
use Rattle.cm_machine_model.specs.State.{State}
use Rattle.cm_machine_parts.specs.Kept.{AreBorrowsCounted}
use Rattle.cm_machine_parts.specs.Lends.{AreLentAtLeast}
use Rattle.cm_machine_parts.specs.Stacks.{CountedFrames}
use Rattle.cm_machine_parts.specs.States.{state_of}
use Rattle.cm_machine_calls.specs.Going.{passage_now}
use Rattle.cm_machine_calls.specs.Handing.{IsHandedOver}
use Rattle.cm_machine_calls.proofs.GoingLaws.{receiver_place}
use Rattle.cm_machine_calls.proofs.HandLaws.{can_end, counted_as, counted_handed, ends_handed, few_handed}
use Rattle.cm_machine_calls.proofs.lower.lower_flat_values.Goals as goal

pub count_borrows-requires-clause-place : goal.count_borrows-requires-clause-place
count_borrows-requires-clause-place c =
    let x = c.requires.on in
    let h = x.6 in
    omega (arith, h.on.under.few, ap (λ (fs : List Frame). length fs) h.on.under.stack, ap (λ (r : Receiver). r.call) h.to_is, receiver_place (way_of c.args.way) (length h.on.under.below) x.1 x.2)

pub count_borrows-requires-clause-fits : goal.count_borrows-requires-clause-fits
count_borrows-requires-clause-fits c =
    let x = c.requires.on in
    let h = x.6 in
    let s = c.args.state.now in
    let handed = c.in-Ok.ensures.moves x.0 x.1 x.2 x.3 x.4 x.5 h in
    let counted = subst (λ (fs : List Frame). AreBorrowsCounted s.stack.borrows fs (state_of s).tables) h.on.under.stack h.on.under.counted in
    omega (
      arith,
      few_handed c.borrows_are_counted.ensures.add c.tables_change_in_one_place.ensures.add x.0 s x.1 (way_of c.args.way) x.2 x.3 x.4 c.args.giver c.args.to (state_of c.move_to_receiver.new.state) c.move_to_receiver.new.values h handed s.stack.borrows counted,
      ap (λ (k : CountedFrames). slice_index k.borrows c.args.to.call) c.move_to_receiver.ensures.stack,
      c.borrowed_count-borrowed.ensures.count,
      ap (borrowed_count c.args.to) c.handles.ensures,
    )

pub returns-clause-hands : goal.returns-clause-hands
returns-clause-hands c = λ plan l call v answers is h.
    subst (λ (x : State). IsHandedOver (state_of c.args.state.now) x l (way_of c.args.way) c.args.to (passage_now c.args.state.now) v answers c.move_to_receiver.new.values) (sym c.count_borrows.ensures.same) (c.in-Ok.ensures.moves plan l call v answers is h)

pub returns-clause-counted : goal.returns-clause-counted
returns-clause-counted c =
    let x = c.requires.on in
    let h = x.6 in
    let s = c.args.state.now in
    let to = c.args.to in
    let mid = c.move_to_receiver.new.state in
    let end = c.count_borrows.new.state in
    let handed = c.in-Ok.ensures.moves x.0 x.1 x.2 x.3 x.4 x.5 h in
    let counted = subst (λ (fs : List Frame). AreBorrowsCounted s.stack.borrows fs (state_of s).tables) h.on.under.stack h.on.under.counted in
    let room : length h.on.under.below < length s.stack.borrows = omega (arith, h.on.under.few, ap (λ (fs : List Frame). length fs) h.on.under.stack, h.on.under.places) in
    let base = counted_handed c.borrows_are_counted.ensures.add c.tables_change_in_one_place.ensures.add x.0 s x.1 (way_of c.args.way) x.2 x.3 x.4 c.args.giver to (state_of mid) c.move_to_receiver.new.values h handed s.stack.borrows room counted in
    let borrows : end.stack.borrows ≡ slice_set s.stack.borrows to.call (slice_index s.stack.borrows to.call + borrowed_count to s.passing.scan.handles) =
    c.count_borrows.ensures.borrows
    ∙ ap (λ (k : CountedFrames). slice_set k.borrows to.call (slice_index k.borrows to.call + c.borrowed_count-borrowed.result)) c.move_to_receiver.ensures.stack
    ∙ ap (λ (n : ℕ). slice_set s.stack.borrows to.call (slice_index s.stack.borrows to.call + n)) (c.borrowed_count-borrowed.ensures.count ∙ ap (borrowed_count to) c.handles.ensures) in
    let frames = c.count_borrows.ensures.frames ∙ ap (λ (k : CountedFrames). k.frames) c.move_to_receiver.ensures.stack ∙ h.on.under.stack in
    let tables = ap (λ (y : State). y.tables) c.count_borrows.ensures.same in
    counted_as (slice_set s.stack.borrows to.call (slice_index s.stack.borrows to.call + borrowed_count to s.passing.scan.handles)) end.stack.borrows
    (record { instance = x.1.instance; purpose = purpose.Call x.2 } ∷ h.on.under.below) end.stack.frames (state_of mid).tables (state_of end).tables (sym borrows) (sym frames) (sym tables) base

pub returns-clause-ends : goal.returns-clause-ends
returns-clause-ends c = λ can.
    let x = c.requires.on in
    let h = x.6 in
    let s = c.args.state.now in
    let mid = c.move_to_receiver.new.state in
    let handed = c.in-Ok.ensures.moves x.0 x.1 x.2 x.3 x.4 x.5 h in
    let frames = c.count_borrows.ensures.frames ∙ ap (λ (k : CountedFrames). k.frames) c.move_to_receiver.ensures.stack in
    let lends = c.count_borrows.ensures.lends ∙ c.move_to_receiver.ensures.lends in
    let tables = ap (λ (y : State). y.tables) c.count_borrows.ensures.same in
    can_end s c.count_borrows.new.state can frames lends
    (subst (λ (y : List Handles). AreLentAtLeast s.lends y) (sym tables)
    (ends_handed c.borrows_are_counted.ensures.add c.tables_change_in_one_place.ensures.add x.0 s x.1 (way_of c.args.way) x.2 x.3 x.4 c.args.giver c.args.to (state_of mid) c.move_to_receiver.new.values h handed s.lends can.lent))
