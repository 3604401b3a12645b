use Rattle.std.proofs.Common.{◌≡◌, true, false, inl, inr, refl, sym, ◌∙◌, ap}
use Rattle.cm_machine_model.specs.Stack.{actor}
use Rattle.cm_machine_model.specs.State.{is_closed}
use Rattle.cm_machine_model.specs.Step.{CallsLowered, PassesArguments}
use Rattle.cm_machine_parts.specs.States.{state_of}
use Rattle.cm_machine_calls.proofs.Results.{not_true}
use Rattle.cm_machine_calls.proofs.enter.call_lowered.Goals as goal
use Rattle.cm_machine_parts.proofs.RowsLaws.{meets_by}

pub returns-in_default-clause-row : goal.returns-in_default-clause-row
returns-in_default-clause-row c = λ plan l called. inl (c.in_default.ensures.none l called.link_is, (refl, refl))

pub returns-then-not-may_leave-clause-row : goal.returns-then-not-may_leave-clause-row
returns-then-not-may_leave-clause-row c = λ plan l called.
    let x = c.in-Some.ensures.some l called.link_is in
    inr (x.0, inl ((λ leaves. not_true c.may_leave.result c.if-not-may_leave.true (c.may_leave.ensures.1 leaves)), (refl, refl)))

pub returns-then-is_closed-clause-row : goal.returns-then-is_closed-clause-row
returns-then-is_closed-clause-row c = λ plan l called.
    let x = c.in-Some.ensures.some l called.link_is in
    let shut : is_closed (state_of c.args.state.now) l.instance ≡ true = ap (is_closed (state_of c.args.state.now)) (sym called.link_is.instance_is) ∙ sym c.is_closed.ensures ∙ c.if-is_closed.true in
    inr (x.0, inr (c.may_leave.ensures.0 (cc), inl ((λ opened. cc (opened, shut)), (refl, refl))))

pub returns-then-not-has_room-clause-row : goal.returns-then-not-has_room-clause-row
returns-then-not-has_room-clause-row c = λ plan l called.
    let x = c.in-Some.ensures.some l called.link_is in
    let opened : is_closed (state_of c.args.state.now) l.instance ≡ false = ap (is_closed (state_of c.args.state.now)) (sym called.link_is.instance_is) ∙ sym c.is_closed.ensures ∙ c.if-is_closed.false in
    inr (x.0, inr (c.may_leave.ensures.0 (cc), inr (opened, inl ((λ room. not_true c.has_room.result c.if-not-has_room.true (c.has_room.ensures.1 room)), (refl, refl)))))

pub pass_arguments-requires : goal.pass_arguments-requires
pass_arguments-requires c =
    let y = c.requires.called in
    let x = c.in-Some.ensures.some y.1 y.2.link_is in
    record {
      may = (
        y.0,
        y.1,
        c.args.args.now,
        record {
          called = y.2;
          leaves = c.may_leave.ensures.0 (cc);
          room = c.has_room.ensures.0 (cc);
          given = record { shape = x.0; slots_are = x.1; place_is = x.2 };
        },
      );
    }

pub enter_with_numbers-requires : goal.enter_with_numbers-requires
enter_with_numbers-requires c =
    let y = c.requires.called in
    let x = c.in-Some.ensures.some y.1 y.2.link_is in
    record {
      may = (
        y.0,
        y.1,
        c.args.args.now,
        record {
          called = y.2;
          leaves = c.may_leave.ensures.0 (cc);
          room = c.has_room.ensures.0 (cc);
          given = record { shape = x.0; slots_are = x.1; place_is = x.2 };
        },
      );
      steps = λ l is. c.in-Some-steps_of.ensures l is;
    }

pub returns-in-None-clause-row : goal.returns-in-None-clause-row
returns-in-None-clause-row c = λ plan l called.
    let x = c.in-Some.ensures.some l called.link_is in
    let s = state_of c.args.state.now in
    let opened : is_closed s l.instance ≡ false = ap (is_closed s) (sym called.link_is.instance_is) ∙ sym c.is_closed.ensures ∙ c.if-is_closed.false in
    let leaves = c.may_leave.ensures.0 (cc) in
    let room = c.has_room.ensures.0 (cc) in
    meets_by (PassesArguments s (actor c.args.top.now) c.args.func l c.args.args.now) (CallsLowered s c.args.top.now c.args.func l c.args.args.now) c.pass_arguments.result c.pass_arguments.new.values
    (state_of c.pass_arguments.new.state) (λ e st passes. inr (x.0, inr (leaves, inr (opened, inr (room, passes)))))
    (c.pass_arguments.ensures.row plan l c.args.args.now (record { called = called; leaves = leaves; room = room; given = record { shape = x.0; slots_are = x.1; place_is = x.2 } }))

pub returns-in-None-clause-kept : goal.returns-in-None-clause-kept
returns-in-None-clause-kept c = λ plan l called.
    let x = c.in-Some.ensures.some l called.link_is in
    c.pass_arguments.ensures.kept plan l c.args.args.now
    (record { called = called; leaves = c.may_leave.ensures.0 (cc); room = c.has_room.ensures.0 (cc); given = record { shape = x.0; slots_are = x.1; place_is = x.2 } })

pub returns-in-Some-steps_of-clause-row : goal.returns-in-Some-steps_of-clause-row
returns-in-Some-steps_of-clause-row c = λ plan l called.
    let x = c.in-Some.ensures.some l called.link_is in
    let s = state_of c.args.state.now in
    let opened : is_closed s l.instance ≡ false = ap (is_closed s) (sym called.link_is.instance_is) ∙ sym c.is_closed.ensures ∙ c.if-is_closed.false in
    let leaves = c.may_leave.ensures.0 (cc) in
    let room = c.has_room.ensures.0 (cc) in
    meets_by (PassesArguments s (actor c.args.top.now) c.args.func l c.args.args.now) (CallsLowered s c.args.top.now c.args.func l c.args.args.now) c.enter_with_numbers.result c.enter_with_numbers.new.values
    (state_of c.enter_with_numbers.new.state) (λ e st passes. inr (x.0, inr (leaves, inr (opened, inr (room, passes)))))
    (c.enter_with_numbers.ensures.row plan l c.args.args.now (record { called = called; leaves = leaves; room = room; given = record { shape = x.0; slots_are = x.1; place_is = x.2 } }))

pub returns-in-Some-steps_of-clause-kept : goal.returns-in-Some-steps_of-clause-kept
returns-in-Some-steps_of-clause-kept c = λ plan l called.
    let x = c.in-Some.ensures.some l called.link_is in
    c.enter_with_numbers.ensures.kept plan l c.args.args.now
    (record { called = called; leaves = c.may_leave.ensures.0 (cc); room = c.has_room.ensures.0 (cc); given = record { shape = x.0; slots_are = x.1; place_is = x.2 } })
