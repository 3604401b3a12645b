use Rattle.std.proofs.Common.{inl}
use Rattle.cm_abi_model.specs.Views.{params}
use Rattle.huxarte_c_calls.proofs.CopyLaws.{can_be_copied, copied_for}
use Rattle.huxarte_c_calls.proofs.RequestLaws.{asks_alike}
use Rattle.huxarte_c_calls.proofs.giving.give.Goals as goal

pub copy-requires-clause-copied : goal.copy-requires-clause-copied
copy-requires-clause-copied c =
    let was = c.requires.scanned in
    let call = c.args.scanned.now.call.now in
    let is = was.4 in
    let on = c.passed_by.ensures in
    let all = c.in_ok-answer_all.ensures in
    let goes = c.what_goes_on_stays.ensures.goes was.0 params was.1 call.slots.items was.2 c.args.kept.now c.answer_all.new.kept
    (c.one_copied_call.ensures.copied was.0 call.encodings.target params was.1 call.slots.items was.2 was.3 c.args.kept.now was.6 is.spellable (inl is.stores)) all.only in
    (was.0, c.args.taker.now.answers.now, was.1, was.2, can_be_copied call _ was.0 was.1 was.2 c.args.kept.now c.answer_all.new.kept _ _ _ is on.way on.layout on.slots was.5 all.only goes all.answered all.fine c.requires.kinds)

pub returns-in-Ok-clause-copied : goal.returns-in-Ok-clause-copied
returns-in-Ok-clause-copied c = λ w types v t is memory scans.
    let call = c.args.scanned.now.call.now in
    let on = c.passed_by.ensures in
    let all = c.in_ok-answer_all.ensures in
    let goes = c.what_goes_on_stays.ensures.goes w params types call.slots.items v c.args.kept.now c.answer_all.new.kept
    (c.one_copied_call.ensures.copied w call.encodings.target params types call.slots.items v t c.args.kept.now scans is.spellable (inl is.stores)) all.only in
    let ready = can_be_copied call _ w types v c.args.kept.now c.answer_all.new.kept _ _ _ is on.way on.layout on.slots memory all.only goes all.answered all.fine c.requires.kinds in
    copied_for c.args.taker.now.to call.encodings.target types v c.args.kept.now c.answer_all.new.kept c.passed_by.result.way c.args.taker.now.answers.now _ _ _ _ _ _
    on.way all.only scans.goes_to (c.all_answers_place_parts.ensures.count c.answer_all.new.kept.parts c.args.taker.now.answers.now all.answered) all.fine
    (c.in-Ok.ensures.copied w c.args.taker.now.answers.now types v ready)

pub returns-in-Err-clause-refused : goal.returns-in-Err-clause-refused
returns-in-Err-clause-refused c = λ w types v t is memory scans.
    let call = c.args.scanned.now.call.now in
    let on = c.passed_by.ensures in
    let all = c.in_ok-answer_all.ensures in
    let goes = c.what_goes_on_stays.ensures.goes w params types call.slots.items v c.args.kept.now c.answer_all.new.kept
    (c.one_copied_call.ensures.copied w call.encodings.target params types call.slots.items v t c.args.kept.now scans is.spellable (inl is.stores)) all.only in
    let ready = can_be_copied call _ w types v c.args.kept.now c.answer_all.new.kept _ _ _ is on.way on.layout on.slots memory all.only goes all.answered all.fine c.requires.kinds in
    (c.answer_all.new.kept.parts, asks_alike c.args.kept.now c.answer_all.new.kept all.only, c.in-Err.ensures.err w c.args.taker.now.answers.now types v ready)
