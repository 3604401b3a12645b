use Rattle.std.proofs.Common.{◌∙◌, ◌≤◌, ap, arith, length, subst, sym}
use Rattle.cm_abi_model.specs.Answering.{first_fault}
use Rattle.cm_abi_model.specs.Answered.{IsAnswered, all_requests}
use Rattle.huxarte_c_calls.proofs.CopyLaws.{none_yet, take_none, too_few}
use Rattle.huxarte_c_calls.proofs.RequestLaws.{asks_alike}
use Rattle.huxarte_c_calls.proofs.answering.answer_all.Goals as goal

pub loop-number-init : goal.loop-number-init
loop-number-init c =
    let none = take_none c.args.answers.now in
    record {
      given = subst (IsAnswered c.args.kept.now.parts) (sym none) c.requires;
      fine = ap (first_fault c.args.memory_length (all_requests c.args.kept.now.parts)) none ∙ none_yet c.args.memory_length (all_requests c.args.kept.now.parts);
      only = c.what_goes_on_stays.ensures.none c.args.kept.now;
    }

pub returns-in-Some-clause-refused : goal.returns-in-Some-clause-refused
returns-in-Some-clause-refused c =
    let so_far = c.loop-number.invariant in
    let past : length c.args.answers.now ≤ c.loop-number.number = omega (arith, c.loop-number-test.false) in
    too_few c.args.memory_length (all_requests c.args.kept.now.parts) (all_requests c.loop-number.kept.parts) c.args.answers.now c.loop-number.number
    c.next_request.result _ (asks_alike c.args.kept.now c.loop-number.kept so_far.only) past (c.next_request.ensures.next _ so_far.given) c.in-Some.is
