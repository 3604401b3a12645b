use Rattle.std.proofs.Common.{◌≡◌, ◌∙◌, [], ◌∷◌, ◌++◌, List, ap, map, take, length, sym}
use Rattle.cm_abi_model.specs.Answered.{all_requests}
use Rattle.cm_abi_model.specs.declared.request.Request.{Request}
use Rattle.huxarte_c_calls.specs.declared.asking.HuxRequest.{HuxRequest}
use Rattle.huxarte_c_calls.specs.Asking.{row_of}
use Rattle.huxarte_c_calls.proofs.RequestLaws.{asks_alike, one_more}
use Rattle.huxarte_c_calls.proofs.asking.requests_for.Goals as goal

pub loop-preserved : goal.loop-preserved
loop-preserved c =
    let so_far = c.loop.invariant in
    let given = so_far.0.0 in
    let only = c.in-Ok.ensures.only in
    let next = sym (c.next_request.ensures.next given so_far.0.1) ∙ c.in-Some.is in
    let step = one_more (all_requests c.loop.kept.parts) given 0 _ c.loop.requests.items next so_far.0.2 in
    let told : c.push.new.self.items ≡ map row_of (take (length (given ++ 0 ∷ [])) (all_requests c.answer.new.self.parts)) =
    c.in_ok-push.ensures.items
    ∙ (ap (λ (row : HuxRequest). c.loop.requests.items ++ row ∷ []) c.row_of.ensures
    ∙ (step ∙ ap (λ (rs : List Request). map row_of (take (length (given ++ 0 ∷ [])) rs)) (sym (asks_alike c.loop.kept c.answer.new.self only)))) in
    ((given ++ 0 ∷ [], c.in-Ok.ensures.kept given so_far.0.1, told), c.what_goes_on_stays.ensures.more c.args.kept.now c.loop.kept c.answer.new.self so_far.1 only)
