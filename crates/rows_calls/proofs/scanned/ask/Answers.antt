use Rattle.std.proofs.Common.{◌≡◌, ◌∙◌, ℕ, List, [], ◌∷◌, Option, Some, None, false, refl, sym, ap, arith, is_some}
use Rattle.cm_abi_model.specs.declared.request.Request.{Request}
use Rattle.cm_abi_model.specs.Answering.{first_fault}
use Rattle.cm_abi_model.specs.Answered.{OnlyAnswered, Requesting, all_requests}
use Rattle.rows_calls.proofs.scanned.ask.Goals as goal

none_yet : (n : ℕ) (rs : List Request) → first_fault n rs [] ≡ None
none_yet n [] = refl
none_yet n (r ∷ rs) = refl

none_is : {A : Type 0} (o : Option A) → is_some o ≡ false → o ≡ None
none_is None h = refl
none_is (Some x) h = cc h

-- what was fine is so of the same requests
still_fine : (n : ℕ) (p q : Requesting) (given : List ℕ) → OnlyAnswered p q
    → first_fault n (all_requests p) given ≡ None → first_fault n (all_requests q) given ≡ None
still_fine n p q given only fine = ap (λ (r : Requesting). first_fault n (all_requests r) given) only ∙ fine

pub loop-answer-init : goal.loop-answer-init
loop-answer-init c = (([], c.requires, none_yet c.args.length (all_requests c.args.kept.now.parts)), c.what_goes_on_stays.ensures.none c.args.kept.now)

pub loop-answer-preserved : goal.loop-answer-preserved
loop-answer-preserved c =
    let kept = c.loop-answer.invariant in
    let only = c.in_default.ensures.only in
    let fine = c.answers_stay_fine.ensures.kept c.args.length c.args.length (all_requests c.loop-answer.kept.parts) kept.0.0 _ (omega arith) kept.0.2 (c.in_default.ensures.fine kept.0.0 kept.0.1) in (
      (_, c.in_default.ensures.kept kept.0.0 kept.0.1, still_fine c.args.length c.loop-answer.kept.parts c.answer.new.self.parts _ only.parts fine),
      c.what_goes_on_stays.ensures.more c.args.kept.now c.loop-answer.kept _ kept.1 only,
    )

pub returns-clause-answered : goal.returns-clause-answered
returns-clause-answered c = λ _.
    let kept = c.loop-answer.invariant in
    (kept.0.0, (kept.0.1, sym (c.next_request.ensures.next kept.0.0 kept.0.1) ∙ none_is _ (sym c.if-is_some.ensures)), kept.0.2)
