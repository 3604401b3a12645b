use Rattle.std.proofs.Common.{true, false}
use Rattle.std.proofs.lemmas.Result.{IfOk-weaker}
use Rattle.cm_wit_tokens.proofs.BoundaryLaws.{front_ends}
use Rattle.cm_wit_tokens.proofs.FrontLaws.{front_within}
use Rattle.cm_wit_tokens.proofs.front.Front.of_text.Goals as goal

pub returns-then-behind_at-clause-within : goal.returns-then-behind_at-clause-within
returns-then-behind_at-clause-within c = IfOk-weaker c.version_front.result _ _ (λ f e. rw e (front_within true c.args.text.now)) c.version_front.ensures

pub returns-else-behind_at-clause-within : goal.returns-else-behind_at-clause-within
returns-else-behind_at-clause-within c = IfOk-weaker c.plain_front.result _ _ (λ f e. rw e (front_within false c.args.text.now)) c.plain_front.ensures

pub returns-then-behind_at-clause-boundary : goal.returns-then-behind_at-clause-boundary
returns-then-behind_at-clause-boundary c = IfOk-weaker c.version_front.result _ _ (λ f e. rw e (front_ends true c.args.text.now c.utf8.text)) c.version_front.ensures

pub returns-else-behind_at-clause-boundary : goal.returns-else-behind_at-clause-boundary
returns-else-behind_at-clause-boundary c = IfOk-weaker c.plain_front.result _ _ (λ f e. rw e (front_ends false c.args.text.now c.utf8.text)) c.plain_front.ensures
