use Rattle.std.proofs.Common.{◌∙◌, List, Bor, ap, map, ℕ}
use Rattle.huxarte_c_calls.specs.Spans.{AreWithin}
use Rattle.huxarte_c_components.proofs.LinkLaws.{linked_parts, on_ok, refused_parts, spans_refused}
use Rattle.huxarte_c_components.proofs.linking.plan_of_parts.Goals as goal

pub returns-in-Ok-clause-within : goal.returns-in-Ok-clause-within
returns-in-Ok-clause-within c = on_ok _ (AreWithin c.args.bytes.now c.args.spans.now) c.in-Ok.ensures.within

pub returns-in-Ok-clause-linked : goal.returns-in-Ok-clause-linked
returns-in-Ok-clause-linked c =
    linked_parts c.args.places.now c.args.choices.now _ _ c.plan.result (ap (map (λ (f : Bor (List ℕ)). f.now)) c.deref.ensures.value ∙ c.in-Ok.ensures.parts) c.plan.ensures.linked

pub returns-in-Ok-clause-refused : goal.returns-in-Ok-clause-refused
returns-in-Ok-clause-refused c =
    refused_parts c.args.places.now c.args.choices.now c.args.bytes.now c.args.spans.now _ c.plan.result (ap (map (λ (f : Bor (List ℕ)). f.now)) c.deref.ensures.value ∙ c.in-Ok.ensures.parts) c.in-Ok.ensures.within c.plan.ensures.refused

pub returns-in-Err-clause-refused : goal.returns-in-Err-clause-refused
returns-in-Err-clause-refused c = spans_refused c.args.places.now c.args.choices.now c.args.bytes.now c.args.spans.now c.in-Err.refusal c.in-Err.ensures.refused
