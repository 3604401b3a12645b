use Rattle.std.proofs.Common.{◌∙◌, [], List, Bor, ap, map, ℕ}
use Rattle.huxarte_c_calls.specs.Spans.{AreWithin}
use Rattle.huxarte_c_components.proofs.LinkLaws.{linked_parts, on_ok}
use Rattle.huxarte_c_components.proofs.LinkLaws as link_laws
use Rattle.huxarte_c.proofs.PlayLaws.{spans_refused}
use Rattle.huxarte_c.proofs.playing.play_spans.Goals as goal

pub returns-in-Ok-clause-within : goal.returns-in-Ok-clause-within
returns-in-Ok-clause-within c = on_ok _ (AreWithin c.args.bytes.now c.args.spans.now) c.in-Ok.ensures.within

pub returns-in-Ok-clause-linked : goal.returns-in-Ok-clause-linked
returns-in-Ok-clause-linked c =
    linked_parts [] [] _ _ c.play_files.result (ap (map (λ (f : Bor (List ℕ)). f.now)) c.deref.ensures.value ∙ c.in-Ok.ensures.parts) c.play_files.ensures.linked

pub returns-in-Ok-clause-refused : goal.returns-in-Ok-clause-refused
returns-in-Ok-clause-refused c =
    spans_refused c.args.bytes.now c.args.spans.now _ c.play_files.result (ap (map (λ (f : Bor (List ℕ)). f.now)) c.deref.ensures.value ∙ c.in-Ok.ensures.parts) c.in-Ok.ensures.within c.play_files.ensures.refused

pub returns-in-Err-clause-refused : goal.returns-in-Err-clause-refused
returns-in-Err-clause-refused c = link_laws.spans_refused [] [] c.args.bytes.now c.args.spans.now c.in-Err.refusal c.in-Err.ensures.refused
