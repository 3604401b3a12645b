use Rattle.std.proofs.Common.{◌∙◌, List, Bor, ap, map, ℕ}
use Rattle.huxarte_c_components.proofs.LinkLaws.{spans_refused}
use Rattle.huxarte_c.proofs.SetLaws.{made_parts, unmade_parts}
use Rattle.huxarte_c.proofs.making.make_parts.Goals as goal

pub returns-in-Ok-clause-made : goal.returns-in-Ok-clause-made
returns-in-Ok-clause-made c =
    made_parts (λ b. b.value) c.args.places.now c.args.choices.now c.args.bytes.now c.args.spans.now _ _ c.make_files.result (ap (map (λ (f : Bor (List ℕ)). f.now)) c.deref.ensures.value ∙ c.in-Ok.ensures.parts) c.in-Ok.ensures.within c.make_files.ensures.made

pub returns-in-Ok-clause-refused : goal.returns-in-Ok-clause-refused
returns-in-Ok-clause-refused c =
    unmade_parts c.args.places.now c.args.choices.now c.args.bytes.now c.args.spans.now _ _ c.make_files.result (ap (map (λ (f : Bor (List ℕ)). f.now)) c.deref.ensures.value ∙ c.in-Ok.ensures.parts) c.in-Ok.ensures.within c.make_files.ensures.refused

pub returns-in-Err-clause-refused : goal.returns-in-Err-clause-refused
returns-in-Err-clause-refused c = spans_refused c.args.places.now c.args.choices.now c.args.bytes.now c.args.spans.now c.in-Err.refusal c.in-Err.ensures.refused
