use Rattle.std.proofs.Common.{◌≡◌, ◌∙◌, List, is_some, sym, ap, arith, slice_get}
use Rattle.std.proofs.lemmas.Grind.{common_steps}
use Rattle.cm_match_model.specs.declared.candidates.Candidate.{Candidate}
use Rattle.cm_match_serving.specs.Readings.{only_named}
use Rattle.cm_match_serving.proofs.unversioned.NameTable.candidate.Goals as goal

pub returns-in-Some : goal.returns-in-Some
returns-in-Some c = λ es t.
    let there : c.deref.result.now ≡ c.args.self.now.candidates.items = grind (arith, common_steps) in
    c.candidate_at.ensures (only_named c.args.name.now es) (ap (λ (cs : List Candidate). slice_get cs c.in-Some.number) there ∙ t.there c.args.name.now c.in-Some.number c.in-Some.ensures.there)

pub returns-in-None : goal.returns-in-None
returns-in-None c = λ es t.
    sym (t.none c.args.name.now (sym c.number.ensures.known ∙ ap is_some c.in-None.is))
