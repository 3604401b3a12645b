use Rattle.std.proofs.Common.{◌∙◌, [], sym, ap}
use Rattle.cm_match_model.specs.Fitting.{only}
use Rattle.cm_match_model.specs.Fitting as fitting
use Rattle.cm_match_serving.proofs.chosen.chosen_candidate.Goals as goal
use Rattle.cm_lemmas.proofs.Results.{if_ok_more}

pub returns : goal.returns
returns c = if_ok_more c.candidate.result _ _ c.candidate.ensures (λ k h.
    h _ (c.in_ok-add.ensures.ok [] c.new-exports.ensures) ∙ ap (λ es. only (fitting.candidates es c.args.wanted.now)) (sym c.in-Some.ensures))
