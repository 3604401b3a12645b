use Rattle.std.proofs.Common.{◌∙◌, [], ap}
use Rattle.cm_match_model.specs.Sights.{link_in, sees_by}
use Rattle.cm_match_model.proofs.sight.Choices.none.Goals as goal

pub returns : goal.returns
returns c = ap (λ ps. sees_by ps (link_in c.new-2.result.items)) c.new.ensures.items ∙ ap (λ ls. sees_by [] (link_in ls)) c.new-2.ensures.items
