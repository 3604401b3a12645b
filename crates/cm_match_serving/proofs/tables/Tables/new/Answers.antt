use Rattle.std.proofs.Common.{◌∙◌, sym}
use Rattle.cm_types_numbers.specs.Numbering.{numbering}
use Rattle.cm_match_model.specs.Serving.{standing}
use Rattle.cm_match_serving.specs.Linkings.{set_in}
use Rattle.cm_match_serving.proofs.tables.Tables.new.Goals as goal

pub returns : goal.returns
returns c = λ l count. record {
  count = c.in_ok-unknown.ensures.count ∙ sym count;
  each = λ d k at arena e f. c.in_ok-unknown.ensures.unknown d k at (numbering c.new.result) (standing (set_in l) d) arena;
}
