use Rattle.cm_types_numbers.specs.Numbering.{numbering}
use Rattle.cm_hux_diff.specs.Views.{standing_of}
use Rattle.cm_hux_diff.proofs.judging.Tables.new.Goals as goal

pub returns : goal.returns
returns c = λ wanted offered. record {
  of_wanted = c.new-2.ensures (numbering c.new.result) (standing_of wanted) wanted.types.now;
  of_offered = c.new-3.ensures (numbering c.new.result) (standing_of offered) offered.types.now;
}
