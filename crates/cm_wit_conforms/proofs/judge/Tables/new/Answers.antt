use Rattle.cm_types_numbers.specs.Numbering.{numbering}
use Rattle.cm_wit_conforms.specs.Judging.{marks_of}
use Rattle.cm_wit_conforms.proofs.judge.Tables.new.Goals as goal

pub returns : goal.returns
returns c = λ have world. record {
  of_have = c.new-2.ensures (numbering c.new.result) (marks_of have) have.types.now;
  of_world = c.new-3.ensures (numbering c.new.result) (marks_of world) world.types.now;
}
