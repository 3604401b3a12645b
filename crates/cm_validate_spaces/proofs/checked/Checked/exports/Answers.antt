use Rattle.cm_validate_spaces.specs.Checked.{spaces_in}
use Rattle.cm_validate_spaces.proofs.SetLaws.{exports_set, held, test_set}
use Rattle.cm_validate_spaces.proofs.checked.Checked.exports.Goals as goal

pub returns-clause-are : goal.returns-clause-are
returns-clause-are c = held exports_set _ _ c.args.self.now.indexed (c.exports.ensures.are (spaces_in c.args.self.now))

pub returns-clause-there : goal.returns-clause-there
returns-clause-there c = held test_set _ _ c.args.self.now.indexed (c.exports.ensures.there (spaces_in c.args.self.now))
