use Rattle.cm_wit_reading.specs.Views.{file_tree}
use Rattle.cm_wit_worlds.proofs.LabelLaws.{no_package, with_package}
use Rattle.cm_wit_worlds.proofs.texts.label_in.Goals as goal

pub returns-in_err-behind : goal.returns-in_err-behind
returns-in_err-behind c = no_package (file_tree c.args.file.now) c.args.text.now c.in_ok-rest.rest.now c.from_residual-in_err-behind.result c.in_ok-rest.ensures c.from_residual-in_err-behind.ensures c.in_err-behind.ensures

pub returns : goal.returns
returns c = with_package (file_tree c.args.file.now) c.args.text.now c.in_ok-rest.rest.now c.in_ok-behind.field-0.now c.before_version.result c.in_ok-rest.ensures c.in_ok-behind.ensures c.before_version.ensures
