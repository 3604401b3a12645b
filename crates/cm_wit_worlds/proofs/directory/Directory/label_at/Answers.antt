use Rattle.std.proofs.Common.{◌∙◌}
use Rattle.cm_wit_reading.specs.Views.{file_tree}
use Rattle.cm_wit_worlds.specs.InterfaceViews.{files_of}
use Rattle.cm_wit_worlds.proofs.LabelLaws.{counted}
use Rattle.cm_wit_worlds.proofs.directory.Directory.label_at.Goals as goal

pub returns-in-Some-package_at : goal.returns-in-Some-package_at
returns-in-Some-package_at c =
    counted (files_of c.args.self.now.files.items) (file_tree c.args.file.now) c.args.name.now c.args.place c.in-Some.label c.in-Some.ensures c.in-Some-package_at.found c.as_str.result.now (c.as_str.ensures.value ∙ c.in_ok-package.ensures) c.in-Some-package_at.ensures c.if-found-place.true
