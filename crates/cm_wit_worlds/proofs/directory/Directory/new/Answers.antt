use Rattle.std.proofs.Common.{◌∙◌}
use Rattle.cm_wit_worlds.specs.InterfaceViews.{files_of}
use Rattle.cm_wit_worlds.proofs.KeyingLaws.{name_keys}
use Rattle.cm_wit_worlds.proofs.directory.Directory.new.Goals as goal

pub invariant_of-result-clause-are_packages : goal.invariant_of-result-clause-are_packages
invariant_of-result-clause-are_packages c = c.in_ok-packages.ensures ∙ (c.in_ok-package_keys.ensures ∙ name_keys (files_of c.args.files.items) c.args.names.now c.requires.names)
