use Rattle.cm_wit_reading.specs.Views.{file_tree}
use Rattle.cm_wit_package.specs.PackageViews.{package_tree}
use Rattle.cm_wit_signature.proofs.files.package_files.Given as goal
use Rattle.cm_lemmas.proofs.Lists.{Shows}

abbrev pub invariant-loop-package : goal.invariant-loop-package
invariant-loop-package l = Shows package_tree (λ f. file_tree f.now) l.packages l.package-index l.files.items
