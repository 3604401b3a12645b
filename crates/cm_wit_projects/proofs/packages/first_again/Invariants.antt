use Rattle.cm_names.specs.TextTables.{texts_of}
use Rattle.cm_wit_projects.proofs.PackageLaws.{Agains}
use Rattle.cm_wit_projects.proofs.packages.first_again.Given as goal

abbrev pub invariant-loop-package : goal.invariant-loop-package
invariant-loop-package l = Agains l.packages l.package-index (texts_of l.seen)
