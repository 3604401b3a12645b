use Rattle.cm_wit_projects.proofs.PackageLaws.{Looks}
use Rattle.cm_wit_projects.proofs.packages.package_of.Given as goal

abbrev pub invariant-loop-file : goal.invariant-loop-file
invariant-loop-file l = Looks l.files l.file-index
