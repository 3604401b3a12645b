use Rattle.std.proofs.Common.{◌≡◌, take}
use Rattle.cm_wit_worlds.specs.InterfaceViews.{files_of}
use Rattle.cm_wit_signature.specs.PackageFronts.{package_fronts}
use Rattle.cm_wit_signature.proofs.fronts.package_fronts.Given as goal

abbrev pub invariant-loop-file : goal.invariant-loop-file
invariant-loop-file l = l.fronts.items ≡ package_fronts (files_of (take l.file-index l.files))
