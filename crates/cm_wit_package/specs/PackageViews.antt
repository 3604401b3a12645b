-- The trees that the code's packages are.
use Rattle.cm_wit_reading.specs.Trees.{File}
use Rattle.cm_wit_reading.specs.Views.{file_tree}
use Rattle.cm_wit_package.specs.declared.package.Package.{Package}

abbrev pub package_tree : Package → File
package_tree p = file_tree p.file
