use Rattle.std.proofs.Common.{map}
use Rattle.std.specs.String.{string_bytes}
use Rattle.cm_wit_reading.specs.Views.{file_tree}
use Rattle.cm_wit_worlds.specs.Interfaces.{package_name}
use Rattle.cm_wit_worlds.proofs.KeyingLaws.{Rests}
use Rattle.cm_wit_worlds.proofs.keying.package_names.Given as goal

abbrev pub invariant-loop-file : goal.invariant-loop-file
invariant-loop-file l = Rests (λ f. file_tree f.now) (map package_name) string_bytes l.files l.file-index l.names.items
