use Rattle.std.proofs.Common.{map}
use Rattle.cm_wit_worlds.specs.Interfaces.{use_targets}
use Rattle.cm_wit_worlds.specs.InterfaceViews.{placed_interface, files_of}
use Rattle.cm_wit_worlds.proofs.KeyingLaws.{Rests}
use Rattle.cm_wit_worlds.proofs.directory.Directory.uses.Given as goal

abbrev pub invariant-loop-placed : goal.invariant-loop-placed
invariant-loop-placed l = Rests placed_interface (map (use_targets (files_of l.self.files.items))) (λ r. r.items) l.interfaces l.placed-index l.uses.items
