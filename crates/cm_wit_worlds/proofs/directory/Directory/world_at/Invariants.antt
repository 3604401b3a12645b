use Rattle.cm_wit_worlds.specs.Interfaces.{is_world}
use Rattle.cm_wit_worlds.specs.InterfaceViews.{placed_world, files_of}
use Rattle.cm_wit_worlds.proofs.KeyingLaws.{Looks}
use Rattle.cm_wit_worlds.proofs.directory.Directory.world_at.Given as goal

abbrev pub invariant-loop-number : goal.invariant-loop-number
invariant-loop-number l = Looks placed_world (is_world (files_of l.self.files.items) l.name) l.worlds l.number
