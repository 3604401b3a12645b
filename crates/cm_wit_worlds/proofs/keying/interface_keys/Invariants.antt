use Rattle.std.proofs.Common.{map}
use Rattle.cm_names.specs.Keys.{key_view}
use Rattle.cm_wit_worlds.specs.Interfaces.{interface_key}
use Rattle.cm_wit_worlds.specs.InterfaceViews.{placed_interface}
use Rattle.cm_wit_worlds.proofs.KeyingLaws.{Rests}
use Rattle.cm_wit_worlds.proofs.keying.interface_keys.Given as goal

abbrev pub invariant-loop-placed : goal.invariant-loop-placed
invariant-loop-placed l = Rests placed_interface (map interface_key) key_view l.interfaces l.placed-index l.keys.items
