use Rattle.std.proofs.Common.{◌≡◌, map, take}
use Rattle.cm_names.specs.Keys.{key_view}
use Rattle.cm_shims_plain.specs.Names.{argument_key}
use Rattle.cm_shims_plain.proofs.names.argument_keys.Given as goal

abbrev pub invariant-loop-arg : goal.invariant-loop-arg
invariant-loop-arg l = map key_view l.keys.items ≡ map argument_key (take l.arg-index l.args)
