use Rattle.std.proofs.Common.{◌≡◌, ◌++◌, map, take}
use Rattle.cm_names.specs.Keys.{key_view}
use Rattle.cm_shims_plain.specs.Names.{import_key}
use Rattle.cm_shims_plain.proofs.names.add_keys.Given as goal

abbrev pub invariant-loop-import : goal.invariant-loop-import
invariant-loop-import l = map key_view l.keys.items ≡ map key_view l.fn.keys.items ++ map import_key (take l.import-index l.imports)
