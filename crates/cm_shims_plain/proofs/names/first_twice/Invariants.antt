use Rattle.std.proofs.Common.{◌≡◌, drop, map}
use Rattle.cm_names.specs.Keys.{key_view}
use Rattle.cm_shims_plain.specs.Names.{first_twice, twice_from}
use Rattle.cm_shims_plain.proofs.names.first_twice.Given as goal

abbrev pub invariant-loop-place : goal.invariant-loop-place
invariant-loop-place l =
    twice_from (map key_view l.keys) l.place (map key_view (drop l.place l.keys)) ≡ first_twice (map key_view l.keys)
