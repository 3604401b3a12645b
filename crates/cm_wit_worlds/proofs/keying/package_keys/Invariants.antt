use Rattle.std.proofs.Common.{map}
use Rattle.std.specs.String.{string_bytes}
use Rattle.cm_names.specs.Keys.{key_view}
use Rattle.cm_wit_worlds.proofs.KeyingLaws.{Rests}
use Rattle.cm_wit_worlds.proofs.keying.package_keys.Given as goal

abbrev pub invariant-loop-name : goal.invariant-loop-name
invariant-loop-name l = Rests (λ x. x) (map (λ t. (0, string_bytes t))) key_view l.names l.name-index l.keys.items
