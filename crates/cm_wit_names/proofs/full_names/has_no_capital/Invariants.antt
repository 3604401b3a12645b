use Rattle.std.proofs.Common.{◌≡◌, ◌++◌, map, take, drop}
use Rattle.std.specs.Char.{to_ascii_lowercase}
use Rattle.cm_wit_names.proofs.full_names.has_no_capital.Given as goal

abbrev pub invariant-loop-index : goal.invariant-loop-index
invariant-loop-index l = map to_ascii_lowercase l.text ≡ take l.index l.text ++ map to_ascii_lowercase (drop l.index l.text)
