use Rattle.std.proofs.Common.{◌≡◌, ◌++◌}
use Rattle.std.specs.List.{flat_map}
use Rattle.std.specs.String.{string_bytes}
use Rattle.cm_values.specs.Quotes.{in_quotes}
use Rattle.cm_values.proofs.quotes.put_characters.Given as goal

-- these characters were written
abbrev pub invariant-loop-character : goal.invariant-loop-character
invariant-loop-character l = string_bytes l.out ≡ string_bytes l.initial.out ++ flat_map (in_quotes 0x22) l.yielded
