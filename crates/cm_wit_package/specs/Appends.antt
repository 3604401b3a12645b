-- Texts that are added to.
use Rattle.std.specs.Prelude.{◌≡◌, ◌++◌, ℕ, List}
use Rattle.std.specs.declared.string.String.{String}
use Rattle.std.specs.String.{string_bytes}

-- The text was added behind what stood there.
abbrev pub Appends : {Z : Type 0} → List ℕ → String Z → String Z → Type 0
Appends text old new = string_bytes new ≡ string_bytes old ++ text
