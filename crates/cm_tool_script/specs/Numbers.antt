-- Numbers as scripts write them (this project's own choice).
use Rattle.std.specs.Prelude.{◌≡◌, ℕ, ◌<◌, List, length, slice_index, true}
use Rattle.std.specs.Char.{is_ascii_digit}
use Rattle.std.specs.List.{list_all}

-- A text is one or more ASCII digits, and begins with no `0`, code 48, where there are more.
abbrev pub IsDecimal : List ℕ → Type 0
IsDecimal text =
    (list_all is_ascii_digit text ≡ true)
    × (0 < length text)
    × (slice_index text 0 ≡ 48 → length text ≡ 1)
