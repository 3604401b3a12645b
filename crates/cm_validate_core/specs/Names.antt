-- Names without ASCII case.
use Rattle.std.specs.Prelude.{ℕ, List, map}
use Rattle.std.specs.Char.{to_ascii_lowercase}

-- a name without ASCII case
abbrev pub without_case : List ℕ → List ℕ
without_case name = map to_ascii_lowercase name
