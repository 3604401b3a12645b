-- What was written behind a text.
use Rattle.std.specs.Prelude.{◌≡◌, ◌++◌, ℕ, List, OnOk, Option, Some, None, Result, take}
use Rattle.std.specs.String.{string_bytes}
use Rattle.std.specs.declared.alloc.AllocError.{AllocError}
use Rattle.std.specs.declared.alloc.Global.{Global}
use Rattle.std.specs.declared.string.String.{String}

-- A text was put behind another, unless memory ran out.
abbrev pub Writes : List ℕ → String Global → String Global → Result (Unit {0}) AllocError → Type 0
Writes part old new r = OnOk r (string_bytes new ≡ string_bytes old ++ part)

-- the front of a text that is looked at: so many bytes of it, or all
abbrev pub front : Option ℕ → List ℕ → List ℕ
front None text = text
front (Some n) text = take n text

-- As far as the front goes, a text was put behind another, unless memory ran out.
abbrev pub Shows : Option ℕ → List ℕ → String Global → String Global
    → Result (Unit {0}) AllocError → Type 0
Shows room part old new r =
    OnOk r (front room (string_bytes new) ≡ front room (string_bytes old ++ part))
