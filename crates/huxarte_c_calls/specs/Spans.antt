-- Parts of bytes (this project's own choice).
use Rattle.std.specs.Prelude.{◌≤◌, ◌+◌, ℕ, List, drop, length, map, take}
use Rattle.std.specs.List.{AllByRecursion}
use Rattle.huxarte_c_calls.specs.declared.spans.HuxSpan.{HuxSpan}

-- the bytes of a part
abbrev pub part_of : List ℕ → HuxSpan → List ℕ
part_of bytes s = take s.length (drop s.at bytes)

-- the bytes of each part
abbrev pub parts_of : List ℕ → List HuxSpan → List (List ℕ)
parts_of bytes spans = map (part_of bytes) spans

-- no part passes the end of the bytes
abbrev pub AreWithin : List ℕ → List HuxSpan → Type 0
AreWithin bytes spans = AllByRecursion (λ s. s.at + s.length ≤ length bytes) spans
