-- Resources of the world itself.
use Rattle.std.specs.Prelude.{◌≡◌, ℕ, List, Some}
use Rattle.cm_wit_meanings.specs.Scopes.{Meaning, Scope, value, resource}

-- A resource that a name stands for has a number of its own in the world: it is of no other
-- component.
abbrev pub IsOwn : Meaning → Type 0
IsOwn (value t) = Unit {0}
IsOwn (resource r) = r.component ≡ 0

-- Each resource that names stand for is the world's own.
abbrev pub AreOwn : Scope → Type 0
AreOwn s = (name : List ℕ) (m : Meaning) → s name ≡ Some m → IsOwn m
