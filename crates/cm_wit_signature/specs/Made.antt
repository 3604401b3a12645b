-- The signature of a world, of what it is made of.
use Rattle.std.specs.Prelude.{ℕ, List, Option}
use Rattle.cm_types.specs.Signatures.{SignatureTy}
use Rattle.cm_names.specs.Keys.{Key}
use Rattle.cm_wit_worlds.specs.Interfaces.{PlacedInterface, PlacedWorld}
use Rattle.cm_wit_meanings.specs.Scopes.{Meaning, scope_at}
use Rattle.cm_wit_signature.specs.Signatures.{externs_from, with_exports}

-- That of these interfaces and this world, where these keys stand for what a table has, the list
-- of names of the world's own functions is `own`, and the first exported instance has the list
-- `first`.
abbrev pub signature_made : List PlacedInterface → PlacedWorld → List Key
    → List (Option Meaning) → ℕ → ℕ → List ℕ → List ℕ → Option SignatureTy
signature_made all w keys table own first into out =
    with_exports (externs_from all w (λ l. scope_at keys table l) own 0 into)
    (externs_from all w (λ l. scope_at keys table l) own first out)
