-- Imports and exports that are added one after another.
use Rattle.std.specs.Prelude.{◌≡◌, ℕ, List, ◌∷◌, ◌++◌, Option}
use Rattle.std.specs.List.{flat_map}
use Rattle.std.specs.Option.{option_map}
use Rattle.cm_types.specs.Signatures.{NamedExtern}
use Rattle.cm_wit_worlds.specs.Interfaces.{PlacedInterface, PlacedWorld}
use Rattle.cm_wit_meanings.specs.declared.fault.MeaningFault.{MeaningFault}
use Rattle.cm_wit_signature.specs.ItemFaults.{AreWithin, IsFaultWith}
use Rattle.cm_wit_signature.specs.Functions.{extern_funcs}
use Rattle.cm_wit_signature.specs.Signatures.{Scopes, externs_from}

-- these behind those, where they are there
abbrev pub behind : List NamedExtern → Option (List NamedExtern) → Option (List NamedExtern)
behind front others = option_map (λ es. front ++ es) others

-- the functions of imports or exports are within the limits of types
abbrev pub AreExternsWithin : List NamedExtern → Type 0
AreExternsWithin es = AreWithin (flat_map extern_funcs es)

-- Why imports or exports cannot be had.
abbrev pub AreExternsFault : Option (List NamedExtern) → MeaningFault → Type 0
AreExternsFault what f = IsFaultWith (flat_map extern_funcs) what f

-- What a number stands for was added: whatever others follow it, what stood there with the number
-- and the others behind it is what stands there now with the others behind it. The number of the
-- list of names of the next instance was l, and is m.
abbrev pub Adds : List PlacedInterface → PlacedWorld → Scopes → ℕ → ℕ → ℕ → ℕ → List NamedExtern
    → List NamedExtern → Type 0
Adds all w scopes own number l m old new = (ns : List ℕ)
    → behind old (externs_from all w scopes own l (number ∷ ns))
    ≡ behind new (externs_from all w scopes own m ns)
