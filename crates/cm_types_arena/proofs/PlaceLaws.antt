-- The places of a definition's parts are among the types.
use Rattle.std.proofs.Common.{ℕ, ◌<◌, ◌≤◌, List, [], ◌∷◌, ◌++◌, map, Option, Some, None, arith}
use Rattle.std.specs.List.{AllByRecursion}
use Rattle.std.specs.Coded.{le_prop, Unit-prop}
use Rattle.cm_types_arena.specs.declared.type_defs.TypeDef.{TypeDef}
use Rattle.cm_types_arena.specs.declared.type_defs.TypeDef.TheVariants as def
use Rattle.cm_types_arena.specs.declared.type_defs.CaseDef.{CaseDef}
use Rattle.cm_types_arena.specs.TypeDefs.{IsBelow, option_list, payload_places, def_parts}
use Rattle.cm_types_arena.specs.Places.{HasParts}

abbrev pub AreBelow : ℕ → List ℕ → Type 0
AreBelow n ps = AllByRecursion (λ p. p < n) ps

pub mapped_below : {X : Type 0} (n : ℕ) (f : X → ℕ) (xs : List X) → AllByRecursion (λ x. f x < n) xs → AreBelow n (map f xs)
mapped_below n f [] h = tt
mapped_below n f (x ∷ xs) h = (h.0, mapped_below n f xs h.1)

option_below : (n : ℕ) (o : Option ℕ) (ps : List ℕ) → IsBelow n o → AreBelow n ps → AreBelow n (option_list o ++ ps)
option_below n None ps h g = g
option_below n (Some p) ps h g = (h, g)

one_below : (n : ℕ) (o : Option ℕ) → IsBelow n o → AreBelow n (option_list o)
one_below n None h = tt
one_below n (Some p) h = (h, tt)

payloads_below : (n : ℕ) (cs : List CaseDef) → AllByRecursion (λ c. IsBelow n c.payload) cs → AreBelow n (payload_places cs)
payloads_below n [] h = tt
payloads_below n (c ∷ cs) h = option_below n c.payload (payload_places cs) h.0 (payloads_below n cs h.1)

pub parts_below : (n : ℕ) (d : TypeDef) → HasParts n d → AreBelow n (def_parts d)
parts_below n (def.Primitive p) h = tt
parts_below n (def.List p) h = (h, tt)
parts_below n (def.FixedList p c) h = (h, tt)
parts_below n (def.Record fs) h = mapped_below n (λ f. f.ty) fs.items h
parts_below n (def.Tuple ps) h = h
parts_below n (def.Variant cs) h = payloads_below n cs.items h
parts_below n (def.Enum ls) h = tt
parts_below n (def.Flags ls) h = tt
parts_below n (def.Option p) h = (h, tt)
parts_below n (def.Result ok error) h = option_below n ok (option_list error) h.0 (one_below n error h.1)
parts_below n (def.Own r) h = tt
parts_below n (def.Borrow r) h = tt

-- more types

pub below_more : (m n : ℕ) (ps : List ℕ) → m ≤ n → AreBelow m ps → AreBelow n ps
below_more m n [] le h = tt
below_more m n (p ∷ ps) le h = (omega (arith, h.0), below_more m n ps le h.1)

pub option_more : (m n : ℕ) (o : Option ℕ) → m ≤ n → IsBelow m o → IsBelow n o
option_more m n None le h = tt
option_more m n (Some p) le h = omega (arith, h)

pub below_prop : (n : ℕ) (o : Option ℕ) → IsProp (IsBelow n o)
below_prop n None = Unit-prop
below_prop n (Some p) = le_prop
