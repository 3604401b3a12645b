-- What comes of adding what a text stands for to the types of an arena.
use Rattle.std.specs.Prelude.{◌≡◌, ℕ, ◌<◌, List, Option, Some, Result, IfOk, IfErr, length, map}
use Rattle.std.specs.Global.{Vec}
use Rattle.std.specs.List.{AllByRecursion}
use Rattle.std.specs.Option.{option_map}
use Rattle.cm_types.specs.Types.{Ty}
use Rattle.cm_types_arena.specs.Places.{funcs_of, types_of}
use Rattle.cm_types_arena.specs.TypeDefs.{IsBelow, type_at}
use Rattle.cm_types_arena.specs.declared.types.Types.{Types}
use Rattle.cm_wit_meanings.specs.declared.fault.MeaningFault.{MeaningFault}
use Rattle.cm_wit_meanings.specs.Meanings.{tuple_of}
use Rattle.cm_wit_meanings.specs.Places.{Extends}
use Rattle.cm_wit_meanings.specs.Faults.{IsFaultIn, IsPayloadFault, IsTypeFault}

-- What something stands for was added to the old types, which became the new ones. An answer stands
-- among these for what is meant, and a fault says why there is none; earlier types, and those of
-- functions, stay as they were.
pub record Added {A D : Type 0} (view : List Ty → D → A) (IsThere : ℕ → D → Type 0)
    (IsFault : Option A → MeaningFault → Type 0) (old new : Types) (meant : Option A)
    (r : Result D MeaningFault) : Type 0 where
  pub there : IfOk r (IsThere (length (types_of new)))
  pub meaning : IfOk r (λ d. meant ≡ Some (view (types_of new) d))
  pub fault : IfErr r (IsFault meant)
  pub grown : Extends (types_of old) (types_of new)
  pub funcs : funcs_of new ≡ funcs_of old

-- a type, by its place
abbrev pub is_place : ℕ → ℕ → Type 0
is_place count p = p < count

abbrev pub AddedType : Types → Types → Option Ty → Result ℕ MeaningFault → Type 0
AddedType old new meant r = Added type_at is_place IsTypeFault old new meant r

-- a payload, if there is one
abbrev pub payload_at : List Ty → Option ℕ → Option Ty
payload_at types p = option_map (type_at types) p

abbrev pub AddedPayload : Types → Types → Option (Option Ty) → Result (Option ℕ) MeaningFault
    → Type 0
AddedPayload old new meant r = Added payload_at IsBelow IsPayloadFault old new meant r

-- the parts of a tuple
abbrev pub parts_at : List Ty → Vec ℕ → List Ty
parts_at types places = map (type_at types) places.items

abbrev pub are_places : ℕ → Vec ℕ → Type 0
are_places count places = AllByRecursion (is_place count) places.items

abbrev pub AddedParts : Types → Types → Option (List Ty) → Result (Vec ℕ) MeaningFault → Type 0
AddedParts old new meant r = Added parts_at are_places (IsFaultIn tuple_of) old new meant r
