-- Where the parts of what a call passes stand in its source (CanonicalABI.md, "Flattening" and
-- "Lifting" of strings and lists): each at its pointer.
use Rattle.std.specs.Prelude.{ℕ, zero, suc, ◌+◌, if◌then◌else◌, List, [], ◌∷◌, ◌++◌}
use Rattle.cm_types.specs.declared.core_value.CoreValue.{CoreValue}
use Rattle.cm_types.specs.Types.{Ty, Fields, Cases, string, list, fixed_list, fields, cases}
use Rattle.cm_types.specs.Types.{no_fields, field, no_cases, plain, carrying}
use Rattle.cm_types.specs.Values.{Val, Vals, no_vals, val, text, elements, parts, bearing}
use Rattle.cm_layout.specs.Sizes.{size_of}
use Rattle.cm_abi_model.specs.FlatShows.{width_of}
use Rattle.cm_abi_model.specs.Numbers.{wrapped_at}
use Rattle.cm_abi_model.specs.Requests.{is_spilled, tuple_of}
use Rattle.cm_abi_model.specs.Views.{View, Way}
use Rattle.cm_abi_model.specs.Places.{places_at, places_each}

abbrev mutual
  -- where the parts of the value that slots show begin, in reading order
  pub flat_places : View → List CoreValue → Ty → ℕ → Val → List ℕ
  flat_places w s string k (text cs) = wrapped_at 4 s k ∷ []
  flat_places w s (list t) k (elements vs) =
      wrapped_at 4 s k ∷ places_each (places_at w t) (size_of t) (wrapped_at 4 s k) vs
  flat_places w s (fixed_list t n) k (parts vs) =
      places_each (flat_places w s t) (width_of t) k vs
  flat_places w s (fields f fs) k (parts vs) = flat_places_in_fields w s fs k vs
  flat_places w s (cases c cs) k (bearing i v) = flat_places_in_payload w s cs (k + 1) i v
  flat_places w s t k v = []

  pub flat_places_in_fields : View → List CoreValue → Fields → ℕ → Vals → List ℕ
  flat_places_in_fields w s no_fields k vs = []
  flat_places_in_fields w s (field l t fs) k no_vals = []
  flat_places_in_fields w s (field l t fs) k (val v vs) =
      flat_places w s t k v ++ flat_places_in_fields w s fs (k + width_of t) vs

  pub flat_places_in_payload : View → List CoreValue → Cases → ℕ → ℕ → Val → List ℕ
  flat_places_in_payload w s no_cases k i v = []
  flat_places_in_payload w s (plain l cs) k zero v = []
  flat_places_in_payload w s (plain l cs) k (suc i) v = flat_places_in_payload w s cs k i v
  flat_places_in_payload w s (carrying l t cs) k zero v = flat_places w s t k v
  flat_places_in_payload w s (carrying l t cs) k (suc i) v = flat_places_in_payload w s cs k i v

-- where the parts of what a call passes begin; where it is spilled, its tuple is the first
abbrev pub call_places : View → Way → Fields → List CoreValue → Val → List ℕ
call_places w way types slots v =
    if is_spilled way types
    then wrapped_at 4 slots 0 ∷ places_at w (tuple_of types) (wrapped_at 4 slots 0) v
    else flat_places w slots (tuple_of types) 0 v
