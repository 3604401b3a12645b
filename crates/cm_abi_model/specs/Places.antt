-- Where the parts of a value stand in its source (CanonicalABI.md, "Loading" and "Flattening" of
-- strings and lists): each at its pointer.
use Rattle.std.specs.Prelude.{ℕ, zero, suc, ◌+◌, List, [], ◌∷◌, ◌++◌}
use Rattle.cm_types.specs.Types.{Ty, Fields, Cases, string, list, fixed_list, fields, cases}
use Rattle.cm_types.specs.Types.{no_fields, field, no_cases, plain, carrying}
use Rattle.cm_types.specs.Values.{Val, Vals, no_vals, val, text, elements, parts, bearing}
use Rattle.cm_layout.specs.Alignment.{align_to}
use Rattle.cm_layout.specs.Sizes.{align_of, size_of, payload_offset}
use Rattle.cm_abi_model.specs.Numbers.{number_at}
use Rattle.cm_abi_model.specs.Views.{View}

-- those of the parts of values in a row
abbrev pub places_each : (ℕ → Val → List ℕ) → ℕ → ℕ → Vals → List ℕ
places_each P size at no_vals = []
places_each P size at (val v vs) = P at v ++ places_each P size (at + size) vs

abbrev mutual
  -- where the parts of the value that bytes at an address show begin, in reading order
  pub places_at : View → Ty → ℕ → Val → List ℕ
  places_at w string p (text cs) = number_at 4 w.memory p ∷ []
  places_at w (list t) p (elements vs) =
      number_at 4 w.memory p
      ∷ places_each (places_at w t) (size_of t) (number_at 4 w.memory p) vs
  places_at w (fixed_list t n) p (parts vs) = places_each (places_at w t) (size_of t) p vs
  places_at w (fields k fs) p (parts vs) = places_in_fields w fs p 0 vs
  places_at w (cases k cs) p (bearing i v) = places_in_payload w cs (p + payload_offset cs) i v
  places_at w t p v = []

  pub places_in_fields : View → Fields → ℕ → ℕ → Vals → List ℕ
  places_in_fields w no_fields p end vs = []
  places_in_fields w (field l t fs) p end no_vals = []
  places_in_fields w (field l t fs) p end (val v vs) =
      places_at w t (p + align_to (align_of t) end) v
      ++ places_in_fields w fs p (align_to (align_of t) end + size_of t) vs

  pub places_in_payload : View → Cases → ℕ → ℕ → Val → List ℕ
  places_in_payload w no_cases p i v = []
  places_in_payload w (plain l cs) p zero v = []
  places_in_payload w (plain l cs) p (suc i) v = places_in_payload w cs p i v
  places_in_payload w (carrying l t cs) p zero v = places_at w t p v
  places_in_payload w (carrying l t cs) p (suc i) v = places_in_payload w cs p i v
