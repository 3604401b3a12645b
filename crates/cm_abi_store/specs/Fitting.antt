-- Whether a value can be stored by a layout in a memory (CanonicalABI.md, "Storing").
use Rattle.std.specs.Prelude.{◌≡◌, ℕ, zero, suc, ◌+◌, ◌*◌, ◌<◌, ◌≤◌, ⊤, length, Option, Some, None}
use Rattle.cm_types.specs.Values.{Val, Vals, no_vals, val, text, elements, parts, bare, bearing}
use Rattle.cm_types.specs.Values.{handle, count_of}
use Rattle.cm_layout.specs.Laid.{Laid}
use Rattle.cm_layout.specs.Shapes.{LayoutTy, Shape, Parts, Payloads, leaf_shape, string_shape}
use Rattle.cm_layout.specs.Shapes.{list_shape, fixed_list_shape, fields_shape, cases_shape}
use Rattle.cm_layout.specs.Shapes.{handle_shape, no_parts, part, no_payloads, nothing, carried}
use Rattle.cm_abi_model.specs.Parts.{part_count, handle_count}
use Rattle.cm_abi_model.specs.Requests.{text_bytes}
use Rattle.cm_abi_model.specs.Stores.{Given, place_of}

-- there is a place for the part of this number, with room for so many bytes in a memory of so many
abbrev pub HasRoom : ℕ → Given → ℕ → ℕ → Type 0
HasRoom n g k size = (k < length g.places) × (place_of g k + size ≤ n)

-- values in a row fit
abbrev pub FitEach : (Val → ℕ → ℕ → Type 0) → Vals → ℕ → ℕ → Type 0
FitEach F no_vals k h = ⊤
FitEach F (val v vs) k h = F v k h × FitEach F vs (k + part_count v) (h + handle_count v)

abbrev mutual
  -- a value is one of a type of this shape, each of its parts, from the one of this number on, has
  -- a place in a memory of so many bytes, and each of its handles a number
  pub Fits : ℕ → Given → Shape → Val → ℕ → ℕ → Type 0
  Fits n g (leaf_shape l) v k h = (part_count v ≡ 0) × (handle_count v ≡ 0)
  Fits n g string_shape (text cs) k h = HasRoom n g k (length (text_bytes g.charset cs))
  Fits n g (list_shape e s) (elements vs) k h =
      HasRoom n g k (count_of vs * e.size) × FitEach (Fits n g s) vs (k + 1) h
  Fits n g (fixed_list_shape e s c) (parts vs) k h =
      (count_of vs ≡ c) × FitEach (Fits n g s) vs k h
  Fits n g (fields_shape ps) (parts vs) k h = FitFields n g ps vs k h
  Fits n g (cases_shape d o ps) (bare i) k h = ⊤
  Fits n g (cases_shape d o ps) (bearing i v) k h = FitsCase n g ps i v k h
  Fits n g (handle_shape x) (handle e) k h = h < length g.numbers
  Fits n g s v k h = ⊥

  pub FitFields : ℕ → Given → Parts → Vals → ℕ → ℕ → Type 0
  FitFields n g no_parts no_vals k h = ⊤
  FitFields n g no_parts (val v vs) k h = ⊥
  FitFields n g (part o e s ps) no_vals k h = ⊥
  FitFields n g (part o e s ps) (val v vs) k h =
      Fits n g s v k h × FitFields n g ps vs (k + part_count v) (h + handle_count v)

  pub FitsCase : ℕ → Given → Payloads → ℕ → Val → ℕ → ℕ → Type 0
  FitsCase n g no_payloads i v k h = ⊥
  FitsCase n g (nothing ps) zero v k h = ⊥
  FitsCase n g (nothing ps) (suc i) v k h = FitsCase n g ps i v k h
  FitsCase n g (carried e s ps) zero v k h = Fits n g s v k h
  FitsCase n g (carried e s ps) (suc i) v k h = FitsCase n g ps i v k h

-- what one case carries lies within a memory of so many bytes at an address
abbrev pub PayloadLies : ℕ → ℕ → Option LayoutTy → Type 0
PayloadLies n at None = ⊤
PayloadLies n at (Some l) = (at + l.head.size ≤ n) × Laid l.head.size l.shape
