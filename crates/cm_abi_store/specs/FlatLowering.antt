-- What core values pass a value, by its layout (CanonicalABI.md, "Flattening" and "Flat Lowering").
use Rattle.std.specs.Prelude.{ℕ, zero, suc, ◌+◌, ◌*◌, ◌%◌, ◌^◌, ◌≤◌, ◌==◌, ⊤, List, [], ◌++◌}
use Rattle.std.specs.Prelude.{if◌then◌else◌, Option, Some, None}
use Rattle.cm_types.specs.Values.{Val, Vals, no_vals, val, text, elements, parts, bare, bearing}
use Rattle.cm_types.specs.Values.{handle, count_of}
use Rattle.cm_layout.specs.Laid.{Laid}
use Rattle.cm_layout.specs.Shapes.{LayoutTy, Shape, Parts, Payloads, leaf_shape, string_shape}
use Rattle.cm_layout.specs.Shapes.{list_shape, fixed_list_shape, fields_shape, cases_shape}
use Rattle.cm_layout.specs.Shapes.{handle_shape, no_parts, part, no_payloads, nothing, carried}
use Rattle.cm_layout.specs.declared.layouts.Leaf.{Leaf}
use Rattle.cm_layout.specs.declared.layouts.Leaf.TheVariants as leaf
use Rattle.cm_abi_model.specs.Parts.{part_count, handle_count}
use Rattle.cm_abi_model.specs.Receives.{behind_each, put}
use Rattle.cm_abi_model.specs.Requests.{text_bytes, text_units}
use Rattle.cm_abi_model.specs.Stores.{Given, Placed, number_of, place_of, placed, store_each}
use Rattle.cm_abi_store.specs.Storing.{number_in, stored_by}

-- the number that a leaf is passed as: one with a sign in two's complement of 32 bits, or of 64
-- where the leaf itself has as many
abbrev pub flat_number : Leaf → Val → ℕ
flat_number (leaf.Signed w) v = if w == 8 then number_in v else number_in v % 2 ^ 32
flat_number l v = number_in v

abbrev mutual
  -- the numbers in the slots of a value whose type has this shape, from this place on
  pub slots_by : Given → Shape → Val → ℕ → ℕ → ℕ → List Placed
  slots_by g (leaf_shape l) v s k h = put s (flat_number l v)
  slots_by g string_shape (text cs) s k h =
      put s (place_of g k) ++ put (s + 1) (text_units g.charset cs)
  slots_by g (list_shape e x) (elements vs) s k h =
      put s (place_of g k) ++ put (s + 1) (count_of vs)
  slots_by g (fixed_list_shape e x n) (parts vs) s k h = store_each (slots_by g x) e.width vs s k h
  slots_by g (fields_shape ps) (parts vs) s k h = slots_by_fields g ps vs s k h
  slots_by g (cases_shape d o ps) (bare i) s k h = put s i
  slots_by g (cases_shape d o ps) (bearing i v) s k h =
      put s i ++ slots_by_case g ps i v (s + 1) k h
  slots_by g (handle_shape x) (handle e) s k h = put s (number_of g h)
  slots_by g x v s k h = []

  -- those of fields
  pub slots_by_fields : Given → Parts → Vals → ℕ → ℕ → ℕ → List Placed
  slots_by_fields g no_parts vs s k h = []
  slots_by_fields g (part o e x ps) no_vals s k h = []
  slots_by_fields g (part o e x ps) (val v vs) s k h =
      slots_by g x v s k h
      ++ slots_by_fields g ps vs (s + e.width) (k + part_count v) (h + handle_count v)

  -- those of what the case of this number carries
  pub slots_by_case : Given → Payloads → ℕ → Val → ℕ → ℕ → ℕ → List Placed
  slots_by_case g no_payloads i v s k h = []
  slots_by_case g (nothing ps) zero v s k h = []
  slots_by_case g (nothing ps) (suc i) v s k h = slots_by_case g ps i v s k h
  slots_by_case g (carried e x ps) zero v s k h = slots_by g x v s k h
  slots_by_case g (carried e x ps) (suc i) v s k h = slots_by_case g ps i v s k h

-- those of what one case carries
abbrev pub slots_by_payload : Given → Option LayoutTy → Val → ℕ → ℕ → ℕ → List Placed
slots_by_payload g None v s k h = []
slots_by_payload g (Some l) v s k h = slots_by g l.shape v s k h

abbrev mutual
  -- the bytes of a value that is passed in slots: those of its strings and lists
  pub behind_by : Given → Shape → Val → ℕ → ℕ → List Placed
  behind_by g string_shape (text cs) k h = placed (place_of g k) (text_bytes g.charset cs)
  behind_by g (list_shape e x) (elements vs) k h =
      store_each (stored_by g x) e.size vs (place_of g k) (k + 1) h
  behind_by g (fixed_list_shape e x n) (parts vs) k h = behind_each (behind_by g x) vs k h
  behind_by g (fields_shape ps) (parts vs) k h = behind_by_fields g ps vs k h
  behind_by g (cases_shape d o ps) (bearing i v) k h = behind_by_case g ps i v k h
  behind_by g x v k h = []

  -- those of fields
  pub behind_by_fields : Given → Parts → Vals → ℕ → ℕ → List Placed
  behind_by_fields g no_parts vs k h = []
  behind_by_fields g (part o e x ps) no_vals k h = []
  behind_by_fields g (part o e x ps) (val v vs) k h =
      behind_by g x v k h ++ behind_by_fields g ps vs (k + part_count v) (h + handle_count v)

  -- those of what the case of this number carries
  pub behind_by_case : Given → Payloads → ℕ → Val → ℕ → ℕ → List Placed
  behind_by_case g no_payloads i v k h = []
  behind_by_case g (nothing ps) zero v k h = []
  behind_by_case g (nothing ps) (suc i) v k h = behind_by_case g ps i v k h
  behind_by_case g (carried e x ps) zero v k h = behind_by g x v k h
  behind_by_case g (carried e x ps) (suc i) v k h = behind_by_case g ps i v k h

-- those of what one case carries
abbrev pub behind_by_payload : Given → Option LayoutTy → Val → ℕ → ℕ → List Placed
behind_by_payload g None v k h = []
behind_by_payload g (Some l) v k h = behind_by g l.shape v k h

abbrev mutual
  -- a type of this shape is passed in so many slots: what it holds has its slots within them, and
  -- what its lists hold lies as it has to
  pub IsPassedIn : ℕ → Shape → Type 0
  IsPassedIn n (leaf_shape l) = 1 ≤ n
  IsPassedIn n string_shape = 2 ≤ n
  IsPassedIn n (list_shape e x) = (2 ≤ n) × Laid e.size x
  IsPassedIn n (fixed_list_shape e x c) = (c * e.width ≤ n) × IsPassedIn e.width x
  IsPassedIn n (fields_shape ps) = ArePassedIn n 0 ps
  IsPassedIn n (cases_shape d o ps) = (1 ≤ n) × PayloadsPassedIn n ps
  IsPassedIn n (handle_shape x) = 1 ≤ n

  -- those of fields, from a slot on
  pub ArePassedIn : ℕ → ℕ → Parts → Type 0
  ArePassedIn n s no_parts = ⊤
  ArePassedIn n s (part o e x ps) =
      (s + e.width ≤ n) × IsPassedIn e.width x × ArePassedIn n (s + e.width) ps

  -- those of what cases carry, behind the slot of the case
  pub PayloadsPassedIn : ℕ → Payloads → Type 0
  PayloadsPassedIn n no_payloads = ⊤
  PayloadsPassedIn n (nothing ps) = PayloadsPassedIn n ps
  PayloadsPassedIn n (carried e x ps) =
      (1 + e.width ≤ n) × IsPassedIn e.width x × PayloadsPassedIn n ps

-- what one case carries is passed in slots from this one on, of so many
abbrev pub PayloadIsPassed : ℕ → ℕ → Option LayoutTy → Type 0
PayloadIsPassed n s None = ⊤
PayloadIsPassed n s (Some l) = (s + l.head.width ≤ n) × IsPassedIn l.head.width l.shape
