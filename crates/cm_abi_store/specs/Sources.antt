-- What a source tells of a value that is stored by its layout (CanonicalABI.md, "Storing").
use Rattle.std.specs.Prelude.{◌≡◌, ℕ, zero, suc, ◌*◌, ⊤, List, [], length, Option, Some, None}
use Rattle.cm_types.specs.Values.{Val, Vals, text, bare, bearing}
use Rattle.cm_layout.specs.declared.heads.Head.{Head}
use Rattle.cm_layout.specs.Shapes.{LayoutTy, Shape, Parts, Payloads, part, no_payloads, nothing}
use Rattle.cm_layout.specs.Shapes.{carried}
use Rattle.cm_abi_model.specs.Parts.{handle_count_each, part_count_each}
use Rattle.cm_abi_model.specs.Stores.{Given, Placed, placed, store_each}
use Rattle.cm_abi_store.specs.FlatLowering.{behind_by_payload, slots_by_payload}
use Rattle.cm_abi_store.specs.Storing.{stored_by, stored_by_payload}

-- the scalars of a text
abbrev pub scalars_of : Val → List ℕ
scalars_of (text cs) = cs
scalars_of v = []

-- what the case of this number carries, if there is such a case and it carries anything
abbrev pub payload_in : Payloads → ℕ → Option LayoutTy
payload_in no_payloads i = None
payload_in (nothing ps) zero = None
payload_in (nothing ps) (suc i) = payload_in ps i
payload_in (carried e sh ps) zero = Some (record { head = e; shape = sh })
payload_in (carried e sh ps) (suc i) = payload_in ps i

-- the value of a case: its number, and what is carried, where the case carries anything and the
-- source has it
abbrev pub case_told : {S : Type 0} → (S → Shape → Val) → ℕ → Option LayoutTy → Option S → Val
case_told V i None source = bare i
case_told V i (Some l) None = bare i
case_told V i (Some l) (Some s) = bearing i (V s l.shape)

-- and what is asked of it holds
abbrev pub IsCarriedReady : {S : Type 0} → (S → Head → Shape → Type 0) → Option LayoutTy → Option S
    → Type 0
IsCarriedReady R None source = ⊤
IsCarriedReady R (Some l) None = ⊤
IsCarriedReady R (Some l) (Some s) = R s l.head l.shape

-- the bytes of what a case carries, at an address
abbrev pub carried_bytes : Given → Option LayoutTy → Val → ℕ → ℕ → ℕ → List Placed
carried_bytes g o (bearing i v) p k h = stored_by_payload g o v p k h
carried_bytes g o v p k h = []

-- the numbers in the slots of what a case carries, and the bytes behind them
abbrev pub carried_slots : Given → Option LayoutTy → Val → ℕ → ℕ → ℕ → List Placed
carried_slots g o (bearing i v) s k h = slots_by_payload g o v s k h
carried_slots g o v s k h = []

abbrev pub carried_behind : Given → Option LayoutTy → Val → ℕ → ℕ → List Placed
carried_behind g o (bearing i v) k h = behind_by_payload g o v k h
carried_behind g o v k h = []

-- a field with where it stands, before others
abbrev pub field_before : ℕ × LayoutTy → Parts → Parts
field_before p ps = part p.0 p.1.head p.1.shape ps

-- So many values in a row, of one layout, are stored as these bytes, and have no parts and no
-- handles.
pub record ArePlainBytes (g : Given) (l : LayoutTy) (vs : Vals) (count at k h : ℕ) (bytes : List ℕ)
    : Type 0 where
  pub stored : store_each (stored_by g l.shape) l.head.size vs at k h ≡ placed at bytes
  pub size : length bytes ≡ count * l.head.size
  pub parts : part_count_each vs ≡ 0
  pub handles : handle_count_each vs ≡ 0
