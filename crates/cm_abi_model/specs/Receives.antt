-- What the receiver of a call has once a value was lowered (CanonicalABI.md, "Lowering").
use Rattle.std.specs.Prelude.{◌≡◌, ℕ, zero, suc, ◌+◌, ◌^◌, ◌<◌, ⊤, Bool, true, false, length}
use Rattle.std.specs.Prelude.{if◌then◌else◌, List, [], ◌∷◌, ◌++◌, map, Some}
use Rattle.cm_types.specs.declared.core_value.CoreKind.{CoreKind}
use Rattle.cm_types.specs.declared.core_value.CoreKind.TheVariants as kind
use Rattle.cm_types.specs.declared.core_value.CoreValue.{CoreValue}
use Rattle.cm_types.specs.Types.{Width, bits_8, bits_16, bits_32, bits_64}
use Rattle.cm_types.specs.Types.{Ty, Fields, Cases, bool, signed, unsigned, char}
use Rattle.cm_types.specs.Types.{string, list, fixed_list, fields, cases, flags, own, borrow}
use Rattle.cm_types.specs.Types.{no_fields, field, no_cases, plain, carrying}
use Rattle.cm_types.specs.Values.{Val, Vals, HandleValue, no_vals, val, truth, signed_number}
use Rattle.cm_types.specs.Values.{number, scalar, text, elements, parts, bare, bearing, flag_set}
use Rattle.cm_types.specs.Values.{handle, count_of, HasType}
use Rattle.cm_handles.specs.Handles.{IsSoundHandles, handle_at}
use Rattle.cm_handles.specs.declared.handle.HandleKind.{HandleKind}
use Rattle.cm_handles.specs.declared.handle.HandleKind.TheVariants.{Owned, Borrowed}
use Rattle.cm_types.specs.CoreValues.{kind_of}
use Rattle.cm_abi_model.specs.Numbers.{slot_at}
use Rattle.cm_layout.specs.Sizes.{size_of}
use Rattle.cm_layout.specs.Flattening.{flat_of_fields}
use Rattle.cm_abi_model.specs.Views.{View, Way, implements}
use Rattle.cm_abi_model.specs.FlatShows.{width_of}
use Rattle.cm_abi_model.specs.Denotes.{Denotes}
use Rattle.cm_abi_model.specs.Parts.{part_count, handle_count, CasesFit}
use Rattle.cm_abi_model.specs.Requests.{text_bytes, text_units, stored_charset}
use Rattle.cm_abi_model.specs.Requests.{CanStore, call_parts}
use Rattle.cm_abi_model.specs.Regions.{AreApart, ArePlaced}
use Rattle.cm_types.specs.Spellable.{are_spellable}
use Rattle.cm_abi_model.specs.Requests.{is_spilled, tuple_of}
use Rattle.cm_abi_model.specs.Stores.{Placed, Given, place_of, number_of, Holds, placed}
use Rattle.cm_abi_model.specs.Stores.{from_signed, store_each, stored, IsBeside}

-- ---- core values

-- the bytes of the number that a narrow one is widened to: those of a core value
abbrev pub slot_bytes : Width → ℕ
slot_bytes bits_8 = 4
slot_bytes bits_16 = 4
slot_bytes bits_32 = 4
slot_bytes bits_64 = 8

-- a number in a slot
abbrev pub put : ℕ → ℕ → List Placed
put k n = (k, n) ∷ []

abbrev mutual
  -- the numbers in the slots of a value, from this place on: narrow numbers widened with zeros,
  -- signed ones as their two's complement of 32 bits, or of 64
  pub slots_of : Given → Ty → Val → ℕ → ℕ → ℕ → List Placed
  slots_of g bool (truth b) s k h = put s (if b then 1 else 0)
  slots_of g (signed w) (signed_number z) s k h = put s (from_signed (slot_bytes w) z)
  slots_of g (unsigned w) (number n) s k h = put s n
  slots_of g char (scalar c) s k h = put s c
  slots_of g string (text cs) s k h = put s (place_of g k) ++ put (s + 1) (text_units g.charset cs)
  slots_of g (list t) (elements vs) s k h = put s (place_of g k) ++ put (s + 1) (count_of vs)
  slots_of g (fixed_list t n) (parts vs) s k h = store_each (slots_of g t) (width_of t) vs s k h
  slots_of g (fields f fs) (parts vs) s k h = slots_of_fields g fs vs s k h
  slots_of g (cases c cs) (bare i) s k h = put s i
  slots_of g (cases c cs) (bearing i v) s k h = put s i ++ slots_of_payload g cs i v (s + 1) k h
  slots_of g (flags ls) (flag_set n) s k h = put s n
  slots_of g (own r) (handle e) s k h = put s (number_of g h)
  slots_of g (borrow r) (handle e) s k h = put s (number_of g h)
  slots_of g t v s k h = []

  pub slots_of_fields : Given → Fields → Vals → ℕ → ℕ → ℕ → List Placed
  slots_of_fields g no_fields vs s k h = []
  slots_of_fields g (field l t fs) no_vals s k h = []
  slots_of_fields g (field l t fs) (val v vs) s k h =
      slots_of g t v s k h
      ++ slots_of_fields g fs vs (s + width_of t) (k + part_count v) (h + handle_count v)

  pub slots_of_payload : Given → Cases → ℕ → Val → ℕ → ℕ → ℕ → List Placed
  slots_of_payload g no_cases i v s k h = []
  slots_of_payload g (plain l cs) zero v s k h = []
  slots_of_payload g (plain l cs) (suc i) v s k h = slots_of_payload g cs i v s k h
  slots_of_payload g (carrying l t cs) zero v s k h = slots_of g t v s k h
  slots_of_payload g (carrying l t cs) (suc i) v s k h = slots_of_payload g cs i v s k h

-- slots have each of these numbers at its place
abbrev pub SlotsHold : List CoreValue → List Placed → Type 0
SlotsHold slots [] = ⊤
SlotsHold slots (n ∷ ns) = (slot_at slots n.0 ≡ n.1) × SlotsHold slots ns

-- what the slots hold: they are of these kinds, have the numbers that are put in them, and 0 in
-- those that none is put in
pub record AreNumbers (kinds : List CoreKind) (slots : List CoreValue) (puts : List Placed)
    : Type 0 where
  pub of_kinds : map kind_of slots ≡ kinds
  pub numbers : SlotsHold slots puts
  pub others : (k : ℕ) → IsBeside k puts → slot_at slots k ≡ 0

-- ---- bytes behind the pointers in core values

-- those of each value
abbrev pub behind_each : (Val → ℕ → ℕ → List Placed) → Vals → ℕ → ℕ → List Placed
behind_each B no_vals k h = []
behind_each B (val v vs) k h =
    B v k h ++ behind_each B vs (k + part_count v) (h + handle_count v)

abbrev mutual
  -- the bytes of a value that is passed in slots: those of its strings and lists
  pub behind : Given → Ty → Val → ℕ → ℕ → List Placed
  behind g string (text cs) k h = placed (place_of g k) (text_bytes g.charset cs)
  behind g (list t) (elements vs) k h =
      store_each (stored g t) (size_of t) vs (place_of g k) (k + 1) h
  behind g (fixed_list t n) (parts vs) k h = behind_each (behind g t) vs k h
  behind g (fields f fs) (parts vs) k h = behind_fields g fs vs k h
  behind g (cases c cs) (bearing i v) k h = behind_payload g cs i v k h
  behind g t v k h = []

  pub behind_fields : Given → Fields → Vals → ℕ → ℕ → List Placed
  behind_fields g no_fields vs k h = []
  behind_fields g (field l t fs) no_vals k h = []
  behind_fields g (field l t fs) (val v vs) k h =
      behind g t v k h ++ behind_fields g fs vs (k + part_count v) (h + handle_count v)

  pub behind_payload : Given → Cases → ℕ → Val → ℕ → ℕ → List Placed
  behind_payload g no_cases i v k h = []
  behind_payload g (plain l cs) zero v k h = []
  behind_payload g (plain l cs) (suc i) v k h = behind_payload g cs i v k h
  behind_payload g (carrying l t cs) zero v k h = behind g t v k h
  behind_payload g (carrying l t cs) (suc i) v k h = behind_payload g cs i v k h

-- ---- handles

-- a handle of a value, as its type has it: to be owned, or to be borrowed
pub data HandleLeaf : Type 0 where
  owned_leaf : HandleValue → HandleLeaf
  borrowed_leaf : HandleValue → HandleLeaf

-- those of each value
abbrev pub leaves_each : (Val → List HandleLeaf) → Vals → List HandleLeaf
leaves_each L no_vals = []
leaves_each L (val v vs) = L v ++ leaves_each L vs

abbrev mutual
  -- the handles of a value of a type, in reading order
  pub leaves_in : Ty → Val → List HandleLeaf
  leaves_in (list t) (elements vs) = leaves_each (leaves_in t) vs
  leaves_in (fixed_list t n) (parts vs) = leaves_each (leaves_in t) vs
  leaves_in (fields k fs) (parts vs) = leaves_in_fields fs vs
  leaves_in (cases k cs) (bearing i v) = leaves_in_payload cs i v
  leaves_in (own r) (handle h) = owned_leaf h ∷ []
  leaves_in (borrow r) (handle h) = borrowed_leaf h ∷ []
  leaves_in t v = []

  pub leaves_in_fields : Fields → Vals → List HandleLeaf
  leaves_in_fields no_fields vs = []
  leaves_in_fields (field l t fs) no_vals = []
  leaves_in_fields (field l t fs) (val v vs) = leaves_in t v ++ leaves_in_fields fs vs

  pub leaves_in_payload : Cases → ℕ → Val → List HandleLeaf
  leaves_in_payload no_cases i v = []
  leaves_in_payload (plain l cs) zero v = []
  leaves_in_payload (plain l cs) (suc i) v = leaves_in_payload cs i v
  leaves_in_payload (carrying l t cs) zero v = leaves_in t v
  leaves_in_payload (carrying l t cs) (suc i) v = leaves_in_payload cs i v

-- an index has a handle of this kind to the resource of the value, lent to nobody
abbrev pub HasHandle : View → ℕ → HandleKind → HandleValue → Type 0
HasHandle w index kind h =
    handle_at w.table index
    ≡ Some (record
    { resource = h.resource; serial = h.serial; lends = 0; rep = h.rep; kind = kind })

-- The number stands for the handle: it is the index of one that owns the resource; of one that is
-- borrowed for this call; or the representation, where the receiver implements the resource.
abbrev pub StandsForBorrow : Bool → View → ℕ → HandleValue → Type 0
StandsForBorrow true w n h = n ≡ h.rep
StandsForBorrow false w n h = HasHandle w n (Borrowed w.call) h

abbrev pub StandsFor : View → ℕ → HandleLeaf → Type 0
StandsFor w n (owned_leaf h) = HasHandle w n Owned h
StandsFor w n (borrowed_leaf h) = StandsForBorrow (implements w h.resource) w n h

-- no handle that is borrowed is to a resource that the view implements
abbrev pub NoneImplemented : View → List HandleLeaf → Type 0
NoneImplemented w [] = ⊤
NoneImplemented w (owned_leaf h ∷ leaves) = NoneImplemented w leaves
NoneImplemented w (borrowed_leaf h ∷ leaves) =
    (implements w h.resource ≡ false) × NoneImplemented w leaves

-- each of the numbers from this one on stands for its handle
abbrev pub AllStand : View → Given → ℕ → List HandleLeaf → Type 0
AllStand w g h [] = ⊤
AllStand w g h (leaf ∷ leaves) = StandsFor w (number_of g h) leaf × AllStand w g (h + 1) leaves

-- ---- a call

-- the bytes that the tuple of the types is stored as, spilled or behind its core values
abbrev pub call_bytes : Given → Way → Fields → Val → List Placed
call_bytes g way types v =
    if is_spilled way types
    then stored g (tuple_of types) v (place_of g 0) 1 0
    else behind g (tuple_of types) v 0 0

-- the kinds of the core values that pass the tuple, and the numbers in them
abbrev pub call_kinds : Way → Fields → List CoreKind
call_kinds way types = if is_spilled way types then kind.I32 ∷ [] else flat_of_fields types

abbrev pub call_numbers : Given → Way → Fields → Val → List Placed
call_numbers g way types v =
    if is_spilled way types then put 0 (place_of g 0) else slots_of g (tuple_of types) v 0 0 0

-- A call passes a value in a view: its core values are as many as pass the types, each of its kind,
-- and denote the value.
pub record Passes (w : View) (way : Way) (types : Fields) (slots : List CoreValue) (v : Val)
    : Type 0 where
  pub of_kinds : map kind_of slots ≡ call_kinds way types
  pub denoted : Denotes w way types slots v

-- In a view the core values are the least that denote a value, with every part of it at the place
-- that was given for it, aligned and inside the memory, no two of them with an address in common,
-- and with its handles in the table.
pub record Receives (w : View) (way : Way) (types : Fields) (slots : List CoreValue) (g : Given)
    (v : Val) : Type 0 where
  pub typed : HasType (tuple_of types) v
  pub stored_in : g.charset ≡ stored_charset w.encoding
  pub numbers : AreNumbers (call_kinds way types) slots (call_numbers g way types v)
  pub placed : ArePlaced w.encoding (length w.memory) g 0 (call_parts way types v)
  pub apart : AreApart w.encoding g 0 (call_parts way types v)
  pub bytes : Holds w.memory (call_bytes g way types v)
  pub handles : AllStand w g 0 (leaves_in (tuple_of types) v)

-- A receiver can read back what it is given: strings of these types may be stored in its encoding,
-- its memory is counted in 32 bits, its table is sound, the types can be spelled, and the value's
-- cases are counted in 32 bits.
pub record Serves (w : View) (way : Way) (types : Fields) (g : Given) (v : Val) : Type 0 where
  pub stores : CanStore w.encoding types
  pub memory : length w.memory < 2 ^ 32
  pub table : IsSoundHandles w.table
  pub spellable : are_spellable types ≡ true
  pub cases : CasesFit v
