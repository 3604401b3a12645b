-- Where each resource is: one place for each that was made (CanonicalABI.md, "Resource State"; the
-- serial numbers and what a trap leaves are this project's own choice).
use Rattle.std.specs.Prelude.{◌≡◌, ℕ, ◌+◌, ◌<◌, ◌⊎◌, ⊤, ◌==◌, ◌&&◌, if◌then◌else◌, List, []}
use Rattle.std.specs.Prelude.{◌∷◌}
use Rattle.std.specs.Prelude.{length, map, Contains, Option, Some, None, slice_get}
use Rattle.cm_machine_model.specs.Stack.{below_top}
use Rattle.cm_types.specs.Values.{HandleValue}
use Rattle.cm_handles.specs.Handles.{Handles, handle_at}
use Rattle.cm_handles.specs.declared.handle.Handle.{Handle}
use Rattle.cm_handles.specs.declared.handle.HandleKind.TheVariants as handle
use Rattle.cm_machine_model.specs.declared.frame.Lend.{Lend}
use Rattle.cm_machine_model.specs.declared.frame.Place.{Place}
use Rattle.cm_machine_model.specs.declared.frame.Place.TheVariants as place
use Rattle.cm_abi_model.specs.HandleLeaves.{owned_in}
use Rattle.cm_machine_model.specs.State.{Passage, State, table_at}

-- what stands at each index of each instance
abbrev pub Standing : Type 0
Standing = ℕ → ℕ → Option Handle

-- where the resource with each serial number is
abbrev pub Owners : Type 0
Owners = ℕ → Option Place

-- what stands in tables
abbrev pub standing : List Handles → Standing
standing tables i index = handle_at (table_at tables i) index

-- what a list of places says, by serial number
abbrev pub owners_of : List Place → Owners
owners_of owners n = slice_get owners n

-- this handle stands at an index of an instance's table
abbrev pub StandsIn : State → ℕ → ℕ → Handle → Type 0
StandsIn s i index h = standing s.tables i index ≡ Some h

-- the resource with this serial number is in this place
abbrev pub IsAt : State → ℕ → Place → Type 0
IsAt s serial p = slice_get s.owners serial ≡ Some p

-- a handle that owns the resource with this serial number stands there
pub record Owns (at : Standing) (serial i index : ℕ) : Type 0 where
  pub entry : Handle
  pub stands : at i index ≡ Some entry
  pub owned : entry.kind ≡ handle.Owned
  pub serial_is : entry.serial ≡ serial

-- one of these numbers is this one
abbrev pub IsAmong : List ℕ → ℕ → Type 0
IsAmong [] n = ⊥
IsAmong (m ∷ ms) n = (m ≡ n) ⊎ IsAmong ms n

-- none of these numbers is there twice
abbrev pub AreApart : List ℕ → Type 0
AreApart [] = ⊤
AreApart (m ∷ ms) = (IsAmong ms m → ⊥) × AreApart ms

-- Resources have one place each, where these are on their way in the call of this frame: one is in
-- a table exactly where a handle that owns it stands there, and on its way exactly where it is
-- among these, each once.
pub record HaveOnePlace (at : Standing) (owner : Owners) (frame : ℕ) (away : List ℕ) : Type 0 where
  pub in_table : (n i index : ℕ) → owner n ≡ Some (place.InTable i index) → Owns at n i index
  pub owned : (n i index : ℕ) → Owns at n i index → owner n ≡ Some (place.InTable i index)
  pub on_its_way : (n f : ℕ) → owner n ≡ Some (place.Travelling f)
      → (f ≡ frame) × IsAmong away n
  pub carried : (n : ℕ) → IsAmong away n → owner n ≡ Some (place.Travelling frame)
  pub once : AreApart away

-- the serial numbers of resources
abbrev pub serials : List HandleValue → List ℕ
serials hs = map (λ h. h.serial) hs

-- the resources that are on their way in a passage
abbrev pub travelling : Option Passage → List ℕ
travelling None = []
travelling (Some p) = serials (owned_in p.leaves)

-- Each resource that was made has exactly one place; those on their way are in the call on top.
abbrev pub OnePlace : State → Type 0
OnePlace s =
    HaveOnePlace (standing s.tables) (owners_of s.owners) (length (below_top s.stack))
    (travelling s.passage)

-- ---- lends

-- how often an index of an instance is among lends
abbrev pub count_lends : ℕ → ℕ → List Lend → ℕ
count_lends i index [] = 0
count_lends i index (l ∷ ls) =
    (if (l.instance == i) && (l.index == index) then 1 else 0) + count_lends i index ls

-- Each handle is lent as often as it is among the lends, and each lend is of a handle.
pub record AreCounted (s : State) : Type 0 where
  pub counted : (i index : ℕ) (h : Handle) → StandsIn s i index h
      → h.lends ≡ count_lends i index s.lends
  pub of_handles : (l : Lend) → Contains s.lends l → (h : Handle) × StandsIn s l.instance l.index h

-- A borrowed handle is backed: its resource is in a table, owned by a handle that is lent.
pub record IsBacked (s : State) (h : Handle) : Type 0 where
  pub i : ℕ
  pub index : ℕ
  pub owner : Handle
  pub stands : StandsIn s i index owner
  pub owned : owner.kind ≡ handle.Owned
  pub same : owner.serial ≡ h.serial
  pub same_resource : owner.resource ≡ h.resource
  pub same_rep : owner.rep ≡ h.rep
  pub lent : 0 < owner.lends

-- No borrow dangles: each borrowed handle is backed.
abbrev pub NoneDangles : State → Type 0
NoneDangles s = (i index call : ℕ) (h : Handle) → StandsIn s i index h
    → h.kind ≡ handle.Borrowed call → IsBacked s h
