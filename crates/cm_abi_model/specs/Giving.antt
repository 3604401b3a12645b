-- The handles that a receiver gets for those of a value (CanonicalABI.md, "Storing" of own and
-- borrow, `lower_own` and `lower_borrow`).
use Rattle.std.specs.Prelude.{◌≡◌, ℕ, ◌+◌, ◌<◌, ◌^◌, ◌==◌, ◌⊎◌, if◌then◌else◌, List, [], ◌∷◌}
use Rattle.std.specs.Prelude.{Contains, Option, Some, None, slice_get}
use Rattle.std.specs.List.{All}
use Rattle.cm_types.specs.Values.{HandleValue}
use Rattle.cm_handles.specs.Borrows.{borrows_of}
use Rattle.cm_handles.specs.Handles.{Handles, IsSoundHandles, after_add, handle_at}
use Rattle.cm_handles.specs.Handles.{indices_left, next_index}
use Rattle.cm_handles.specs.declared.handle.Handle.{Handle}
use Rattle.cm_handles.specs.declared.handle.HandleKind.{HandleKind}
use Rattle.cm_handles.specs.declared.handle.HandleKind.TheVariants.{Owned, Borrowed}
use Rattle.cm_abi_model.specs.Receives.{AllStand, HandleLeaf, owned_leaf, borrowed_leaf}
use Rattle.cm_abi_model.specs.Stores.{Given}
use Rattle.cm_abi_model.specs.Views.{View}
use Rattle.cm_abi_model.specs.declared.receiver.Receiver.{Receiver}

-- a view of the receiver of a call, with this handle table
pub record IsViewOf (w : View) (to : Receiver) (table : Handles) : Type 0 where
  pub instance_is : w.instance ≡ to.instance
  pub call_is : w.call ≡ to.call
  pub table_is : w.table ≡ table

-- a handle of this kind to the resource of a value, lent to nobody
abbrev pub handle_to : HandleValue → HandleKind → Handle
handle_to h kind =
    record { resource = h.resource; serial = h.serial; lends = 0; rep = h.rep; kind = kind }

-- what the receiver's table gets for a handle of a value: one that owns its resource, or one that
-- is borrowed for the call, and none for a borrow of a resource that the receiver implements
abbrev pub added_for : Receiver → HandleLeaf → Option Handle
added_for to (owned_leaf h) = Some (handle_to h Owned)
added_for to (borrowed_leaf h) =
    if h.resource.component == to.instance then None else Some (handle_to h (Borrowed to.call))

-- the representation of the resource of a handle
abbrev pub rep_of : HandleLeaf → ℕ
rep_of (owned_leaf h) = h.rep
rep_of (borrowed_leaf h) = h.rep

-- the table after a handle was added at its next index, if there is one to add
abbrev pub with_added : Handles → Option Handle → Handles
with_added t None = t
with_added t (Some h) = after_add t h

-- the number that stands for a handle: that index where one is added, else the representation
abbrev pub number_with : Handles → Option Handle → ℕ → ℕ
number_with t None rep = rep
number_with t (Some h) rep = next_index t

-- the table after the handles of a value were given, one after another
abbrev pub after_given : Receiver → Handles → List HandleLeaf → Handles
after_given to t [] = t
after_given to t (leaf ∷ leaves) = after_given to (with_added t (added_for to leaf)) leaves

-- the numbers that stand for them
abbrev pub numbers_given : Receiver → Handles → List HandleLeaf → List ℕ
numbers_given to t [] = []
numbers_given to t (leaf ∷ leaves) =
    number_with t (added_for to leaf) (rep_of leaf)
    ∷ numbers_given to (with_added t (added_for to leaf)) leaves

-- how many handles the table gets
abbrev pub added_by : Option Handle → ℕ
added_by None = 0
added_by (Some h) = 1

abbrev pub added_count : Receiver → List HandleLeaf → ℕ
added_count to [] = 0
added_count to (leaf ∷ leaves) = added_by (added_for to leaf) + added_count to leaves

-- how many handles the table gets that are borrowed for the call: one for each borrow of a resource
-- that the receiver does not implement
abbrev pub borrowed_by : Receiver → HandleLeaf → ℕ
borrowed_by to (owned_leaf h) = 0
borrowed_by to (borrowed_leaf h) = if h.resource.component == to.instance then 0 else 1

abbrev pub borrowed_count : Receiver → List HandleLeaf → ℕ
borrowed_count to [] = 0
borrowed_count to (leaf ∷ leaves) = borrowed_by to leaf + borrowed_count to leaves

-- each handle that stood stands as it was
abbrev pub AllStay : Handles → Handles → Type 0
AllStay old new =
    (index : ℕ) (h : Handle) → handle_at old index ≡ Some h → handle_at new index ≡ Some h

-- each handle that stands now stood before, or stands at one of these indices
abbrev pub NoneElse : Handles → Handles → List ℕ → Type 0
NoneElse old new ns =
    (index : ℕ) (h : Handle) → handle_at new index ≡ Some h
    → (handle_at old index ≡ Some h) ⊎ Contains ns index

-- the handle is what the table gets for one of these handles of a value, and the number of that one
-- is the index
abbrev pub IsGivenAt : Receiver → List HandleLeaf → List ℕ → ℕ → Handle → Type 0
IsGivenAt to leaves ns index h =
    (j : ℕ) × (leaf : HandleLeaf) × (slice_get leaves j ≡ Some leaf)
    × (added_for to leaf ≡ Some h) × (slice_get ns j ≡ Some index)

-- each handle that stands now stood before, or was given at its index
abbrev pub AllGiven : Receiver → Handles → Handles → List HandleLeaf → List ℕ → Type 0
AllGiven to old new leaves ns =
    (index : ℕ) (h : Handle) → handle_at new index ≡ Some h
    → (handle_at old index ≡ Some h) ⊎ IsGivenAt to leaves ns index h

-- The handles of a value were given: the table got what it is to get, each at the next index, and
-- these numbers of 32 bits stand for them, also as the receiver sees them. No handle that stood is
-- changed, each other one that stands was given at its index, and so many indices fewer are left,
-- and so many handles more are borrowed for the call.
pub record Gives (to : Receiver) (old new : Handles) (leaves : List HandleLeaf) (ns : List ℕ)
    : Type 0 where
  pub numbers : ns ≡ numbers_given to old leaves
  pub small : All (λ n. n < 2 ^ 32) ns
  pub table : new ≡ after_given to old leaves
  pub stand : (w : View) (g : Given) → IsViewOf w to new → g.numbers ≡ ns → AllStand w g 0 leaves
  pub stay : AllStay old new
  pub added : AllGiven to old new leaves ns
  pub borrows : borrows_of to.call new ≡ borrows_of to.call old + borrowed_count to leaves
  pub left : indices_left new + added_count to leaves ≡ indices_left old
  pub sound : IsSoundHandles new
