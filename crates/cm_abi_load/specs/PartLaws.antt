-- What reading a part of a value comes to, as sentences that laws promise.
use Rattle.std.specs.Prelude.{◌≡◌, ℕ, ◌+◌, ◌*◌, ◌≤◌, List, [], ◌∷◌, ◌++◌, Ok}
use Rattle.cm_types.specs.declared.resource.ResourceId.{ResourceId}
use Rattle.cm_types.specs.Types.{Ty}
use Rattle.cm_types.specs.Values.{HandleValue, Val, Vals, text, handle, count_of}
use Rattle.cm_handles.specs.Handles.{Handles}
use Rattle.cm_layout.specs.declared.layouts.HandleType.TheVariants as handle_type
use Rattle.cm_layout.specs.Shapes.{head_of, shape_of_type}
use Rattle.cm_layout.specs.Sizes.{align_of, size_of}
use Rattle.cm_abi_model.specs.declared.encoding.StringEncoding.{StringEncoding}
use Rattle.cm_abi_model.specs.Shows.{Shows, ShowsElements, ShowsHandle, ShowsOwned}
use Rattle.cm_abi_model.specs.Taken.{Met, content, taken, lent, content_of, met_at, met_each}
use Rattle.cm_abi_model.specs.Taken.{met_text}
use Rattle.cm_abi_model.specs.Texts.{ShowsText, text_size}
use Rattle.cm_abi_model.specs.Views.{View}
use Rattle.cm_abi_load.specs.Meeting.{Meets}
use Rattle.cm_abi_load.specs.Outcomes.{State}
use Rattle.cm_abi_load.specs.Reading.{read_at, read_elements, read_handle, read_text, seen_by}

-- a string that is read is shown, and its bytes and its tag are met
abbrev pub TextIsShown : Type 0
TextIsShown =
    (memory : List ℕ) (e : StringEncoding) (at n : ℕ) (table : Handles) (s after : State) (v : Val)
    → read_text memory e at n s ≡ Ok (v, after)
    → (cs : List ℕ) × (v ≡ text cs) × ShowsText e memory at n cs
    × Meets table s after (met_text e n ∷ [])

-- a string that is shown, within what may still come, is read
abbrev pub TextIsRead : Type 0
TextIsRead =
    (memory : List ℕ) (e : StringEncoding) (at n : ℕ) (cs : List ℕ) (s : State)
    → ShowsText e memory at n cs → text_size e n ≤ s.left
    → (after : State) × (read_text memory e at n s ≡ Ok (text cs, after))

-- elements that are read are shown, and the state says what was met in them
abbrev pub ElementsAreShown : Type 0
ElementsAreShown =
    (w : View) (t : Ty) (at n : ℕ) (s after : State) (vs : Vals)
    → read_elements (read_at (seen_by w) (shape_of_type t)) w.memory (head_of t) at n s
    ≡ Ok (vs, after)
    → ShowsElements (Shows w t) w.memory (align_of t) (size_of t) at n vs
    × Meets w.table s after
    (content (count_of vs * size_of t) ∷ met_each (met_at w t) (size_of t) at vs)

-- elements that are shown, within what may still come, are read
abbrev pub ElementsAreRead : Type 0
ElementsAreRead =
    (w : View) (t : Ty) (at n : ℕ) (s : State) (vs : Vals)
    → ShowsElements (Shows w t) w.memory (align_of t) (size_of t) at n vs
    → count_of vs * size_of t + content_of (met_each (met_at w t) (size_of t) at vs) ≤ s.left
    → (after : State)
    × (read_elements (read_at (seen_by w) (shape_of_type t)) w.memory (head_of t) at n s
    ≡ Ok (vs, after))

-- a handle that is read as owned is shown as owned, and its index is met
abbrev pub OwnIsShown : Type 0
OwnIsShown =
    (table : Handles) (index : ℕ) (r : ResourceId) (s after : State) (v : Val)
    → read_handle table (handle_type.Own r) index s ≡ Ok (v, after)
    → (h : HandleValue) × (v ≡ handle h) × ShowsOwned table index r h
    × Meets table s after (taken index ∷ [])

abbrev pub OwnIsRead : Type 0
OwnIsRead =
    (table : Handles) (index : ℕ) (r : ResourceId) (h : HandleValue) (s : State)
    → ShowsOwned table index r h
    → (after : State) × (read_handle table (handle_type.Own r) index s ≡ Ok (handle h, after))

-- a handle that is read as borrowed is shown as borrowed
abbrev pub BorrowIsShown : Type 0
BorrowIsShown =
    (table : Handles) (index : ℕ) (r : ResourceId) (s after : State) (v : Val)
    → read_handle table (handle_type.Borrow r) index s ≡ Ok (v, after)
    → (h : HandleValue) × (v ≡ handle h) × ShowsHandle table index r h
    × Meets table s after (lent index ∷ [])

abbrev pub BorrowIsRead : Type 0
BorrowIsRead =
    (table : Handles) (index : ℕ) (r : ResourceId) (h : HandleValue) (s : State)
    → ShowsHandle table index r h
    → (after : State) × (read_handle table (handle_type.Borrow r) index s ≡ Ok (handle h, after))

-- where nothing is read, nothing is met
abbrev pub NothingIsMet : Type 0
NothingIsMet = (table : Handles) (s : State) → Meets table s s []

-- a walk meets in the whole what it meets in its two parts, one behind the other
abbrev pub MeetingsJoin : Type 0
MeetingsJoin =
    (table : Handles) (s between after : State) (xs ys : List Met)
    → Meets table s between xs → Meets table between after ys → Meets table s after (xs ++ ys)
