-- What lifting a value takes from its giver (CanonicalABI.md, "Lifting" of own and borrow; the
-- limit on content is this project's own choice).
use Rattle.std.specs.Prelude.{◌≡◌, ℕ, zero, suc, ◌+◌, ◌-◌, ◌*◌, ◌≤◌, ⊤, List, [], ◌∷◌, ◌++◌}
use Rattle.std.specs.Prelude.{Bool, Contains, Some, if◌then◌else◌}
use Rattle.cm_types.specs.declared.core_value.CoreValue.{CoreValue}
use Rattle.cm_types.specs.Types.{Ty, Fields, Cases, string, list, fixed_list, fields, cases, own}
use Rattle.cm_types.specs.Types.{borrow, no_fields, field, no_cases, plain, carrying}
use Rattle.cm_types.specs.Values.{Val, Vals, no_vals, val, text, elements, parts, bearing, handle}
use Rattle.cm_types.specs.Values.{count_of}
use Rattle.cm_handles.specs.Handles.{Handles, IsDistinct, after_lend, after_release, handle_at}
use Rattle.cm_handles.specs.declared.handle.Handle.{Handle}
use Rattle.cm_layout.specs.Alignment.{align_to}
use Rattle.cm_layout.specs.Sizes.{align_of, size_of, payload_offset}
use Rattle.cm_abi_model.specs.declared.limits.TheConstants as constants
use Rattle.cm_abi_model.specs.declared.encoding.StringEncoding.{StringEncoding}
use Rattle.cm_abi_model.specs.Numbers.{number_at, wrapped_at}
use Rattle.cm_abi_model.specs.Views.{View, Way}
use Rattle.cm_abi_model.specs.Texts.{tag_of, text_size}
use Rattle.cm_abi_model.specs.FlatShows.{width_of}
use Rattle.cm_abi_model.specs.Requests.{is_spilled, tuple_of}

-- what a reader meets: a string, with the tag of its length, if that has one, and so many bytes; so
-- many bytes of the elements of a list; the index of a handle to be owned; that of one to be
-- borrowed
pub data Met : Type 0 where
  text_content : List Bool → ℕ → Met
  content : ℕ → Met
  taken : ℕ → Met
  lent : ℕ → Met

-- the string of a tagged length, as it is met
abbrev pub met_text : StringEncoding → ℕ → Met
met_text e n = text_content (tag_of e n) (text_size e n)

-- the content and the handles of each of some values in a row
abbrev pub met_each : (ℕ → Val → List Met) → ℕ → ℕ → Vals → List Met
met_each M size at no_vals = []
met_each M size at (val v vs) = M at v ++ met_each M size (at + size) vs

abbrev mutual
  -- the content and the handles of the value that bytes at an address show, in reading order
  pub met_at : View → Ty → ℕ → Val → List Met
  met_at w string p (text cs) = met_text w.encoding (number_at 4 w.memory (p + 4)) ∷ []
  met_at w (list t) p (elements vs) =
      content (count_of vs * size_of t)
      ∷ met_each (met_at w t) (size_of t) (number_at 4 w.memory p) vs
  met_at w (fixed_list t n) p (parts vs) = met_each (met_at w t) (size_of t) p vs
  met_at w (fields k fs) p (parts vs) = met_in_fields w fs p 0 vs
  met_at w (cases k cs) p (bearing i v) = met_in_payload w cs (p + payload_offset cs) i v
  met_at w (own r) p (handle h) = taken (number_at 4 w.memory p) ∷ []
  met_at w (borrow r) p (handle h) = lent (number_at 4 w.memory p) ∷ []
  met_at w t p v = []

  pub met_in_fields : View → Fields → ℕ → ℕ → Vals → List Met
  met_in_fields w no_fields p end vs = []
  met_in_fields w (field l t fs) p end no_vals = []
  met_in_fields w (field l t fs) p end (val v vs) =
      met_at w t (p + align_to (align_of t) end) v
      ++ met_in_fields w fs p (align_to (align_of t) end + size_of t) vs

  pub met_in_payload : View → Cases → ℕ → ℕ → Val → List Met
  met_in_payload w no_cases p i v = []
  met_in_payload w (plain l cs) p zero v = []
  met_in_payload w (plain l cs) p (suc i) v = met_in_payload w cs p i v
  met_in_payload w (carrying l t cs) p zero v = met_at w t p v
  met_in_payload w (carrying l t cs) p (suc i) v = met_in_payload w cs p i v

abbrev mutual
  -- the content and the handles of the value that slots show
  pub met_flat : View → List CoreValue → Ty → ℕ → Val → List Met
  met_flat w s string k (text cs) = met_text w.encoding (wrapped_at 4 s (k + 1)) ∷ []
  met_flat w s (list t) k (elements vs) =
      content (count_of vs * size_of t)
      ∷ met_each (met_at w t) (size_of t) (wrapped_at 4 s k) vs
  met_flat w s (fixed_list t n) k (parts vs) = met_each (met_flat w s t) (width_of t) k vs
  met_flat w s (fields f fs) k (parts vs) = met_flat_fields w s fs k vs
  met_flat w s (cases c cs) k (bearing i v) = met_flat_payload w s cs (k + 1) i v
  met_flat w s (own r) k (handle h) = taken (wrapped_at 4 s k) ∷ []
  met_flat w s (borrow r) k (handle h) = lent (wrapped_at 4 s k) ∷ []
  met_flat w s t k v = []

  pub met_flat_fields : View → List CoreValue → Fields → ℕ → Vals → List Met
  met_flat_fields w s no_fields k vs = []
  met_flat_fields w s (field l t fs) k no_vals = []
  met_flat_fields w s (field l t fs) k (val v vs) =
      met_flat w s t k v ++ met_flat_fields w s fs (k + width_of t) vs

  pub met_flat_payload : View → List CoreValue → Cases → ℕ → ℕ → Val → List Met
  met_flat_payload w s no_cases k i v = []
  met_flat_payload w s (plain l cs) k zero v = []
  met_flat_payload w s (plain l cs) k (suc i) v = met_flat_payload w s cs k i v
  met_flat_payload w s (carrying l t cs) k zero v = met_flat w s t k v
  met_flat_payload w s (carrying l t cs) k (suc i) v = met_flat_payload w s cs k i v

-- the content and the handles of the value that a call's core values denote
abbrev pub met : View → Way → Fields → List CoreValue → Val → List Met
met w way types slots v =
    if is_spilled way types
    then met_at w (tuple_of types) (wrapped_at 4 slots 0) v
    else met_flat w slots (tuple_of types) 0 v

-- the bytes met, the tags of strings, the indices of handles to be owned, and of those to be
-- borrowed
abbrev pub content_of : List Met → ℕ
content_of [] = 0
content_of (text_content tags n ∷ ms) = n + content_of ms
content_of (content n ∷ ms) = n + content_of ms
content_of (taken i ∷ ms) = content_of ms
content_of (lent i ∷ ms) = content_of ms

abbrev pub tags_of : List Met → List Bool
tags_of [] = []
tags_of (text_content tags n ∷ ms) = tags ++ tags_of ms
tags_of (content n ∷ ms) = tags_of ms
tags_of (taken i ∷ ms) = tags_of ms
tags_of (lent i ∷ ms) = tags_of ms

abbrev pub taken_of : List Met → List ℕ
taken_of [] = []
taken_of (text_content tags n ∷ ms) = taken_of ms
taken_of (content n ∷ ms) = taken_of ms
taken_of (taken i ∷ ms) = i ∷ taken_of ms
taken_of (lent i ∷ ms) = taken_of ms

abbrev pub lent_of : List Met → List ℕ
lent_of [] = []
lent_of (text_content tags n ∷ ms) = lent_of ms
lent_of (content n ∷ ms) = lent_of ms
lent_of (taken i ∷ ms) = lent_of ms
lent_of (lent i ∷ ms) = i ∷ lent_of ms

-- the most bytes of strings and lists in one direction of a call
abbrev pub MAX_CONTENT : ℕ
MAX_CONTENT = constants.MAX_CONTENT

-- What was met can be handed over: no handle is owned twice, none that is to be owned is lent to a
-- call, or to be borrowed as well, and the content is at most so much.
pub record CanGo (table : Handles) (most : ℕ) (ms : List Met) : Type 0 where
  pub once : IsDistinct (taken_of ms)
  pub free : (index : ℕ) (h : Handle) → Contains (taken_of ms) index
      → handle_at table index ≡ Some h → h.lends ≡ 0
  pub apart : (index : ℕ) → Contains (taken_of ms) index → Contains (lent_of ms) index → ⊥
  pub small : content_of ms ≤ most

-- the value that a call's core values denote can be handed over
abbrev pub Transferable : View → Way → Fields → List CoreValue → Val → Type 0
Transferable w way types slots v = CanGo w.table MAX_CONTENT (met w way types slots v)

-- ---- the same one after another

-- the handles after something was met: an own handle goes, a borrowed one is lent once more
abbrev pub after_one : Handles → Met → Handles
after_one t (text_content tags n) = t
after_one t (content n) = t
after_one t (taken i) = after_release t i
after_one t (lent i) = after_lend t i

-- the handles after all that was met
abbrev pub after_met : Handles → List Met → Handles
after_met t [] = t
after_met t (m ∷ ms) = after_met (after_one t m) ms

-- a handle stands at an index, lent to nobody
pub record IsFree (t : Handles) (index : ℕ) : Type 0 where
  pub entry : Handle
  pub stands : handle_at t index ≡ Some entry
  pub not_lent : entry.lends ≡ 0

-- some handle stands at an index
abbrev pub IsThere : Handles → ℕ → Type 0
IsThere t index = (h : Handle) × (handle_at t index ≡ Some h)

-- one thing can be handed over now, with so much content left: there is room for it; its handle
-- stands, to be owned lent to nobody
abbrev pub GoesNow : Handles → ℕ → Met → Type 0
GoesNow t left (text_content tags n) = n ≤ left
GoesNow t left (content n) = n ≤ left
GoesNow t left (taken i) = IsFree t i
GoesNow t left (lent i) = IsThere t i

abbrev pub left_after : ℕ → Met → ℕ
left_after left (text_content tags n) = left - n
left_after left (content n) = left - n
left_after left (taken i) = left
left_after left (lent i) = left

-- everything can be handed over, one thing after another
abbrev pub GoesInTurn : Handles → ℕ → List Met → Type 0
GoesInTurn t left [] = ⊤
GoesInTurn t left (m ∷ ms) = GoesNow t left m × GoesInTurn (after_one t m) (left_after left m) ms

-- each index that is met has a handle
abbrev pub AllThere : Handles → List Met → Type 0
AllThere t [] = ⊤
AllThere t (text_content tags n ∷ ms) = AllThere t ms
AllThere t (content n ∷ ms) = AllThere t ms
AllThere t (taken i ∷ ms) = IsThere t i × AllThere t ms
AllThere t (lent i ∷ ms) = IsThere t i × AllThere t ms
