-- Where a receiver's allocator puts the parts of a value (CanonicalABI.md, "Storing" of lists and
-- strings; that regions are apart is this project's own choice).
use Rattle.std.specs.Prelude.{ℕ, ◌+◌, ◌*◌, ◌^◌, ◌<◌, ◌≤◌, ◌⊎◌, ⊤, List, [], ◌∷◌, length}
use Rattle.cm_abi_model.specs.declared.encoding.StringEncoding.{StringEncoding}
use Rattle.cm_abi_model.specs.Parts.{Part, text_part, element_part}
use Rattle.cm_abi_model.specs.Requests.{part_align, stored_charset, text_bytes}
use Rattle.cm_abi_model.specs.Stores.{Given, Placed, place_of}
use Rattle.cm_abi_model.specs.Texts.{IsAligned}

-- how many bytes a part takes where it is stored
abbrev pub part_size : StringEncoding → Part → ℕ
part_size target (text_part scalars) = length (text_bytes (stored_charset target) scalars)
part_size target (element_part count size align) = count * size

-- how many elements a part has
abbrev pub element_count : Part → ℕ
element_count (text_part scalars) = 0
element_count (element_part count size align) = count

-- a place for a part is aligned, and all of the part lies in a memory of this length; its elements
-- are counted in 32 bits
pub record IsPlaced (target : StringEncoding) (memory_length at : ℕ) (part : Part) : Type 0 where
  pub aligned : IsAligned (part_align target part) at
  pub inside : at + part_size target part ≤ memory_length
  pub counted : element_count part < 2 ^ 32

-- parts, from the one of this number on, have places that are aligned and inside the memory
abbrev pub ArePlaced : StringEncoding → ℕ → Given → ℕ → List Part → Type 0
ArePlaced target memory_length g k [] = ⊤
ArePlaced target memory_length g k (part ∷ parts) =
    IsPlaced target memory_length (place_of g k) part
    × ArePlaced target memory_length g (k + 1) parts

-- an address is in a region of so many bytes
abbrev pub IsIn : ℕ → ℕ → ℕ → Type 0
IsIn at size a = (at ≤ a) × (a < at + size)

-- an address is in the region of one of the parts, from the one of this number on
abbrev pub IsInPart : StringEncoding → Given → ℕ → List Part → ℕ → Type 0
IsInPart target g k [] a = ⊥
IsInPart target g k (part ∷ parts) a =
    IsIn (place_of g k) (part_size target part) a ⊎ IsInPart target g (k + 1) parts a

-- the regions of parts, from the one of this number on, have no address in common
abbrev pub AreApart : StringEncoding → Given → ℕ → List Part → Type 0
AreApart target g k [] = ⊤
AreApart target g k (part ∷ parts) =
    ((a : ℕ) → IsIn (place_of g k) (part_size target part) a → IsInPart target g (k + 1) parts a
    → ⊥)
    × AreApart target g (k + 1) parts

-- each of these bytes stands at an address of which the fact holds
abbrev pub AllAt : (ℕ → Type 0) → List Placed → Type 0
AllAt P [] = ⊤
AllAt P (b ∷ bs) = P b.0 × AllAt P bs
