-- What a walk over the items of a component answers.
use Rattle.std.specs.Prelude.{◌≡◌, ◌⊎◌, ℕ, List, [], ◌++◌, Option, MatchOption, slice_get, take}
use Rattle.std.specs.Option.{option_map_or}
use Rattle.cm_binary_model.specs.Trees.{SectionTree}
use Rattle.cm_validate_model.specs.declared.fault.ValidFault.{ValidFault}
use Rattle.cm_validate_model.specs.declared.fault.ValidReason.{ValidReason}
use Rattle.cm_validate_model.specs.declared.fault.ValidReason.TheVariants as reason
use Rattle.cm_validate_model.specs.Items.{Item, all_items, items_of}
use Rattle.cm_validate_model.specs.Spaces.{Spaces, after_items, empty_spaces, spaces_of}
use Rattle.cm_validate_model.specs.Valid.{IsFaultOf, IsFirstFault, IsValid, IsValidFrom}
use Rattle.cm_validate_spaces.specs.IndexSpaces.{IsAt}
use Rattle.cm_validate_spaces.specs.declared.spaces.IndexSpaces.{IndexSpaces}

-- ---- a section

-- there was no memory at the item of this number, before which nothing is faulty; or it is the
-- first that violates a rule, for this reason
abbrev pub IsMet : Spaces → List Item → ℕ → ValidReason → Type 0
IsMet s items number r =
    ((r ≡ reason.Memory) × IsValidFrom s (take number items)) ⊎ IsFirstFault s items number r

-- none of these items violates a rule, and the spaces are those after them; or the first that does
-- is that of this number, for this reason
abbrev pub Walks : List Item → IndexSpaces → Option (ℕ × ValidReason) → IndexSpaces → Type 0
Walks items old r new =
    (s : Spaces) → IsAt old s
    → MatchOption r (IsValidFrom s items × IsAt new (after_items s items))
    (λ f. IsMet s items f.0 f.1)

-- ---- a component

-- the items of the section of this number
abbrev pub items_at : List SectionTree → ℕ → List Item
items_at sections section = option_map_or items_of (slice_get sections section) []

-- The items of the sections before this one, and the first so many of its own, violate no rule.
abbrev pub IsFineBefore : List SectionTree → ℕ → ℕ → Type 0
IsFineBefore sections section item =
    IsValidFrom empty_spaces
    (all_items (take section sections) ++ take item (items_at sections section))

-- there was no memory at an item before which nothing is faulty, or this is the fault of the
-- component
abbrev pub IsFaultMet : List SectionTree → ValidFault → Type 0
IsFaultMet sections f =
    ((f.reason ≡ reason.Memory) × IsFineBefore sections f.section f.item)
    ⊎ IsFaultOf sections f.section f.item f.reason

-- the component is valid, and these are its spaces; or this is the fault that was found
abbrev pub WalksThrough : List SectionTree → Option ValidFault → IndexSpaces → Type 0
WalksThrough sections r new =
    MatchOption r (IsValid sections × IsAt new (spaces_of sections)) (IsFaultMet sections)
