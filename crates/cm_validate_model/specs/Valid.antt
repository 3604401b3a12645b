-- Valid components, and the fault of one that is not: its least section, the least item there, and
-- the least of the reasons to refuse it (Explainer.md, "Component Definitions"; this order is this
-- project's own choice).
use Rattle.std.specs.Prelude.{◌≡◌, ◌≤◌, ℕ, List, [], ◌∷◌, ◌++◌, length, Contains}
use Rattle.cm_binary_model.specs.Trees.{SectionTree}
use Rattle.cm_validate_model.specs.declared.fault.ValidReason.{ValidReason}
use Rattle.cm_validate_model.specs.ReasonWords.{reason_number}
use Rattle.cm_validate_model.specs.Items.{Item, items_of, all_items}
use Rattle.cm_validate_model.specs.Spaces.{Spaces, empty_spaces, after_items}
use Rattle.cm_validate_model.specs.Rules.{broken}

-- each of these items violates no rule, in the spaces of those before it
abbrev pub IsValidFrom : Spaces → List Item → Type 0
IsValidFrom s items =
    (front : List Item) (x : Item) (rest : List Item)
    → items ≡ front ++ x ∷ rest
    → broken (after_items s front) x ≡ []

-- a component is valid
abbrev pub IsValid : List SectionTree → Type 0
IsValid sections = IsValidFrom empty_spaces (all_items sections)

-- the least of some reasons is this one
pub record IsLeast (reasons : List ValidReason) (r : ValidReason) : Type 0 where
  pub there : Contains reasons r
  pub least : (q : ValidReason) → Contains reasons q → reason_number r ≤ reason_number q

-- the first of these items that violates a rule is that of this number, for this reason
pub record IsFirstFault (s : Spaces) (items : List Item) (number : ℕ) (r : ValidReason)
    : Type 0 where
  pub front : List Item
  pub item : Item
  pub rest : List Item
  pub split : items ≡ front ++ item ∷ rest
  pub place : length front ≡ number
  pub before : IsValidFrom s front
  pub reason : IsLeast (broken (after_items s front) item) r

-- the first section with such an item is that of this number
pub record IsFaultOf (sections : List SectionTree) (section item : ℕ) (r : ValidReason)
    : Type 0 where
  pub before : List SectionTree
  pub faulty : SectionTree
  pub behind : List SectionTree
  pub split : sections ≡ before ++ faulty ∷ behind
  pub place : length before ≡ section
  pub fine : IsValid before
  pub here : IsFirstFault (after_items empty_spaces (all_items before)) (items_of faulty) item r
