-- Whether a signature fits a world (WIT.md, "Worlds"; that resources correspond by their names, and
-- which fault is the first, is this project's own choice).
use Rattle.std.specs.Prelude.{◌≡◌, ℕ, Bool, false, List, ◌∷◌, ◌++◌, Option, Some, None}
use Rattle.std.specs.List.{AllByRecursion, position_from}
use Rattle.std.specs.Str.{bytes_eq}
use Rattle.cm_types.specs.Resources.{same_resource}
use Rattle.cm_types.specs.Signatures.{NamedExtern, SignatureTy}
use Rattle.cm_types.specs.declared.resource.ResourceId.{ResourceId}
use Rattle.cm_types_arena.specs.Replaced.{Standing, replaced, replaced_func}
use Rattle.cm_wit_conforms.specs.Comparisons.{Comparison, nothing, two_sorts, two_funcs, two_types}
use Rattle.cm_wit_conforms.specs.Comparisons.{two_resources, Entry, entries}
use Rattle.cm_wit_conforms.specs.declared.fault.ConformList.{ConformList}
use Rattle.cm_wit_conforms.specs.declared.fault.ConformList.TheVariants as walked
use Rattle.cm_wit_conforms.specs.declared.fault.ConformItem.{ConformItem}
use Rattle.cm_wit_conforms.specs.declared.fault.ConformReason.{ConformReason}
use Rattle.cm_wit_conforms.specs.declared.fault.ConformReason.TheVariants as reason

-- ---- which resources correspond

-- whether this resource of the signature's, and of the world's, is held against another one
abbrev pub meets_world : ResourceId → Comparison → Bool
meets_world r (two_resources a b) = same_resource r a
meets_world r _ = false

abbrev pub meets_have : ResourceId → Comparison → Bool
meets_have r (two_resources a b) = same_resource r b
meets_have r _ = false

-- the pair that a resource of the signature's, or of the world's, belongs to: the first entry in
-- which it is held against another one
abbrev pub have_pair : List Entry → ResourceId → Option ℕ
have_pair all r = position_from (λ e. meets_world r e.what) 0 all

abbrev pub world_pair : List Entry → ResourceId → Option ℕ
world_pair all r = position_from (λ e. meets_have r e.what) 0 all

-- Two resources correspond where they belong to one pair.
abbrev pub Correspond : List Entry → ResourceId → ResourceId → Type 0
Correspond all a b = (n : ℕ) × (have_pair all a ≡ Some n) × (world_pair all b ≡ Some n)

-- ---- types

-- what stands for a resource where types are compared: its pair, or a mark of its side where it has
-- none, which is that of no resource of the other side
abbrev pub mark : ℕ → Option ℕ → ResourceId
mark side (Some n) = record { component = 0; number = n }
mark side None = record { component = side; number = 0 }

abbrev pub have_mark : List Entry → Standing
have_mark all r = mark 1 (have_pair all r)

abbrev pub world_mark : List Entry → Standing
world_mark all r = mark 2 (world_pair all r)

-- What is compared fits: types are equal where corresponding resources are taken for one.
abbrev pub Fits : List Entry → Comparison → Type 0
Fits all nothing = ⊥
Fits all two_sorts = ⊥
Fits all (two_funcs f g) =
    replaced_func (have_mark all) f ≡ replaced_func (world_mark all) g
Fits all (two_types x y) = replaced (have_mark all) x ≡ replaced (world_mark all) y
Fits all (two_resources a b) = have_mark all a ≡ world_mark all b

-- ---- fits, and the first fault

-- why what does not fit does not
abbrev pub reason_of : ConformList → Comparison → ConformReason
reason_of walked.WorldExports nothing = reason.Missing
reason_of walked.HaveImports nothing = reason.NotInWorld
reason_of _ _ = reason.DifferentType

-- Each of these fits, among all.
abbrev pub AllFit : List Entry → List Entry → Type 0
AllFit all es = AllByRecursion (λ e. Fits all e.what) es

-- A signature fits a world.
abbrev pub Conforms : SignatureTy → SignatureTy → Type 0
Conforms have world = AllFit (entries have world) (entries have world)

-- The first of these entries that does not fit, among all, is this item, for this reason.
pub record IsFirstIn (all es : List Entry) (item : ConformItem) (r : ConformReason) : Type 0 where
  pub front : List Entry
  pub entry : Entry
  pub rest : List Entry
  pub split : es ≡ front ++ entry ∷ rest
  pub before : AllFit all front
  pub unfit : ¬ (Fits all entry.what)
  pub place : entry.item ≡ item
  pub reason : reason_of item.list entry.what ≡ r

-- The first fault of a signature against a world is at this item, for this reason.
abbrev pub IsFirstFault : SignatureTy → SignatureTy → ConformItem → ConformReason → Type 0
IsFirstFault have world item r = IsFirstIn (entries have world) (entries have world) item r

-- The world exports nothing of this name.
abbrev pub IsUnasked : SignatureTy → NamedExtern → Type 0
IsUnasked world e = AllByRecursion (λ w. bytes_eq w.name e.name ≡ false) world.exports
