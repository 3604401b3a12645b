-- Which imports of a set are instances of one type, and which exports are one instance, by the
-- tables of its components; and pairs of such that serve (how components are linked is this
-- project's own choice).
use Rattle.std.specs.Prelude.{◌≡◌, ℕ, Bool, true, List, Option, Some, None, length}
use Rattle.std.specs.Prelude.{slice_get}
use Rattle.std.specs.List.{AllByRecursion, list_any}
use Rattle.std.specs.Option.{option_and_then}
use Rattle.std.specs.Ordering.{is_eq, nat_cmp, ordering_then}
use Rattle.std.specs.declared.cmp.Ordering.{Ordering}
use Rattle.cm_types.specs.Signatures.{NamedExtern}
use Rattle.cm_validate_items.specs.Shared.{AreShared, exported_instance_in, import_type_in}
use Rattle.cm_validate_items.specs.declared.shared.Shared.{Shared}
use Rattle.cm_match_serving.specs.cm_validate_spaces.Checked.{spaces_in}
use Rattle.cm_match_serving.specs.cm_validate_spaces.declared.checked.Checked.{Checked}
use Rattle.cm_match_model.specs.declared.component.Link.{Link}
use Rattle.cm_match_model.specs.Imports.{LinkSet, import_at, import_in, links_of}
use Rattle.cm_match_model.specs.Links.{IsServed}
use Rattle.cm_match_serving.specs.Linkings.{components_in, set_in}
use Rattle.cm_match_serving.specs.declared.linking.Linking.{Linking}
use Rattle.cm_match_serving.specs.Tables.{AreKnown}
use Rattle.cm_match.specs.declared.judged.Judged.{Judged}

-- ---- tables

-- a table for each component
pub record AreTables (cs : List Checked) (tables : List Shared) : Type 0 where
  pub count : length tables ≡ length cs
  pub each : (c : ℕ) (checked : Checked) (t : Shared) → slice_get cs c ≡ Some checked
      → slice_get tables c ≡ Some t → AreShared (spaces_in checked) t

-- the number of the type of an import of a component, where it is an instance
abbrev pub type_of_import : List Shared → ℕ → ℕ → Option ℕ
type_of_import tables component import =
    option_and_then (λ t. import_type_in t import) (slice_get tables component)

-- the number of the instance that an export is, where it is one
abbrev pub instance_of_export : List Shared → Link → Option ℕ
instance_of_export tables l =
    option_and_then (λ t. exported_instance_in t l.export) (slice_get tables l.component)

-- ---- pairs

-- a component and the number of a type there, a component and the number of an instance there
abbrev pub Pair : Type 0
Pair = (ℕ × ℕ) × (ℕ × ℕ)

-- one before another: by the first number that differs
abbrev pub pair_cmp : Pair → Pair → Ordering
pair_cmp p q =
    ordering_then (ordering_then (nat_cmp p.0.0 q.0.0) (nat_cmp p.0.1 q.0.1))
    (ordering_then (nat_cmp p.1.0 q.1.0) (nat_cmp p.1.1 q.1.1))

-- whether two are one
abbrev pub pair_eq : Pair → Pair → Bool
pair_eq p q = is_eq (pair_cmp p q)

-- it is that of this import and of the export that it is linked to
pub record IsPairOf (set : LinkSet) (tables : List Shared) (component import : ℕ) (p : Pair)
    : Type 0 where
  pub importer : p.0.0 ≡ component
  pub ty : type_of_import tables component import ≡ Some p.0.1
  pub link : Link
  pub linked : links_of set component import ≡ Some link
  pub provider : p.1.0 ≡ link.component
  pub instance : instance_of_export tables link ≡ Some p.1.1

-- some import of this pair is served
pub record IsServedPair (set : LinkSet) (tables : List Shared) (p : Pair) : Type 0 where
  pub import : ℕ
  pub item : NamedExtern
  pub there : import_in set.spaces p.0.0 import ≡ Some item
  pub pair : IsPairOf set tables p.0.0 import p
  pub served : IsServed set (import_at p.0.0 import item)

-- ---- what is judged

-- The types that have numbers, the tables of the components, and pairs that serve.
pub record AreJudged (l : Linking) (w : Judged) : Type 0 where
  pub known : AreKnown l w.tables
  pub tables : AreTables (components_in l) w.shared.items
  pub served : AllByRecursion (IsServedPair (set_in l) w.shared.items) w.served.keys

-- there is a pair, and it is among those that serve
abbrev pub IsNoted : Judged → Option Pair → Type 0
IsNoted w None = ⊥
IsNoted w (Some p) = list_any (pair_eq p) w.served.keys ≡ true
