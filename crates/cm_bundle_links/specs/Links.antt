-- How the parts of a bundle are linked: what it says by names, in numbers (Explainer.md, "Instance
-- Definitions").
use Rattle.std.specs.Prelude.{◌≡◌, ◌≤◌, ⊤, ℕ, zero, suc, List, [], ◌∷◌, Option, None, Some, length}
use Rattle.std.specs.Prelude.{option_and_then, slice_get, take}
use Rattle.cm_types.specs.Signatures.{NamedExtern}
use Rattle.cm_validate_model.specs.Definitions.{NamedExport}
use Rattle.cm_validate_model.specs.Spaces.{Spaces}
use Rattle.cm_match_model.specs.declared.component.Link.{Link}
use Rattle.cm_bundle.specs.declared.form.TheConstants.{MAX_PARTS}
use Rattle.cm_bundle.specs.Bundled.{export_at, export_sort, import_sort}
use Rattle.cm_bundle.specs.Trees.{BundleTree, ExportTree, GroupTree, PartTree, SupplyTree}
use Rattle.cm_bundle_links.specs.declared.fault.LinksFault.{LinksFault}
use Rattle.cm_bundle_links.specs.declared.fault.LinksReason.{LinksReason}
use Rattle.cm_bundle_links.specs.declared.fault.LinksReason.TheVariants as reason

-- what the part of this number gives to its import of that number
abbrev pub argument_in : BundleTree → ℕ → ℕ → Option SupplyTree
argument_in b part number =
    option_and_then (λ p. slice_get p.arguments number) (slice_get b.parts part)

-- ---- one import

-- an argument is for an import: it has its name, and is of its sort
pub record IsFor (i : NamedExtern) (x : SupplyTree) : Type 0 where
  pub name : x.name ≡ i.name
  pub sort : x.export.sort ≡ import_sort i.desc

-- an export is the one that is named: it has that name, and is of that sort
pub record IsNamed (x : ExportTree) (e : NamedExport) : Type 0 where
  pub name : e.name ≡ x.name
  pub sort : export_sort e.def ≡ x.sort

-- the component of a part, by its number: in an open bundle part 0 stands for what it imports
abbrev pub component_of : List GroupTree → ℕ → Option ℕ
component_of [] part = Some part
component_of (g ∷ gs) zero = None
component_of (g ∷ gs) (suc part) = Some part

-- An import that is given this has this link: to the export that the argument names, of a component
-- before. A valid component has no two exports of one name.
pub record IsLink (front : List GroupTree) (before : List Spaces) (i : NamedExtern)
    (x : SupplyTree) (l : Link) : Type 0 where
  pub given : IsFor i x
  pub component : component_of front x.export.part ≡ Some l.component
  pub export : NamedExport
  pub there : export_at before l.component l.export ≡ Some export
  pub named : IsNamed x.export export

-- no component before has the export that is named
abbrev pub IsNowhere : List GroupTree → List Spaces → ExportTree → Type 0
IsNowhere front before x = (component number : ℕ) (e : NamedExport)
    → component_of front x.part ≡ Some component → export_at before component number ≡ Some e
    → IsNamed x e → ⊥

-- why an import, or none, has no link, by what stands in its place, or nothing
abbrev pub IsUnlinked : List GroupTree → List Spaces → Option NamedExtern → Option SupplyTree
    → LinksReason → Type 0
IsUnlinked front before (Some i) None reason.NotGiven = ⊤
IsUnlinked front before (Some i) (Some x) reason.NotGiven = IsFor i x → ⊥
IsUnlinked front before (Some i) (Some x) reason.Imported =
    IsFor i x × (component_of front x.export.part ≡ None)
IsUnlinked front before (Some i) (Some x) reason.NoExport =
    IsFor i x × (component : ℕ) × (component_of front x.export.part ≡ Some component)
    × IsNowhere front before x.export
IsUnlinked front before None (Some x) reason.NoImport = ⊤
IsUnlinked front before _ _ _ = ⊥

-- ---- the imports of one part

-- each import is given one argument, in order, and has this link
abbrev pub AreLinked : List GroupTree → List Spaces → List NamedExtern → List SupplyTree
    → List Link → Type 0
AreLinked front before [] [] [] = ⊤
AreLinked front before (i ∷ is) (x ∷ xs) (l ∷ ls) =
    IsLink front before i x l × AreLinked front before is xs ls
AreLinked front before _ _ _ = ⊥

-- those before this one have links, and this one has none, for this reason
pub record IsFirstUnlinked (front : List GroupTree) (before : List Spaces)
    (imports : List NamedExtern) (arguments : List SupplyTree) (n : ℕ) (r : LinksReason)
    : Type 0 where
  pub links : List Link
  pub linked : AreLinked front before (take n imports) (take n arguments) links
  pub unlinked : IsUnlinked front before (slice_get imports n) (slice_get arguments n) r

-- ---- the parts of a bundle

-- the links of the imports of parts, of each in a row: to exports of the components before its own
pub record AreRows (front : List GroupTree) (parts : List PartTree) (set : List Spaces)
    (rows : List (List Link)) : Type 0 where
  pub count : length rows ≡ length set
  pub linked : (n : ℕ) (p : PartTree) (s : Spaces) (row : List Link)
      → slice_get parts n ≡ Some p → slice_get set n ≡ Some s → slice_get rows n ≡ Some row
      → AreLinked front (take n set) s.imports p.arguments row

-- there is a component for each part
pub record AreParts (b : BundleTree) (set : List Spaces) : Type 0 where
  pub count : length set ≡ length b.parts
  pub few : length b.parts ≤ MAX_PARTS

pub record AreLinks (b : BundleTree) (set : List Spaces) (rows : List (List Link))
    : Type 0 where
  pub parts : AreParts b set
  pub rows_are : AreRows b.front b.parts set rows

-- the parts before this one have links, and this argument of it is the first that is not right
pub record IsFirstFault (b : BundleTree) (set : List Spaces) (f : LinksFault) : Type 0 where
  pub parts : AreParts b set
  pub rows : List (List Link)
  pub before : AreRows b.front (take f.part b.parts) (take f.part set) rows
  pub part : PartTree
  pub part_there : slice_get b.parts f.part ≡ Some part
  pub component : Spaces
  pub component_there : slice_get set f.part ≡ Some component
  pub first : IsFirstUnlinked b.front (take f.part set) component.imports part.arguments
      f.argument f.reason

-- why a bundle has no links
abbrev pub IsFaultBy : BundleTree → List Spaces → LinksFault → LinksReason → Type 0
IsFaultBy b set f reason.OtherParts = (AreParts b set → ⊥) × (f.part ≡ 0) × (f.argument ≡ 0)
IsFaultBy b set f reason.Memory = ⊤
IsFaultBy b set f _ = IsFirstFault b set f

abbrev pub IsLinksFault : BundleTree → List Spaces → LinksFault → Type 0
IsLinksFault b set f = IsFaultBy b set f f.reason
