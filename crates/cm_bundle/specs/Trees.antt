-- Bundles as trees, without where they lie in memory. Files, names and texts are their bytes.
use Rattle.std.specs.Prelude.{ℕ, List, map}
use Rattle.cm_bundle.specs.declared.form.Sort.{Sort}
use Rattle.cm_bundle.specs.declared.form.PartExport.{PartExport}
use Rattle.cm_bundle.specs.declared.form.Supply.{Supply}
use Rattle.cm_bundle.specs.declared.form.BundleImport.{BundleImport}
use Rattle.cm_bundle.specs.declared.form.ImportGroup.{ImportGroup}
use Rattle.cm_bundle.specs.declared.form.TypeAlias.{TypeAlias}
use Rattle.cm_bundle.specs.declared.form.Part.{Part}
use Rattle.cm_bundle.specs.declared.form.Body.{Body}
use Rattle.cm_bundle.specs.declared.form.Content.{Content}
use Rattle.cm_bundle.specs.declared.form.Bundle.{Bundle}
use Rattle.cm_bundle.specs.declared.form.PartName.{PartName}

-- An export of a part: the part, what it is, and its name. In an open bundle part 0 stands for what
-- the bundle imports, and the first part is 1.
pub record ExportTree : Type 0 where
  pub part : ℕ
  pub sort : Sort
  pub name : List ℕ

-- An export of a part, passed on under a name.
pub record SupplyTree : Type 0 where
  pub name : List ℕ
  pub export : ExportTree

-- A component file, and what its imports are given, in their order.
pub record PartTree : Type 0 where
  pub file : List ℕ
  pub arguments : List SupplyTree

-- An import of a bundle: its name, what it is, and the index of its type.
pub record ImportTree : Type 0 where
  pub name : List ℕ
  pub sort : Sort
  pub ty : ℕ

-- A type that an imported instance exports: the index of the instance, and the name.
pub record TypeAliasTree : Type 0 where
  pub instance_ : ℕ
  pub name : List ℕ

-- Three sections in front of the parts of an open bundle, by their contents.
pub record GroupTree : Type 0 where
  pub types : List ℕ
  pub imports : List ℕ
  pub aliases : List ℕ

-- The parts, and what the bundle exports.
pub record BodyTree : Type 0 where
  pub parts : List PartTree
  pub exports : List SupplyTree

-- What is imported, and what stands behind it.
pub record ContentTree : Type 0 where
  pub front : List GroupTree
  pub body : BodyTree

-- What is imported, the parts, the exports, and the contents of the custom sections behind them.
pub record BundleTree : Type 0 where
  pub front : List GroupTree
  pub parts : List PartTree
  pub exports : List SupplyTree
  pub customs : List (List ℕ)

-- What a part is called: the part, counted from 0, and its name.
pub record NameTree : Type 0 where
  pub part : ℕ
  pub name : List ℕ

abbrev pub export_tree : PartExport → ExportTree
export_tree x = record { part = x.part; sort = x.sort; name = x.name.now }

abbrev pub supply_tree : Supply → SupplyTree
supply_tree x = record { name = x.name.now; export = export_tree x.export }

abbrev pub part_tree : Part → PartTree
part_tree p = record { file = p.file.now; arguments = map supply_tree p.arguments.items }

abbrev pub import_tree : BundleImport → ImportTree
import_tree i = record { name = i.name.now; sort = i.sort; ty = i.ty }

abbrev pub type_alias_tree : TypeAlias → TypeAliasTree
type_alias_tree a = record { instance_ = a.instance; name = a.name.now }

abbrev pub group_tree : ImportGroup → GroupTree
group_tree g = record {
  types = g.types.now;
  imports = g.imports.now;
  aliases = g.aliases.now;
}

abbrev pub body_tree : Body → BodyTree
body_tree b = record {
  parts = map part_tree b.parts.items;
  exports = map supply_tree b.exports.items;
}

abbrev pub content_tree : Content → ContentTree
content_tree c = record { front = map group_tree c.front.items; body = body_tree c.body }

abbrev pub bundle_tree : Bundle → BundleTree
bundle_tree b = record {
  front = map group_tree b.front.items;
  parts = map part_tree b.parts.items;
  exports = map supply_tree b.exports.items;
  customs = map (λ c. c.now) b.customs.items;
}

abbrev pub name_tree : PartName → NameTree
name_tree n = record { part = n.part; name = n.name.now }
