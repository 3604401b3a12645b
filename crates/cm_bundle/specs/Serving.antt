-- What a bundle gives to imports, by the standard's rule of instantiation.
use Rattle.std.specs.Prelude.{◌≡◌, ◌<◌, Some}
use Rattle.cm_validate_model.specs.Definitions.{NamedExport}
use Rattle.cm_match_model.specs.declared.component.Link.{Link}
use Rattle.cm_match_model.specs.Imports.{ImportAt, LinkSet, link_of}
use Rattle.cm_match_model.specs.Links.{plan_line}
use Rattle.cm_match_model.specs.Serving.{ServesExtern}
use Rattle.cm_bundle.specs.Trees.{SupplyTree}
use Rattle.cm_bundle.specs.Bundled.{argument_of, export_at, export_sort, import_sort}

-- An import is given this, and it serves the import: it has the import's name, and is an export of
-- an earlier component, of that one's name, of the import's sort and of a type that serves it
-- (Explainer.md, "Instance Definitions").
pub record IsGiven (set : LinkSet) (i : ImportAt) (x : SupplyTree) : Type 0 where
  pub link : Link
  pub linked : link_of set i ≡ Some link
  pub given : argument_of set.spaces (plan_line i link) ≡ Some x
  pub name : x.name ≡ i.item.name
  pub part : x.export.part ≡ link.component
  pub earlier : link.component < i.component
  pub export : NamedExport
  pub there : export_at set.spaces link.component link.export ≡ Some export
  pub export_name : x.export.name ≡ export.name
  pub sort : x.export.sort ≡ import_sort i.item.desc
  pub same_sort : x.export.sort ≡ export_sort export.def
  pub serves : ServesExtern set i.component i.item.desc link.component export.def
