-- Names that share what stands in front of their last labels (Explainer.md, "Import and Export
-- Definitions").
use Rattle.std.specs.Prelude.{ℕ, List, slice_index_or}
use Rattle.cm_types.specs.ExternNames.{NameTree, constructor, interface, method, name_spelling}
use Rattle.cm_types.specs.ExternNames.{plain, static}
use Rattle.cm_types_arena.specs.declared.names.Front.{Front}
use Rattle.cm_types_arena.specs.declared.names.Front.TheVariants as front
use Rattle.cm_types_arena.specs.declared.names.SharedName.{SharedName}

-- the name that has this front, and this label behind it
abbrev pub name_with : Front → List ℕ → NameTree
name_with front.Plain l = plain l
name_with (front.Method r) l = method r l
name_with (front.Static r) l = static r l
name_with (front.Constructor r) l = constructor r
name_with (front.Interface p) l = interface p.namespace p.name l p.version

-- the name that a shared one is, where these are the fronts
abbrev pub tree_in : List Front → SharedName → NameTree
tree_in fronts n = name_with (slice_index_or fronts n.front front.Plain) n.back

-- its text
abbrev pub text_in : List Front → SharedName → List ℕ
text_in fronts n = name_spelling (tree_in fronts n)
