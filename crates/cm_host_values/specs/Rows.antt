-- Types in a row, as trees of the code (Explainer.md, "Value Types").
use Rattle.std.specs.Prelude.{List, [], map, Option, Some, None}
use Rattle.cm_types.specs.Types.{Ty, Fields, FuncTy, no_fields, field}
use Rattle.cm_types.specs.Funcs.{tree_type}
use Rattle.cm_types.specs.TypeTrees.{parts_from}
use Rattle.cm_types.specs.declared.type_trees.TypeTree.{TypeTree}

-- the tuple of the types of trees
abbrev pub row_of : List TypeTree → Fields
row_of trees = parts_from (map tree_type trees)

-- the type of the result of a function, as the fields of a tuple
abbrev pub fields_of_result : Option Ty → Fields
fields_of_result None = no_fields
fields_of_result (Some t) = field [] t no_fields

abbrev pub result_types : FuncTy → Fields
result_types f = fields_of_result f.result
