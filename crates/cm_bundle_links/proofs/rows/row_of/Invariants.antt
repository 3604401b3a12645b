use Rattle.std.proofs.Common.{List, map, take}
use Rattle.cm_types.specs.Types.{FuncTy, Ty}
use Rattle.cm_types_arena.specs.Externs.{extern_of}
use Rattle.cm_validate_model.specs.Spaces.{Spaces}
use Rattle.cm_bundle.specs.Trees.{group_tree, supply_tree}
use Rattle.cm_bundle_links.specs.Links.{AreLinked}
use Rattle.cm_bundle_links.specs.Tables.{AreTables}
use Rattle.cm_bundle_links.proofs.rows.row_of.Given as goal

-- the imports so far have links
abbrev pub invariant-loop-argument : goal.invariant-loop-argument
invariant-loop-argument l = (set : List Spaces) (types : List Ty) (funcs : List FuncTy) → AreTables set l.before
    → AreLinked (map group_tree l.front) set (take l.argument (map (extern_of types funcs) l.imports)) (take l.argument (map supply_tree l.arguments)) l.row.items
