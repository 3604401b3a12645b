use Rattle.std.proofs.Common.{List, take}
use Rattle.cm_types.specs.Types.{Ty, FuncTy}
use Rattle.cm_validate_model.specs.Spaces.{Spaces}
use Rattle.cm_validate_items.specs.Shared.{AreShared}
use Rattle.cm_validate.specs.Made.{AreExportsOf, AreExternsOf, AreMade}
use Rattle.cm_validate.proofs.externs.exported_externs.Given as goal

-- the exports so far are shown, and what was made for them is right
abbrev pub invariant-loop-at : goal.invariant-loop-at
invariant-loop-at l =
    (types : List Ty) (funcs : List FuncTy) (s : Spaces) → AreShared s l.shared → AreExportsOf types funcs s l.exports
    → AreMade types funcs s l.made × AreExternsOf types funcs (take l.at l.exports) l.externs.items
