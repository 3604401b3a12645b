use Rattle.std.proofs.Common.{◌≡◌, ◌++◌, List, map, take}
use Rattle.cm_types.specs.Types.{FuncTy, Ty}
use Rattle.cm_validate_spaces.specs.cm_validate_entries.Entries.{named_member}
use Rattle.cm_validate_core.specs.NameMaps.{entries_of}
use Rattle.cm_validate_functions.specs.Kept.{lift_def}
use Rattle.cm_validate_functions.specs.Lifts.{lifts_of_members}
use Rattle.cm_validate_functions.proofs.lifts.add_members.Given as goal

abbrev pub invariant-loop-number : goal.invariant-loop-number
invariant-loop-number l =
    (types : List Ty) (funcs : List FuncTy)
    → map (lift_def funcs) l.lifts.items ≡ map (lift_def funcs) l.initial.lifts.items ++ lifts_of_members l.export (map (named_member types funcs) (take l.number (entries_of l.members)))
