use Rattle.std.proofs.Common.{◌≡◌, ◌∙◌, ◌++◌, List, [], map, ap, sym}
use Rattle.cm_lemmas.proofs.Lists.{nil_right}
use Rattle.cm_validate_functions.specs.Kept.{lift_def}
use Rattle.cm_validate_functions.specs.Lifts.{LiftDef}
use Rattle.cm_validate_functions.proofs.LiftLaws.{imported_none}
use Rattle.cm_validate_functions.proofs.lifts.add_instance.Goals as goal

pub returns-in-Imported : goal.returns-in-Imported
returns-in-Imported c = λ types funcs.
    let old : List LiftDef = map (lift_def funcs) c.args.lifts.now.items in
    sym (ap (λ (ls : List LiftDef). old ++ ls) (imported_none types funcs c.args.export c.args.instance.now _ _ _ c.in-Imported.is) ∙ nil_right old)
