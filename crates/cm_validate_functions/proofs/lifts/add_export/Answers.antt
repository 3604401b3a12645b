use Rattle.std.proofs.Common.{◌≡◌, ◌++◌, sym, subst}
use Rattle.std.proofs.lemmas.Result.{on_ok_weaker}
use Rattle.cm_validate_spaces.specs.cm_validate_entries.declared.spaces.ExportedEntry.{ExportedEntry}
use Rattle.cm_validate_spaces.specs.cm_validate_entries.ComponentSpaces.{exported_def}
use Rattle.cm_validate_functions.specs.Kept.{AreKept, IsOfNumber}
use Rattle.cm_validate_functions.specs.Lifts.{lifts_of_export}
use Rattle.cm_validate_functions.proofs.LiftLaws.{kept_more}
use Rattle.cm_validate_functions.proofs.lifts.add_export.Goals as goal

pub returns-in-Func : goal.returns-in-Func
returns-in-Func c = on_ok_weaker c.add_func.result
    (λ more types funcs s all numbered kept.
    subst (λ (d : ExportedEntry). AreKept funcs s (all ++ lifts_of_export c.args.export (exported_def types funcs d)) c.args.met.now c.add_func.new.lifts.items) (sym c.in-Func.is)
    (kept_more funcs s all _ c.args.met.now c.args.lifts.now.items c.add_func.new.lifts.items (more funcs) kept))
    c.add_func.ensures

pub returns-in-Instance : goal.returns-in-Instance
returns-in-Instance c = on_ok_weaker c.add_once.result
    (λ once types funcs s all numbered kept.
    subst (λ (d : ExportedEntry). AreKept funcs s (all ++ lifts_of_export c.args.export (exported_def types funcs d)) c.add_once.new.met c.add_once.new.lifts.items) (sym c.in-Instance.is)
    (once types funcs s all (subst (λ (d : ExportedEntry). IsOfNumber s c.args.number (exported_def types funcs d)) c.in-Instance.is numbered) kept))
    c.add_once.ensures
