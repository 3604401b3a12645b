use Rattle.std.proofs.Common.{◌≡◌, ◌∙◌, sym}
use Rattle.cm_validate_functions.specs.Lifts.{lifting}
use Rattle.cm_validate_functions.proofs.LiftLaws.{lift_none, lift_some}
use Rattle.cm_validate_functions.proofs.lift_tables.LiftTables.lifting.Goals as goal

pub returns-in-None : goal.returns-in-None
returns-in-None c = λ funcs all are. lift_none funcs all c.args.self.now lifting c.args.self.now.lifted c.args.func are.firsts are.lifted_are (sym c.find.ensures ∙ c.in-None.is)

pub returns-in-Some : goal.returns-in-Some
returns-in-Some c = λ funcs all are.
    lift_some funcs all c.args.self.now lifting c.args.self.now.lifted c.args.func are.firsts are.lifted_are c.in-Some.place c.at.result (sym c.find.ensures ∙ c.in-Some.is) c.at.ensures
