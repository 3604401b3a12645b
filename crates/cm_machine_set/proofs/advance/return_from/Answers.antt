use Rattle.std.proofs.Common.{sym, subst}
use Rattle.cm_machine_model.specs.declared.frame.Purpose.{Purpose}
use Rattle.cm_machine_model.specs.Step.{Returns}
use Rattle.cm_machine_parts.specs.Rows.{MeetsRow}
use Rattle.cm_machine_parts.specs.States.{state_of}
use Rattle.cm_machine_set.proofs.advance.return_from.Goals as goal

pub returns-in-Root-clause-row : goal.returns-in-Root-clause-row
returns-in-Root-clause-row c plan planned runs =
    subst (λ (p : Purpose). MeetsRow (Returns plan (state_of c.args.state.now) p c.args.given.now) c.return_root.result c.args.values.now (state_of c.return_root.new.state)) (sym c.in-Root.is) (c.return_root.ensures.row plan c.args.values.now)

pub returns-in-Destructor-clause-row : goal.returns-in-Destructor-clause-row
returns-in-Destructor-clause-row c plan planned runs =
    subst (λ (p : Purpose). MeetsRow (Returns plan (state_of c.args.state.now) p c.args.given.now) c.return_destructor.result c.return_destructor.new.values (state_of c.return_destructor.new.state)) (sym c.in-Destructor.is) (c.return_destructor.ensures.row plan)
