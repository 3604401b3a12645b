use Rattle.std.proofs.Common.{inl, inr}
use Rattle.std.proofs.lemmas.Result.{IfErr-weaker, IfOk-weaker}
use Rattle.cm_layout.specs.Layouts.{layout_of}
use Rattle.cm_abi_model.specs.Ways.{way_of}
use Rattle.cm_abi_lift.proofs.PassedLaws.{lifts_given, only_given}
use Rattle.cm_abi_lift.proofs.lifted.lift.Goals as goal

pub returns-clause-lifts : goal.returns-clause-lifts
returns-clause-lifts c = λ w types is same. IfOk-weaker c.lift_values-lifted.result _ _
    (λ l e. lifts_given c.lifting_is_exact.ensures.lifts w c.args.memory.now c.args.table.now.handles c.args.encoding (way_of c.args.passed.now.way) (layout_of c.args.passed.now.layout.now) types c.args.passed.now.slots.now _ _ _ is same e)
    c.lift_values-lifted.ensures.ok

pub returns-clause-only : goal.returns-clause-only
returns-clause-only c = λ w types v is same denoted can. IfErr-weaker c.lift_values-lifted.result _ _
    (λ f e. elim e [
      | inl memory ↦ memory
      | inr failed ↦ absurd (only_given c.lifting_is_exact.ensures.only w c.args.memory.now c.args.table.now.handles c.args.encoding (way_of c.args.passed.now.way) (layout_of c.args.passed.now.layout.now) types c.args.passed.now.slots.now v f is same denoted can failed)
    ])
    c.lift_values-lifted.ensures.err
