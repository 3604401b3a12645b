use Rattle.std.proofs.Common.{◌+◌, sym, subst, take, arith}
use Rattle.cm_validate_model.specs.Spaces.{spaces_of}
use Rattle.cm_validate_model.specs.Valid.{IsValid}
use Rattle.cm_validate_items.specs.Shared.{AreShared}
use Rattle.cm_match_serving.specs.cm_validate_spaces.Checked.{spaces_in}
use Rattle.cm_match.specs.Pairs.{AreTables}
use Rattle.cm_match.proofs.PairLaws.{all_tables, next_table, none_yet}
use Rattle.cm_match.proofs.judged.shared_in.Goals as goal

pub loop-checked-init : goal.loop-checked-init
loop-checked-init c = none_yet c.in_ok-tables.tables.items c.in_ok-tables.ensures.items

pub loop-checked-preserved : goal.loop-checked-preserved
loop-checked-preserved c =
    let one : AreShared (spaces_in c.checked-item.result) c.in_ok-new.field-0 =
    subst (λ ss. AreShared (spaces_of ss) c.in_ok-new.field-0) c.component.ensures.component
    (c.in_ok-new.ensures.shared (subst IsValid (sym c.component.ensures.component) c.component.ensures.valid)) in
    subst (AreTables (take (c.loop-checked.checked-index + 1) c.args.components.now)) (sym c.in_ok-push.ensures.items)
    (next_table c.args.components.now c.loop-checked.tables.items c.loop-checked.checked-index c.checked-item.result c.in_ok-new.field-0 c.loop-checked-test.true c.checked-item.is one c.loop-checked.invariant)

pub returns : goal.returns
returns c = all_tables c.args.components.now c.loop-checked.tables.items c.loop-checked.checked-index (omega arith) c.loop-checked.invariant
