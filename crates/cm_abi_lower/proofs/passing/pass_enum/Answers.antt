use Rattle.std.proofs.Common.{◌≡◌, refl}
use Rattle.cm_types.specs.Values.{bare}
use Rattle.cm_layout.specs.Layouts.{nothings}
use Rattle.cm_layout.specs.Shapes.{cases_shape}
use Rattle.cm_abi_store.specs.WalkLaws.{none_carried}
use Rattle.cm_abi_lower.proofs.passing.pass_enum.Goals as goal

pub returns-clause-slots : goal.returns-clause-slots
returns-clause-slots g c = λ given k h.
    let is : g.S.ValueSource.value c.args.source (cases_shape c.args.discriminant c.args.discriminant (nothings c.args.count)) ≡ bare c.case-case.result.0 =
    rw (none_carried c.args.count c.case-case.result.0) at (c.case-case.ensures _ _ _ (nothings c.args.count) _ _ c.requires.ready.5).0 in
    rw (is, c.from.ensures) refl

pub returns-clause-behind : goal.returns-clause-behind
returns-clause-behind g c = λ given k h.
    let is : g.S.ValueSource.value c.args.source (cases_shape c.args.discriminant c.args.discriminant (nothings c.args.count)) ≡ bare c.case-case.result.0 =
    rw (none_carried c.args.count c.case-case.result.0) at (c.case-case.ensures _ _ _ (nothings c.args.count) _ _ c.requires.ready.5).0 in
    rw is refl

pub returns-clause-parts : goal.returns-clause-parts
returns-clause-parts g c =
    let is : g.S.ValueSource.value c.args.source (cases_shape c.args.discriminant c.args.discriminant (nothings c.args.count)) ≡ bare c.case-case.result.0 =
    rw (none_carried c.args.count c.case-case.result.0) at (c.case-case.ensures _ _ _ (nothings c.args.count) _ _ c.requires.ready.5).0 in
    rw is refl

pub returns-clause-handles : goal.returns-clause-handles
returns-clause-handles g c =
    let is : g.S.ValueSource.value c.args.source (cases_shape c.args.discriminant c.args.discriminant (nothings c.args.count)) ≡ bare c.case-case.result.0 =
    rw (none_carried c.args.count c.case-case.result.0) at (c.case-case.ensures _ _ _ (nothings c.args.count) _ _ c.requires.ready.5).0 in
    rw is refl
