use Rattle.std.proofs.Common.{refl, subst, sym}
use Rattle.std.specs.List.{slice_get}
use Rattle.cm_validate_instances.specs.Members.{IsAnswered}
use Rattle.cm_validate_instances.proofs.MemberLaws.{func_answered, type_answered}
use Rattle.cm_validate_instances.proofs.members.member_at.Goals as goal

pub returns-in-Type : goal.returns-in-Type
returns-in-Type c = λ types funcs s t.
    subst (IsAnswered types funcs s c.args.export.now) (sym c.type_at.ensures)
    (type_answered types funcs c.args.spaces.now s c.args.types.now t c.args.export.now c.in-Type.is (slice_get c.args.types.now c.args.export.now.index) refl)

pub returns-in-Some : goal.returns-in-Some
returns-in-Some c = λ types funcs s t.
    func_answered types funcs c.args.spaces.now s c.args.types.now t c.args.export.now c.in-Func.is c.in-Some.func
    (c.in-Some.ensures.def types funcs s t.component) (c.in-Some.ensures.there types funcs s t.component)
