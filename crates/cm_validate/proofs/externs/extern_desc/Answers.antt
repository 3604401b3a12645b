use Rattle.std.proofs.Common.{sym, subst, None}
use Rattle.cm_types_arena.specs.declared.externs.ExternDesc.TheVariants as desc
use Rattle.cm_validate_entries.specs.declared.spaces.ExportedEntry.{ExportedEntry}
use Rattle.cm_validate.specs.Made.{IsDescOf, IsInstanceNumber}
use Rattle.cm_validate.proofs.ExternLaws.{instance_shown}
use Rattle.cm_validate.proofs.externs.extern_desc.Goals as goal

pub returns-in_ok-instance_type-in-Instance-clause-is : goal.returns-in_ok-instance_type-in-Instance-clause-is
returns-in_ok-instance_type-in-Instance-clause-is c = λ types funcs s made numbered.
    let t = c.in_ok-instance_type-in-Instance.field-0 in
    let n = subst (IsInstanceNumber types funcs s c.args.number) c.in-Instance.is numbered in
    subst (λ (d : ExportedEntry). IsDescOf types funcs d (desc.Instance t None)) (sym c.in-Instance.is)
    (instance_shown c.unmoved.ensures.types c.unmoved.ensures.funcs types funcs c.in-Instance.instance t (c.in_ok-instance_type-in-Instance.ensures.is types funcs s made n))
