use Rattle.std.proofs.Common.{refl, rules}
use Rattle.cm_types_arena.specs.Places.{types_of}
use Rattle.cm_types_arena.specs.TypeDefs.{field_def_type}
use Rattle.cm_wit_meanings.specs.declared.fault.MeaningFault.TheVariants as fault
use Rattle.cm_wit_meanings.specs.Places.{scope_in}
use Rattle.cm_wit_meanings.specs.PartsAdded.{IsFieldFault, is_field_there}
use Rattle.cm_wit_meanings.proofs.PartsAddedLaws.{added, answers_so, refusal, refused_first}
use Rattle.cm_wit_meanings.proofs.MemberLaws.{field_of, typed_refused}
use Rattle.cm_wit_meanings.proofs.members.push_field.Goals as goal

pub returns-in_err-label : goal.returns-in_err-label
returns-in_err-label c = answers_so (search rules) (refused_first field_def_type is_field_there IsFieldFault c.args.types.now _ fault.Memory tt)

pub returns-in_err-ty : goal.returns-in_err-ty
returns-in_err-ty c =
    answers_so (search rules) (refusal field_def_type is_field_there IsFieldFault c.args.types.now c.push_type.new.types _ c.in_err-ty.field-0.0 (typed_refused (scope_in (types_of c.args.types.now) c.args.scope.now) c.args.text.now c.in_err-ty.field-0.0 c.in_err-ty.ensures.fault) c.in_err-ty.ensures.grown c.in_err-ty.ensures.funcs)

pub returns : goal.returns
returns c =
    field_of (scope_in (types_of c.args.types.now) c.args.scope.now) c.args.text.now (record { label = c.in_ok-label.label; ty = c.in_ok-ty.ty }) (added c.in_ok-ty.ensures.there c.in_ok-ty.ensures.meaning tt c.in_ok-ty.ensures.grown c.in_ok-ty.ensures.funcs) (search rules) refl
