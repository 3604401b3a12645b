use Rattle.std.proofs.Common.{◌≡◌, ◌∷◌, Ok, refl, rules}
use Rattle.cm_types_arena.specs.Places.{HasFuncParts}
use Rattle.cm_types_arena.specs.TypeDefs.{func_def_type}
use Rattle.cm_types_arena.specs.declared.type_defs.FieldDef.{FieldDef}
use Rattle.cm_wit_meanings.specs.declared.fault.MeaningFault.TheVariants as fault
use Rattle.cm_wit_meanings.specs.Faults.{IsFuncFault}
use Rattle.cm_wit_meanings.proofs.PartsAddedLaws.{answers_so, refusal, refused_first, type_added}
use Rattle.cm_wit_meanings.proofs.FuncLaws.{self_added, self_refused}
use Rattle.cm_wit_meanings.proofs.functions.with_self.Goals as goal

pub returns-in_err-label : goal.returns-in_err-label
returns-in_err-label c = answers_so (search rules) (refused_first func_def_type HasFuncParts IsFuncFault c.args.types.now _ fault.Memory tt)

pub returns-in_err-ty : goal.returns-in_err-ty
returns-in_err-ty c =
    answers_so (search rules) (refusal func_def_type HasFuncParts IsFuncFault c.args.types.now c.push.new.types _ c.in_err-ty.field-0.0 (self_refused c.args.resource _ c.in_err-ty.field-0.0 c.in_err-ty.ensures.fault) c.in_err-ty.ensures.grown c.in_err-ty.ensures.funcs)

pub returns-then-is_err : goal.returns-then-is_err
returns-then-is_err c = refusal func_def_type HasFuncParts IsFuncFault c.args.types.now c.push.new.types _ fault.Memory tt c.in_ok-ty.ensures.grown c.in_ok-ty.ensures.funcs

pub returns : goal.returns
returns c =
    let f : FieldDef = record { label = c.in_ok-label.label; ty = c.in_ok-ty.ty } in
    let q : c.insert.new.self.items ≡ f ∷ c.args.def.params.items = search rules in
    self_added c.args.types.now c.push.new.types c.args.resource c.args.def c.requires.parts f (record { params = c.insert.new.self; result = c.args.def.result }) (type_added c.args.types.now c.push.new.types _ (Ok c.in_ok-ty.ty) c.in_ok-ty.ensures.there c.in_ok-ty.ensures.ty tt c.in_ok-ty.ensures.grown c.in_ok-ty.ensures.funcs) c.in_ok-label.ensures q refl
