use Rattle.std.proofs.Common.{refl, rules}
use Rattle.cm_types_arena.specs.Places.{types_of}
use Rattle.cm_types_arena.specs.TypeDefs.{case_def_type, type_at}
use Rattle.std.specs.Option.{option_map}
use Rattle.cm_wit_meanings.specs.declared.fault.MeaningFault.TheVariants as fault
use Rattle.cm_wit_meanings.specs.Places.{scope_in}
use Rattle.cm_wit_meanings.specs.PartsAdded.{IsCaseFault, is_case_there}
use Rattle.cm_wit_meanings.proofs.PartsAddedLaws.{added, answers_so, refusal, refused_first}
use Rattle.cm_wit_meanings.proofs.MemberLaws.{case_made, case_refused}
use Rattle.cm_wit_meanings.proofs.members.push_case.Goals as goal

pub returns-in_err-label : goal.returns-in_err-label
returns-in_err-label c = answers_so (search rules) (refused_first case_def_type is_case_there IsCaseFault c.args.types.now _ fault.Memory tt)

pub returns-in_err-payload : goal.returns-in_err-payload
returns-in_err-payload c =
    answers_so (search rules) (refusal case_def_type is_case_there IsCaseFault c.args.types.now c.push_payload.new.types _ c.in_err-payload.field-0.0 (case_refused (scope_in (types_of c.args.types.now) c.args.scope.now) c.args.text.now c.in_err-payload.field-0.0 c.in_err-payload.ensures.fault) c.in_err-payload.ensures.grown c.in_err-payload.ensures.funcs)

pub returns : goal.returns
returns c =
    added c.in_ok-payload.ensures.there (case_made (scope_in (types_of c.args.types.now) c.args.scope.now) c.args.text.now (option_map (type_at (types_of c.push_payload.new.types)) c.in_ok-payload.payload) (types_of c.push_payload.new.types) (record { label = c.in_ok-label.label; payload = c.in_ok-payload.payload }) c.in_ok-payload.ensures.meaning (search rules) refl) tt c.in_ok-payload.ensures.grown c.in_ok-payload.ensures.funcs
