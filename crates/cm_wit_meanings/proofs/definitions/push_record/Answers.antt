use Rattle.std.proofs.Common.{rules}
use Rattle.cm_wit_meanings.specs.Meanings.{record_of}
use Rattle.cm_wit_meanings.proofs.PartsAddedLaws.{answers_so, made, refused, type_added}
use Rattle.cm_wit_meanings.proofs.DefinitionLaws.{record_refused}
use Rattle.cm_wit_meanings.proofs.definitions.push_record.Goals as goal

pub returns-in_err-fields : goal.returns-in_err-fields
returns-in_err-fields c = answers_so (search rules) (refused c.in_err-fields.ensures (record_refused _ _))

pub push-requires : goal.push-requires
push-requires c = record { parts = c.in_ok-fields.ensures.there }

pub returns : goal.returns
returns c =
    made record_of c.in_ok-fields.ensures (type_added c.push_fields.new.types c.push.new.types _ c.push.result c.push.ensures.there c.push.ensures.ty c.push.ensures.fault c.push.ensures.grown c.push.ensures.funcs)
