use Rattle.std.proofs.Common.{arith, refl, rules}
use Rattle.cm_wit_meanings.proofs.PartsAddedLaws.{answers_so}
use Rattle.cm_wit_meanings.proofs.MemberLaws.{field_lost, field_next, field_stops, fields_added, fields_none, fields_placed}
use Rattle.cm_wit_meanings.proofs.members.push_fields.Goals as goal

pub loop-text-init : goal.loop-text-init
loop-text-init c = fields_none c.args.scope.now c.args.texts.now c.args.types.now c.in_ok-fields.fields.items (search rules)

pub push_field-requires : goal.push_field-requires
push_field-requires c = record { placed = fields_placed c.args.scope.now c.args.texts.now c.args.types.now c.loop-text.types c.requires.placed c.loop-text.text-index c.loop-text.fields.items c.loop-text.invariant }

pub returns-in_err-field : goal.returns-in_err-field
returns-in_err-field c =
    answers_so (search rules) (field_stops c.args.scope.now c.args.texts.now c.args.types.now c.loop-text.types c.requires.placed c.loop-text.text-index c.loop-text.fields.items c.loop-text.invariant c.push_field.new.types c.text-item.result (omega arith) c.text-item.is _ c.in_err-field.ensures)

pub returns-then-is_err : goal.returns-then-is_err
returns-then-is_err c = field_lost c.args.scope.now c.args.texts.now c.args.types.now c.loop-text.types c.requires.placed c.loop-text.text-index c.loop-text.fields.items c.loop-text.invariant c.push_field.new.types c.text-item.result (omega arith) c.text-item.is _ c.in_ok-field.ensures

pub loop-text-preserved : goal.loop-text-preserved
loop-text-preserved c =
    field_next c.args.scope.now c.args.texts.now c.args.types.now c.loop-text.types c.requires.placed c.loop-text.text-index c.loop-text.fields.items c.loop-text.invariant c.push_field.new.types c.text-item.result (omega arith) c.text-item.is _ c.push.new.self.items c.in_ok-field.ensures (search rules)

pub returns : goal.returns
returns c = fields_added c.args.scope.now c.args.texts.now c.args.types.now c.loop-text.types c.requires.placed c.loop-text.text-index c.loop-text.fields.items c.loop-text.invariant c.loop-text.fields refl (omega arith)
