use Rattle.std.proofs.Common.{◌≡◌, ◌∙◌, length, map, ap, sym, rules}
use Rattle.cm_layout.specs.declared.layouts.Form.{the_lemmas}
use Rattle.cm_layout.specs.Layouts.{layout_of, nothings, part_of, payload_of}
use Rattle.cm_layout.specs.Shapes.{cases_shape, fields_shape, parts_from, payloads_from}
use Rattle.huxarte_c_calls.specs.Shapes.{count_in}
use Rattle.huxarte_c_calls.proofs.NodeLaws.{nothings_counted, parts_read, payloads_read}
use Rattle.huxarte_c_calls.proofs.nodes.count.Goals as goal

pub returns-in-Fields : goal.returns-in-Fields
returns-in-Fields c =
    let parts = c.in-Fields.parts.value.items in
    let seen : (layout_of c.args.layout.now).shape ≡ fields_shape (parts_from (map part_of parts)) = search (rules, the_lemmas) in
    let many : c.len.result ≡ length parts = search rules in
    many ∙ (sym (parts_read part_of parts) ∙ sym (ap count_in seen))

pub returns-in-Cases : goal.returns-in-Cases
returns-in-Cases c =
    let payloads = c.in-Cases.payloads.value.items in
    let seen : (layout_of c.args.layout.now).shape ≡ cases_shape c.in-Cases.discriminant c.in-Cases.offset (payloads_from (map payload_of payloads)) = search (rules, the_lemmas) in
    let many : c.len-in-Cases.result ≡ length payloads = search rules in
    many ∙ (sym (payloads_read payload_of payloads) ∙ sym (ap count_in seen))

pub returns-in-Enum : goal.returns-in-Enum
returns-in-Enum c =
    let seen : (layout_of c.args.layout.now).shape ≡ cases_shape c.in-Enum.discriminant c.in-Enum.discriminant (nothings c.in-Enum.count) = search (rules, the_lemmas) in
    sym (nothings_counted c.in-Enum.count) ∙ sym (ap count_in seen)
