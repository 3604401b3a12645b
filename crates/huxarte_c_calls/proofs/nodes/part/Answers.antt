use Rattle.std.proofs.Common.{◌≡◌, ◌∙◌, List, Option, ap, map, slice_get, sym, rules}
use Rattle.std.specs.Prelude.{option_and_then}
use Rattle.cm_layout.specs.declared.layouts.Form.{the_lemmas}
use Rattle.cm_layout.specs.Layouts.{layout_of, nothings, part_of, payload_of}
use Rattle.cm_layout.specs.Shapes.{LayoutTy, Shape, cases_shape, fields_shape, parts_from, payloads_from}
use Rattle.cm_layout.specs.declared.layouts.Part.{Part}
use Rattle.cm_layout.specs.declared.layouts.Payload.{Payload}
use Rattle.huxarte_c_calls.specs.Shapes.{case_at, part_in}
use Rattle.huxarte_c_calls.proofs.NodeLaws.{carried_found, nothing_carried, part_found}
use Rattle.huxarte_c_calls.proofs.nodes.part.Goals as goal

pub returns-in-Fields : goal.returns-in-Fields
returns-in-Fields c =
    let parts = c.in-Fields.parts.value.items in
    let n = c.args.number in
    let seen : (layout_of c.args.layout.now).shape ≡ fields_shape (parts_from (map part_of parts)) = search (rules, the_lemmas) in
    let told : part_in (layout_of c.args.layout.now).shape n ≡ slice_get (map part_of parts) n = ap (λ (s : Shape). part_in s n) seen ∙ part_found (map part_of parts) n in
    let same : c.deref-in-Fields-2.result.now ≡ parts = search rules in
    c.field_at.ensures ∙ (ap (λ (xs : List Part). slice_get (map part_of xs) n) same ∙ sym told)

pub returns-in-Cases : goal.returns-in-Cases
returns-in-Cases c =
    let payloads = c.in-Cases.payloads.value.items in
    let offset = c.in-Cases.offset in
    let n = c.args.number in
    let seen : (layout_of c.args.layout.now).shape ≡ cases_shape c.in-Cases.discriminant offset (payloads_from (map payload_of payloads)) = search (rules, the_lemmas) in
    let told : part_in (layout_of c.args.layout.now).shape n ≡ case_at offset (option_and_then (λ (p : Option LayoutTy). p) (slice_get (map payload_of payloads) n)) =
    ap (λ (s : Shape). part_in s n) seen ∙ ap (case_at offset) (carried_found (map payload_of payloads) n) in
    let same : c.deref-in-Cases-2.result.now ≡ payloads = search rules in
    c.case_at.ensures ∙ (ap (λ (xs : List Payload). case_at offset (option_and_then (λ (p : Option LayoutTy). p) (slice_get (map payload_of xs) n))) same ∙ sym told)

pub returns-in-Enum : goal.returns-in-Enum
returns-in-Enum c =
    let n = c.args.number in
    let seen : (layout_of c.args.layout.now).shape ≡ cases_shape c.in-Enum.discriminant c.in-Enum.discriminant (nothings c.in-Enum.count) = search (rules, the_lemmas) in
    sym (ap (λ (s : Shape). part_in s n) seen ∙ ap (case_at c.in-Enum.discriminant) (nothing_carried c.in-Enum.count n))
