use Rattle.std.proofs.Common.{◌≡◌, ◌∙◌, None, Option, Some, ap, refl, slice_get, sym, rules}
use Rattle.std.specs.Prelude.{option_and_then, option_map}
use Rattle.std.proofs.lemmas.Option.{slice_get-map, slice_get_read}
use Rattle.cm_layout.specs.declared.layouts.Form.{the_lemmas}
use Rattle.cm_layout.specs.Layouts.{layout_of, payload_of}
use Rattle.cm_layout.specs.Shapes.{LayoutTy}
use Rattle.huxarte_c_calls.proofs.nodes.carried_at.Goals as goal

pub returns-in-Carried : goal.returns-in-Carried
returns-in-Carried c =
    let payload = c.in_ok-layout.field-0.now in
    let at : slice_get c.args.payloads.now c.args.number ≡ Some payload = slice_get_read _ _ _ _ refl c.in_ok-layout.ensures.lookup.3.0 c.in_ok-layout.ensures.lookup.1 in
    let seen : payload_of payload ≡ Some (layout_of c.in-Carried.layout) = search (rules, the_lemmas) in
    sym (ap (option_and_then (λ (p : Option LayoutTy). p)) (slice_get-map payload_of c.args.payloads.now c.args.number ∙ (ap (option_map payload_of) at ∙ ap Some seen)))

pub returns-in-Nothing : goal.returns-in-Nothing
returns-in-Nothing c =
    let payload = c.in_ok-layout.field-0.now in
    let at : slice_get c.args.payloads.now c.args.number ≡ Some payload = slice_get_read _ _ _ _ refl c.in_ok-layout.ensures.lookup.3.0 c.in_ok-layout.ensures.lookup.1 in
    let seen : payload_of payload ≡ None = search (rules, the_lemmas) in
    sym (ap (option_and_then (λ (p : Option LayoutTy). p)) (slice_get-map payload_of c.args.payloads.now c.args.number ∙ (ap (option_map payload_of) at ∙ ap Some seen)))
