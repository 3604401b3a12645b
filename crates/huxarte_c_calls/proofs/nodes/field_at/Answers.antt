use Rattle.std.proofs.Common.{◌≡◌, ◌∙◌, Some, ap, refl, slice_get, sym, rules}
use Rattle.std.specs.Prelude.{option_map}
use Rattle.std.proofs.lemmas.Option.{slice_get-map, slice_get_read}
use Rattle.cm_layout.specs.declared.layouts.Form.{the_lemmas}
use Rattle.cm_layout.specs.Layouts.{layout_of, part_of}
use Rattle.huxarte_c_calls.proofs.nodes.field_at.Goals as goal

pub returns : goal.returns
returns c =
    let part = c.in_ok-part.part.now in
    let at : slice_get c.args.parts.now c.args.number ≡ Some part = slice_get_read _ _ _ _ refl c.in_ok-part.ensures.lookup.3.0 c.in_ok-part.ensures.lookup.1 in
    let seen : part_of part ≡ (part.offset, layout_of part.layout) = search (rules, the_lemmas) in
    sym (slice_get-map part_of c.args.parts.now c.args.number ∙ (ap (option_map part_of) at ∙ ap Some seen))
