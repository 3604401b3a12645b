use Rattle.std.proofs.Common.{◌≡◌, ◌∙◌, Some, ap, arith, length, map, refl, sym, take}
use Rattle.std.proofs.lemmas.Option.{slice_get-get_or}
use Rattle.cm_bundle_links.specs.cm_bundle.declared.form.Part.{Part}
use Rattle.huxarte_c_calls.specs.declared.spans.HuxSpan.{HuxSpan}
use Rattle.huxarte_c_components.specs.Unbundling.{bytes_of, spans_from}
use Rattle.huxarte_c_components.proofs.BundleLaws.{bytes_next, files_next, spans_next}
use Rattle.huxarte_c_components.proofs.unbundled.files_of.Goals as goal

pub loop-part-preserved : goal.loop-part-preserved
loop-part-preserved c =
    let ps = c.args.parts.now in
    let n = c.loop-part.part-index in
    let p = c.part-item.result in
    let view = λ (q : Part). q.file.now in
    let files = map view (take n ps) in
    let there = slice_get-get_or ps n p c.loop-part-test.true ∙ ap Some (sym c.part-item.is) in
    let ends : c.len.result ≡ length c.loop-part.bytes.items = omega (arith, c.len.ensures, c.loop-part.bytes.ok) in
    let one : HuxSpan = record { at = c.len.result; length = length p.file.now } in (
      c.in_ok-extend_from_slice.ensures.items ∙ bytes_next files c.loop-part.bytes.items p.file.now c.loop-part.invariant.0 ∙ ap bytes_of (sym (files_next view ps n p there)),
      c.in_ok-push.ensures.items
          ∙ spans_next files c.loop-part.bytes.items p.file.now c.loop-part.spans.items one c.loop-part.invariant.0 c.loop-part.invariant.1 ends refl
          ∙ ap (spans_from 0) (sym (files_next view ps n p there)),
    )
