use Rattle.std.proofs.Common.{◌∙◌, ap, length, map}
use Rattle.huxarte_c_calls.specs.Texts.{written}
use Rattle.huxarte_c_components.specs.declared.unbundled.HuxBundle.{HuxBundle}
use Rattle.huxarte_c_components.proofs.BundleLaws.{handed_out}
use Rattle.huxarte_c_components.proofs.unbundled.hand_out.Goals as goal

pub returns-clause-out : goal.returns-clause-out
returns-clause-out c =
    let seen : HuxBundle = record { files = c.write_items.result; bytes = c.write_items-2.result; choices = c.write_items-3.result } in
    handed_out (map (λ p. p.file.now) c.args.parts.now) (map (λ r. r.items) c.args.rows.now) seen c.in_ok-out.out.spans.items c.args.files.now c.write_items.new.room
    c.in_ok-out.out.bytes.items c.args.texts.now c.write_items-2.new.room c.in_ok-chosen.chosen.items c.args.choices.now c.write_items-3.new.room
    c.in_ok-out.ensures.spans c.in_ok-out.ensures.bytes c.in_ok-chosen.ensures
    (c.write_items.ensures.wanted ∙ ap length c.deref.ensures.value) (c.write_items-2.ensures.wanted ∙ ap length c.deref-2.ensures.value) (c.write_items-3.ensures.wanted ∙ ap length c.deref-3.ensures.value)
    (c.write_items.ensures.written ∙ ap (written c.args.files.now) c.deref.ensures.value)
    (c.write_items-2.ensures.written ∙ ap (written c.args.texts.now) c.deref-2.ensures.value)
    (c.write_items-3.ensures.written ∙ ap (written c.args.choices.now) c.deref-3.ensures.value)
