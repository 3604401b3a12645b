use Rattle.std.proofs.Common.{◌≡◌, ◌∙◌, ap, length, map, subst, sym}
use Rattle.cm_abi_model.specs.Answered.{all_requests}
use Rattle.cm_abi_model.specs.Numbers.{slot_number}
use Rattle.cm_handles.specs.Handles.{Handles}
use Rattle.huxarte_c_calls.specs.Texts.{written}
use Rattle.huxarte_c_calls.specs.Copying.{AreCopied}
use Rattle.huxarte_c_calls.proofs.CopyLaws.{put_back, undelivered}
use Rattle.huxarte_c_calls.proofs.copying.deliver.Goals as goal

pub returns-in-Ok-give-clause-delivered : goal.returns-in-Ok-give-clause-delivered
returns-in-Ok-give-clause-delivered c = λ w types v t is memory scans.
    let call = c.args.scanned.now.call.now in
    let made = c.in-Ok-give.ensures.copied w types v t is memory scans in
    let told = c.numbers.ensures in
    let value = c.deref-in-Ok-give.ensures.value in
    let same : c.deref-in-Ok-give.result.now ≡ c.give.new.values =
    value ∙ put_back c.in_ok-values.values.len c.give.new.values c.in_ok-values.values.items (c.in_ok-values.values.ok.0 ∙ (sym (ap length c.deref_mut.ensures.value) ∙ sym c.give.auto.values)) in
    record {
      table = c.give.new.table.handles;
      core_values = c.give.new.values;
      numbers = c.give.new.kept.numbers;
      copied = subst (λ (x : Handles). AreCopied c.args.taker.now.to call.encodings.target types v (all_requests c.args.kept.now.parts) c.args.taker.now.answers.now c.args.memory.now c.give.new.memory x c.give.new.table.handles c.give.new.values c.give.new.kept.numbers) c.in-Ok.ensures.handles made;
      slots_are = c.put_values.ensures ∙ ap (map slot_number) same;
      numbers_are = c.write_items.ensures.written ∙ ap (written c.args.numbers.now) told;
      wanted_is = c.write_items.ensures.wanted ∙ ap length told;
    }

pub returns-in-Ok-clause-refused : goal.returns-in-Ok-clause-refused
returns-in-Ok-clause-refused c = λ w types v t is memory scans.
    undelivered c.args.taker.now.to types v (all_requests c.args.kept.now.parts) c.args.taker.now.handles.now c.args.taker.now.answers.now _ c.in-Ok.table.handles c.in-Err-give.fault
    c.in-Ok.ensures.handles (c.in-Err-give.ensures.refused w types v t is memory scans)
