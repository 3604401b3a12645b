use Rattle.std.proofs.Common.{◌≡◌, ◌∙◌, ap, length, sym}
use Rattle.cm_layout.specs.Layouts.{layout_of}
use Rattle.cm_abi_model.specs.Views.{flat_limit}
use Rattle.cm_abi_model.specs.Ways.{way_of}
use Rattle.cm_abi_programs.specs.CallPuts.{call_puts_in, call_puts_of, flat, stored}
use Rattle.cm_abi_programs.specs.CodedPuts.{puts_in}
use Rattle.cm_abi_programs.specs.CodedSlots.{slots_in}
use Rattle.cm_abi_copy.proofs.CallPutsLemmas.{flat_bytes, flat_lies, flat_numbers, flat_ready, flat_so, spilled_bytes, spilled_lies, spilled_ready, stored_so}
use Rattle.cm_abi_copy.proofs.calls.put_call.Goals as goal

pub put_all-requires-clause-within : goal.put_all-requires-clause-within
put_all-requires-clause-within c =
    let is : stored (puts_in c.deref.result.now) ≡ call_puts_of (flat_limit (way_of c.args.passed.now.way)) (layout_of c.args.passed.now.layout.now) =
    ap (λ xs. stored (puts_in xs)) c.deref.ensures.value ∙ sym (ap call_puts_in c.in-Stored.is) ∙ c.requires.puts in
    let so = stored_so (flat_limit (way_of c.args.passed.now.way)) (layout_of c.args.passed.now.layout.now) (puts_in c.deref.result.now) is in
    let there = c.what_is_denoted_can_be_put.ensures.spilled (length c.args.memory.now) (length c.args.slots.now) c.args.from.now c.args.passed.now c.requires.denoted.0 c.requires.denoted.1 c.requires.denoted.2 c.are_bytes.ensures so.0 in
    spilled_lies (length c.args.memory.now) (length c.args.slots.now) c.args.from.now c.args.passed.now c.requires.denoted.0 c.requires.denoted.1 (puts_in c.deref.result.now) c.number_32-pointer.result there c.number_32-pointer.ensures so.1

pub put_all-requires-clause-ready : goal.put_all-requires-clause-ready
put_all-requires-clause-ready c =
    let is : stored (puts_in c.deref.result.now) ≡ call_puts_of (flat_limit (way_of c.args.passed.now.way)) (layout_of c.args.passed.now.layout.now) =
    ap (λ xs. stored (puts_in xs)) c.deref.ensures.value ∙ sym (ap call_puts_in c.in-Stored.is) ∙ c.requires.puts in
    let so = stored_so (flat_limit (way_of c.args.passed.now.way)) (layout_of c.args.passed.now.layout.now) (puts_in c.deref.result.now) is in
    let there = c.what_is_denoted_can_be_put.ensures.spilled (length c.args.memory.now) (length c.args.slots.now) c.args.from.now c.args.passed.now c.requires.denoted.0 c.requires.denoted.1 c.requires.denoted.2 c.are_bytes.ensures so.0 in
    spilled_ready (length c.args.memory.now) (length c.args.slots.now) c.args.from.now c.args.passed.now c.requires.denoted.0 c.requires.denoted.1 (puts_in c.deref.result.now) c.number_32-pointer.result there c.number_32-pointer.ensures so.1

pub put_flat_all-requires-clause-within : goal.put_flat_all-requires-clause-within
put_flat_all-requires-clause-within c =
    let is : flat (slots_in c.deref-in-Flat.result.now) ≡ call_puts_of (flat_limit (way_of c.args.passed.now.way)) (layout_of c.args.passed.now.layout.now) =
    ap (λ xs. flat (slots_in xs)) c.deref-in-Flat.ensures.value ∙ sym (ap call_puts_in c.in-Flat.is) ∙ c.requires.puts in
    let so = flat_so (flat_limit (way_of c.args.passed.now.way)) (layout_of c.args.passed.now.layout.now) (slots_in c.deref-in-Flat.result.now) is in
    let there = c.what_is_denoted_can_be_put.ensures.flat (length c.args.memory.now) (length c.args.slots.now) c.args.from.now c.args.passed.now c.requires.denoted.0 c.requires.denoted.1 c.requires.denoted.2 c.are_bytes.ensures so.0 in
    flat_lies (length c.args.memory.now) (length c.args.slots.now) c.args.from.now c.args.passed.now c.requires.denoted.0 c.requires.denoted.1 (slots_in c.deref-in-Flat.result.now) there so.1

pub put_flat_all-requires-clause-ready : goal.put_flat_all-requires-clause-ready
put_flat_all-requires-clause-ready c =
    let is : flat (slots_in c.deref-in-Flat.result.now) ≡ call_puts_of (flat_limit (way_of c.args.passed.now.way)) (layout_of c.args.passed.now.layout.now) =
    ap (λ xs. flat (slots_in xs)) c.deref-in-Flat.ensures.value ∙ sym (ap call_puts_in c.in-Flat.is) ∙ c.requires.puts in
    let so = flat_so (flat_limit (way_of c.args.passed.now.way)) (layout_of c.args.passed.now.layout.now) (slots_in c.deref-in-Flat.result.now) is in
    let there = c.what_is_denoted_can_be_put.ensures.flat (length c.args.memory.now) (length c.args.slots.now) c.args.from.now c.args.passed.now c.requires.denoted.0 c.requires.denoted.1 c.requires.denoted.2 c.are_bytes.ensures so.0 in
    flat_ready (length c.args.memory.now) (length c.args.slots.now) c.args.from.now c.args.passed.now c.requires.denoted.0 c.requires.denoted.1 (slots_in c.deref-in-Flat.result.now) there so.1

pub returns-in-Stored-clause-stored : goal.returns-in-Stored-clause-stored
returns-in-Stored-clause-stored c =
    let is : stored (puts_in c.deref.result.now) ≡ call_puts_of (flat_limit (way_of c.args.passed.now.way)) (layout_of c.args.passed.now.layout.now) =
    ap (λ xs. stored (puts_in xs)) c.deref.ensures.value ∙ sym (ap call_puts_in c.in-Stored.is) ∙ c.requires.puts in
    let so = stored_so (flat_limit (way_of c.args.passed.now.way)) (layout_of c.args.passed.now.layout.now) (puts_in c.deref.result.now) is in
    λ types v can.
    let there = c.what_is_denoted_can_be_put.ensures.spilled (length c.args.memory.now) (length c.args.slots.now) c.args.from.now c.args.passed.now types v can c.are_bytes.ensures so.0 in
    spilled_bytes (length c.args.memory.now) (length c.args.slots.now) c.args.from.now c.args.passed.now types v (puts_in c.deref.result.now) c.number_32-pointer.result there c.number_32-pointer.ensures so.1 c.put_all.new.next c.args.memory.now c.put_all.new.memory c.put_all.ensures

pub returns-in-Flat-clause-stored : goal.returns-in-Flat-clause-stored
returns-in-Flat-clause-stored c =
    let is : flat (slots_in c.deref-in-Flat.result.now) ≡ call_puts_of (flat_limit (way_of c.args.passed.now.way)) (layout_of c.args.passed.now.layout.now) =
    ap (λ xs. flat (slots_in xs)) c.deref-in-Flat.ensures.value ∙ sym (ap call_puts_in c.in-Flat.is) ∙ c.requires.puts in
    let so = flat_so (flat_limit (way_of c.args.passed.now.way)) (layout_of c.args.passed.now.layout.now) (slots_in c.deref-in-Flat.result.now) is in
    λ types v can.
    let there = c.what_is_denoted_can_be_put.ensures.flat (length c.args.memory.now) (length c.args.slots.now) c.args.from.now c.args.passed.now types v can c.are_bytes.ensures so.0 in
    flat_bytes (length c.args.memory.now) (length c.args.slots.now) c.args.from.now c.args.passed.now types v (slots_in c.deref-in-Flat.result.now) there so.1 c.put_flat_all.new.next c.args.slots.now c.put_flat_all.new.slots c.args.memory.now c.put_flat_all.new.memory c.put_flat_all.ensures

pub returns-in-Flat-clause-passed : goal.returns-in-Flat-clause-passed
returns-in-Flat-clause-passed c =
    let is : flat (slots_in c.deref-in-Flat.result.now) ≡ call_puts_of (flat_limit (way_of c.args.passed.now.way)) (layout_of c.args.passed.now.layout.now) =
    ap (λ xs. flat (slots_in xs)) c.deref-in-Flat.ensures.value ∙ sym (ap call_puts_in c.in-Flat.is) ∙ c.requires.puts in
    let so = flat_so (flat_limit (way_of c.args.passed.now.way)) (layout_of c.args.passed.now.layout.now) (slots_in c.deref-in-Flat.result.now) is in
    λ types v can.
    let there = c.what_is_denoted_can_be_put.ensures.flat (length c.args.memory.now) (length c.args.slots.now) c.args.from.now c.args.passed.now types v can c.are_bytes.ensures so.0 in
    flat_numbers (length c.args.memory.now) (length c.args.slots.now) c.args.from.now c.args.passed.now types v (slots_in c.deref-in-Flat.result.now) there so.1 c.put_flat_all.new.next c.args.slots.now c.put_flat_all.new.slots c.args.memory.now c.put_flat_all.new.memory c.put_flat_all.ensures
