use Rattle.std.proofs.Common.{◌∙◌, inl, inr, ap, sym, subst, length}
use Rattle.cm_abi_model.specs.Lifts.{IsGivenBy}
use Rattle.cm_abi_model.specs.Scanned.{ScansCall}
use Rattle.cm_abi_model.specs.Views.{flat_limit}
use Rattle.cm_abi_model.specs.Ways.{way_of}
use Rattle.cm_abi_programs.specs.Checks.{passed_checks_of}
use Rattle.cm_machine_model.specs.Plan.{receiver_side, types_of}
use Rattle.cm_machine_model.specs.Step.{trap_of}
use Rattle.cm_machine_calls.proofs.Counts.{lent_is_some, nothing_is_none}
use Rattle.cm_machine_calls.proofs.lift.scan_flat_values.Goals as goal

pub scan_by-requires-clause-layout : goal.scan_by-requires-clause-layout
scan_by-requires-clause-layout c = (types_of c.requires.link.0 (way_of c.args.way), c.layout_of-layout.ensures c.requires.link.0 c.requires.link.1)

pub scan_by-requires-clause-checks : goal.scan_by-requires-clause-checks
scan_by-requires-clause-checks c =
    let way = way_of c.args.way in
    c.checks_of-checks.ensures c.requires.link.0 c.requires.link.1 ∙ ap (passed_checks_of (flat_limit way)) (sym (c.layout_of-layout.ensures c.requires.link.0 c.requires.link.1))

pub returns-in-Ok-clause-looks : goal.returns-in-Ok-clause-looks
returns-in-Ok-clause-looks c = λ l w is given.
    let way = way_of c.args.way in
    let seen : IsGivenBy w c.args.memory.now c.args.table.now.handles c.encodings_of-encodings.result.source =
    record { memory_is = given.memory_is; table_is = given.table_is; encoding_is = given.encoding_is ∙ sym (c.encodings_of-encodings.ensures.source l is) } in
    let found = c.in-Ok.ensures.scans w (types_of l way) seen (c.layout_of-layout.ensures l is) in
    let scans : ScansCall w (receiver_side l way).encoding way (types_of l way) c.args.slots.now found.0 c.scan_by.new.table.handles c.scan_by.new.kept =
    subst (λ e. ScansCall w e way (types_of l way) c.args.slots.now found.0 c.scan_by.new.table.handles c.scan_by.new.kept) (c.encodings_of-encodings.ensures.target l is) found.1 in
    record {
      v = found.0;
      scans = scans;
      asks = c.one_copied_call.ensures.asked w (receiver_side l way).encoding way (types_of l way) c.args.slots.now found.0 c.scan_by.new.table.handles c.scan_by.new.kept scans;
      sound = c.in-Ok.ensures.sound;
      some = lent_is_some way (types_of l way) found.0 (length c.scan_by.new.kept.owns) (length c.scan_by.new.kept.lends)
          (c.one_copied_call.ensures.shared w (receiver_side l way).encoding way (types_of l way) c.args.slots.now found.0 c.scan_by.new.table.handles c.scan_by.new.kept
          (λ i. rw given.memory_is (c.are_bytes.ensures i)) scans);
    }

pub returns-in-Err-clause-looks : goal.returns-in-Err-clause-looks
returns-in-Err-clause-looks c = λ l w is given.
    let way = way_of c.args.way in
    let layout = (c.layout_of-layout.ensures l is) in
    let seen : IsGivenBy w c.args.memory.now c.args.table.now.handles c.encodings_of-encodings.result.source =
    record { memory_is = given.memory_is; table_is = given.table_is; encoding_is = given.encoding_is ∙ sym (c.encodings_of-encodings.ensures.source l is) } in
    let fault = c.in-Err.ensures.scans w (types_of l way) seen layout in
    elim fault.first [
      | inl memory ↦ inr (
        (λ v denotes none.
            let nothing = nothing_is_none way (types_of l way) v none in
            fault.something v denotes nothing.0 nothing.1),
        c.trap_of.ensures ∙ ap trap_of memory,
      )
      | inr stops ↦ inl (c.in-Err.fault, stops, c.trap_of.ensures)
    ]
