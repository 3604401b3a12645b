use Rattle.std.proofs.Common.{Err, inl, inr, ap, subst, ◌∙◌, ◌≡◌, arith, false, length, refl, true}
use Rattle.std.proofs.lemmas.List.{length-map}
use Rattle.std.proofs.lemmas.Result.{IfOk-weaker}
use Rattle.cm_layout.specs.Layouts.{layout_of}
use Rattle.cm_abi_model.specs.Answered.{Requesting, unanswered}
use Rattle.cm_abi_model.specs.HandleLeaves.{leaf_of}
use Rattle.cm_abi_model.specs.Views.{flat_limit}
use Rattle.cm_abi_model.specs.Ways.{way_of}
use Rattle.cm_abi_lift.specs.HandingOver.{hand_over, handed, untouched}
use Rattle.cm_abi_load.specs.Outcomes.{State, state_of}
use Rattle.cm_abi_copy.specs.Scans.{giver_of}
use Rattle.cm_abi_copy.proofs.ScanCallLemmas.{read_askable, read_counted, read_leaves, read_lifts, read_wanted, scan_stops, starts_fresh, was_read}
use Rattle.cm_abi_copy.proofs.HandedCounts.{all_handed}
use Rattle.cm_abi_copy.proofs.scanned.scan_values.Goals as goal

none_kept : {A : Type 0} → true ≡ false → A
none_kept e = absurd (cc)

pub ask-requires : goal.ask-requires
ask-requires c =
    let r = was_read c.args.memory.now c.args.table.now.handles c.args.encodings.source c.args.encodings.target (way_of c.args.passed.now.way) (layout_of c.args.passed.now.layout.now) c.args.passed.now.slots.now c.take_records-records.result.items c.scan_passed.new.records.items _ (state_of c.scan_passed.new.progress) c.take_records-records.ensures.none (starts_fresh c.clear-2.new.self.items c.clear-3.new.self.items c.clear-2.ensures.items c.clear-3.ensures.items) c.in-Ok.ensures.reads in
    record {
      askable = read_askable c.args.memory.now c.args.table.now.handles c.args.encodings.source c.args.encodings.target (way_of c.args.passed.now.way) (layout_of c.args.passed.now.layout.now) c.requires.layout.0 c.args.passed.now.slots.now c.scan_passed.new.records.items (state_of c.scan_passed.new.progress) c.requires.layout.1 r
          c.what_is_passed_is_met.ensures.denoted c.what_is_passed_is_met.ensures.met c.records_tell_what_is_passed.ensures.tells c.content_of_what_is_denoted.ensures.tagged c.small_parts_can_be_asked_for.ensures c.size_fits.ensures;
    }

pub keep_handles-requires : goal.keep_handles-requires
keep_handles-requires c =
    let r = was_read c.args.memory.now c.args.table.now.handles c.args.encodings.source c.args.encodings.target (way_of c.args.passed.now.way) (layout_of c.args.passed.now.layout.now) c.args.passed.now.slots.now c.take_records-records.result.items c.scan_passed.new.records.items _ (state_of c.scan_passed.new.progress) c.take_records-records.ensures.none (starts_fresh c.clear-2.new.self.items c.clear-3.new.self.items c.clear-2.ensures.items c.clear-3.ensures.items) c.in-Ok.ensures.reads in
    record {
      wanted = read_wanted c.args.memory.now c.args.table.now.handles c.args.encodings.source c.args.encodings.target (way_of c.args.passed.now.way) (layout_of c.args.passed.now.layout.now) c.requires.layout.0 c.args.passed.now.slots.now c.scan_passed.new.records.items (state_of c.scan_passed.new.progress) c.requires.layout.1 r
          c.what_is_passed_is_met.ensures.met c.handles_that_are_met_are_the_values.ensures.wanted c.deref.result.now c.deref.ensures.value;
    }

pub returns-in-Ok-clause-ok : goal.returns-in-Ok-clause-ok
returns-in-Ok-clause-ok c =
    let r = was_read c.args.memory.now c.args.table.now.handles c.args.encodings.source c.args.encodings.target (way_of c.args.passed.now.way) (layout_of c.args.passed.now.layout.now) c.args.passed.now.slots.now c.take_records-records.result.items c.scan_passed.new.records.items _ (state_of c.scan_passed.new.progress) c.take_records-records.ensures.none (starts_fresh c.clear-2.new.self.items c.clear-3.new.self.items c.clear-2.ensures.items c.clear-3.ensures.items) c.in-Ok.ensures.reads in
    IfOk-weaker c.hand_over-handed.result _ _ (λ _ e. (
      r.v,
      (state_of c.scan_passed.new.progress).tags,
      read_lifts c.args.memory.now c.args.table.now.handles c.args.encodings.source c.args.encodings.target (way_of c.args.passed.now.way) (layout_of c.args.passed.now.layout.now) c.args.passed.now.slots.now c.scan_passed.new.records.items (state_of c.scan_passed.new.progress) r c.deref-in-Ok.result.now _ c.deref-in-Ok.ensures.value e,
      record {
        parts = c.in-Ok-ask.ensures.asked ∙ ap (λ rs. unanswered rs c.args.encodings.source c.args.encodings.target) r.records;
        handles = λ types same.
            read_leaves c.args.memory.now c.args.table.now.handles c.args.encodings.source c.args.encodings.target (way_of c.args.passed.now.way) (layout_of c.args.passed.now.layout.now) types c.args.passed.now.slots.now c.scan_passed.new.records.items (state_of c.scan_passed.new.progress) same r
            c.what_is_passed_is_met.ensures.denoted c.what_is_passed_is_met.ensures.met c.handles_that_are_met_are_the_values.ensures.found c.deref.result.now _ c.deref.ensures.value c.in_ok-keep_handles-in-Ok.ensures.leaves;
        after = (state_of c.scan_passed.new.progress);
        read = r.read;
        content = read_counted c.args.memory.now c.args.table.now.handles c.args.encodings.source c.args.encodings.target (way_of c.args.passed.now.way) (layout_of c.args.passed.now.layout.now) c.requires.layout.0 c.args.passed.now.slots.now c.scan_passed.new.records.items (state_of c.scan_passed.new.progress) c.requires.layout.1 r c.what_is_passed_is_met.ensures.met;
        not_given = c.clear.ensures.items;
      },
    )) c.hand_over-handed.ensures.ok

pub returns-in-Ok-clause-rest : goal.returns-in-Ok-clause-rest
returns-in-Ok-clause-rest c =
    IfOk-weaker c.hand_over-handed.result _ _ (λ _ e. record {
      met = c.clear-in-Ok.ensures.items;
      tags = c.clear-in-Ok-2.ensures.items;
      order = record {
        places = omega (arith, ap (λ (p : Requesting). length p.places) c.in-Ok-ask.ensures.asked);
        handed = omega (
          arith,
          all_handed (untouched c.args.table.now.handles) _ c.deref-in-Ok.result.now e refl,
          c.in_ok-keep_handles-in-Ok.ensures.count,
          ap length c.deref.ensures.value,
          ap length c.deref-in-Ok.ensures.value,
          length-map c.keep_handles.new.handles.items leaf_of,
        );
        numbers = omega (arith, ap length c.clear.ensures.items);
        empty = none_kept;
      };
    }) c.hand_over-handed.ensures.ok

pub returns-clause-err : goal.returns-clause-err
returns-clause-err c = elim c.first_fault.ensures.first [
  | inl memory ↦ inl memory
  | inr first ↦ inr (scan_stops (giver_of c.args.memory.now c.args.table.now.handles c.args.encodings.source) c.args.encodings.target c.args.table.now.handles (flat_limit (way_of c.args.passed.now.way)) (layout_of c.args.passed.now.layout.now) c.args.passed.now.slots.now
      c.take_records-records.result.items _ (state_of c.scan_passed.new.progress) c.deref-in-Err-Fault.result.now c.in-Err-Fault.field-0 c.in-Err-Fault.fault c.first_fault.result (starts_fresh c.clear-2.new.self.items c.clear-3.new.self.items c.clear-2.ensures.items c.clear-3.ensures.items) c.in-Err-Fault.field-0-is c.in-Err-Fault.ensures.reads c.deref-in-Err-Fault.ensures.value
      (subst (λ f. (s : State) → handed (Err (f, s)) (hand_over (untouched c.args.table.now.handles) c.deref-in-Err-Fault.result.now) ≡ Err c.first_fault.result) c.in-Err-Fault.fault-is first))
]
