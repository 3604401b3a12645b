use Rattle.std.proofs.Common.{◌≡◌, false, true, inl, inr}
use Rattle.cm_layout.specs.Layouts.{layout_of}
use Rattle.cm_abi_model.specs.Ways.{way_of}
use Rattle.cm_layout.specs.Shapes.{layout_of_fields_at}
use Rattle.cm_abi_copy.proofs.ScanCallLemmas.{nothing_given, scans_given, stops_given}
use Rattle.cm_abi_copy.proofs.scanned.scan_either.Goals as goal
use Rattle.cm_abi_lift.proofs.PassedLaws.{only_given}

never : {A : Type 0} → false ≡ true → A
never is = absurd (cc)

pub returns-in-Ok-clause-scans : goal.returns-in-Ok-clause-scans
returns-in-Ok-clause-scans c = λ w types is same.
    let e = c.in-Ok.ensures.ok in
    (e.0, scans_given c.lifting_is_exact.ensures.lifts c.what_is_passed_is_met.ensures.met c.records_tell_what_is_passed.ensures.tells c.records_tell_what_is_passed.ensures.tags w c.args.encodings.target c.args.memory.now c.args.table.now.handles _ c.args.encodings.source (way_of c.args.passed.now.way) (layout_of c.args.passed.now.layout.now) types c.args.passed.now.slots.now e.0 e.1 _ is same e.2 e.3)

pub returns-in-Ok-clause-walked : goal.returns-in-Ok-clause-walked
returns-in-Ok-clause-walked c = let e = c.in-Ok.ensures.ok in (e.0, e.3)

pub returns-in-Err-clause-scans : goal.returns-in-Err-clause-scans
returns-in-Err-clause-scans c = λ w types is same.
    record {
      first = elim c.in-Err.ensures.err [
        | inl memory ↦ inl memory
        | inr failed ↦ inr (stops_given c.first_faults_are_told.ensures.told w c.args.memory.now c.args.table.now.handles c.args.encodings.source (way_of c.args.passed.now.way) (layout_of c.args.passed.now.layout.now) types c.args.passed.now.slots.now c.in-Err.fault is same failed)
      ];
      something = λ v denoted parts leaves.
          let way = way_of c.args.passed.now.way in
          let goes = c.nothing_is_met_without_parts.ensures.goes w way types c.args.passed.now.slots.now v parts leaves in
          let kept = c.what_has_nothing_keeps_nothing.ensures w c.args.encodings.target way types c.args.passed.now.slots.now v denoted goes parts leaves in
          never (c.in-Err.ensures.nothing (nothing_given w c.args.encodings.target c.args.memory.now c.args.table.now.handles c.args.encodings.source way (layout_of c.args.passed.now.layout.now) (layout_of_fields_at types) c.args.passed.now.slots.now is same kept));
      memory = λ v denoted can. elim c.in-Err.ensures.err [
        | inl memory ↦ memory
        | inr failed ↦ absurd (only_given c.lifting_is_exact.ensures.only w c.args.memory.now c.args.table.now.handles c.args.encodings.source (way_of c.args.passed.now.way) (layout_of c.args.passed.now.layout.now) types c.args.passed.now.slots.now v c.in-Err.fault is same denoted can failed)
      ];
    }
