use Rattle.std.proofs.Common.{◌≡◌, ◌∙◌, ap}
use Rattle.cm_layout.specs.Layouts.{layout_of}
use Rattle.cm_abi_model.specs.Views.{flat_limit}
use Rattle.cm_abi_model.specs.Ways.{way_of}
use Rattle.cm_abi_load.specs.Outcomes.{mapped, state_of}
use Rattle.cm_abi_load.specs.Reading.{source_of}
use Rattle.cm_abi_lift.specs.FlatReading.{read_passed}
use Rattle.cm_abi_lift.specs.FlatRecords.{passed_records}
use Rattle.cm_abi_programs.specs.Coded.{checks_in}
use Rattle.cm_abi_running.specs.Checking.{passed_checked}
use Rattle.cm_abi_copy.proofs.ProgramLemmas.{looks_keep, looks_scan}
use Rattle.cm_abi_copy.proofs.passed.scan_by_checks.Goals as goal

pub returns-clause-reads : goal.returns-clause-reads
returns-clause-reads c =
    let is : passed_checked (source_of c.args.reader.now.giver) c.args.reader.now.maker.target (flat_limit (way_of c.args.passed.now.way)) (layout_of c.args.passed.now.layout.now).head (checks_in c.args.checks.now) c.args.passed.now.slots.now (state_of c.args.progress.now) ≡ mapped (passed_records (source_of c.args.reader.now.giver) c.args.reader.now.maker.target (flat_limit (way_of c.args.passed.now.way)) (layout_of c.args.passed.now.layout.now) c.args.passed.now.slots.now) (read_passed (source_of c.args.reader.now.giver) (flat_limit (way_of c.args.passed.now.way)) (layout_of c.args.passed.now.layout.now) c.args.passed.now.slots.now (state_of c.args.progress.now)) =
    ap (λ cs. passed_checked (source_of c.args.reader.now.giver) c.args.reader.now.maker.target (flat_limit (way_of c.args.passed.now.way)) (layout_of c.args.passed.now.layout.now).head cs c.args.passed.now.slots.now (state_of c.args.progress.now)) c.requires.checks ∙ c.running_checks_is_lifting_flat.ensures.call (source_of c.args.reader.now.giver) c.args.reader.now.maker.target (flat_limit (way_of c.args.passed.now.way)) (layout_of c.args.passed.now.layout.now) c.args.passed.now.slots.now (state_of c.args.progress.now) in
    looks_scan (passed_records (source_of c.args.reader.now.giver) c.args.reader.now.maker.target (flat_limit (way_of c.args.passed.now.way)) (layout_of c.args.passed.now.layout.now) c.args.passed.now.slots.now) (read_passed (source_of c.args.reader.now.giver) (flat_limit (way_of c.args.passed.now.way)) (layout_of c.args.passed.now.layout.now) c.args.passed.now.slots.now) (passed_checked (source_of c.args.reader.now.giver) c.args.reader.now.maker.target (flat_limit (way_of c.args.passed.now.way)) (layout_of c.args.passed.now.layout.now).head (checks_in c.args.checks.now) c.args.passed.now.slots.now (state_of c.args.progress.now)) c.args.records.now.items c.look_at_passed.new.records.items (state_of c.args.progress.now) (state_of c.look_at_passed.new.progress) is c.look_at_passed.result c.look_at_passed.ensures

pub returns-clause-keeps : goal.returns-clause-keeps
returns-clause-keeps c =
    let is : passed_checked (source_of c.args.reader.now.giver) c.args.reader.now.maker.target (flat_limit (way_of c.args.passed.now.way)) (layout_of c.args.passed.now.layout.now).head (checks_in c.args.checks.now) c.args.passed.now.slots.now (state_of c.args.progress.now) ≡ mapped (passed_records (source_of c.args.reader.now.giver) c.args.reader.now.maker.target (flat_limit (way_of c.args.passed.now.way)) (layout_of c.args.passed.now.layout.now) c.args.passed.now.slots.now) (read_passed (source_of c.args.reader.now.giver) (flat_limit (way_of c.args.passed.now.way)) (layout_of c.args.passed.now.layout.now) c.args.passed.now.slots.now (state_of c.args.progress.now)) =
    ap (λ cs. passed_checked (source_of c.args.reader.now.giver) c.args.reader.now.maker.target (flat_limit (way_of c.args.passed.now.way)) (layout_of c.args.passed.now.layout.now).head cs c.args.passed.now.slots.now (state_of c.args.progress.now)) c.requires.checks ∙ c.running_checks_is_lifting_flat.ensures.call (source_of c.args.reader.now.giver) c.args.reader.now.maker.target (flat_limit (way_of c.args.passed.now.way)) (layout_of c.args.passed.now.layout.now) c.args.passed.now.slots.now (state_of c.args.progress.now) in
    looks_keep (passed_records (source_of c.args.reader.now.giver) c.args.reader.now.maker.target (flat_limit (way_of c.args.passed.now.way)) (layout_of c.args.passed.now.layout.now) c.args.passed.now.slots.now) (read_passed (source_of c.args.reader.now.giver) (flat_limit (way_of c.args.passed.now.way)) (layout_of c.args.passed.now.layout.now) c.args.passed.now.slots.now) (passed_checked (source_of c.args.reader.now.giver) c.args.reader.now.maker.target (flat_limit (way_of c.args.passed.now.way)) (layout_of c.args.passed.now.layout.now).head (checks_in c.args.checks.now) c.args.passed.now.slots.now (state_of c.args.progress.now)) c.args.records.now.items c.look_at_passed.new.records.items (state_of c.args.progress.now) (state_of c.look_at_passed.new.progress) is c.look_at_passed.result c.look_at_passed.ensures
