use Rattle.std.proofs.Common.{◌≡◌, ◌+◌, ◌*◌, ◌++◌, ◌∷◌, [], ◌≤◌, length}
use Rattle.std.proofs.lemmas.Result.{err_from_is_err_and}
use Rattle.cm_abi_load.specs.Outcomes.{Stops, state_of}
use Rattle.cm_abi_load.specs.Reading.{region, source_of}
use Rattle.cm_abi_load.specs.Records.{element_record}
use Rattle.cm_abi_running.proofs.LookLemmas.{all_inside, list_kept}
use Rattle.cm_abi_running.proofs.looking.keep_list.Goals as goal

pub returns-in_err-check_region-clause-keeps : goal.returns-in_err-check_region-clause-keeps
returns-in_err-check_region-clause-keeps c =
    let p = err_from_is_err_and c.from_residual.result c.from_residual.ensures.1 in
    let stops : Stops c.in_err-check_region.field-0.0 (state_of c.check_region.new.progress) (region c.args.reader.now.giver.memory.now c.args.element.align c.args.pointer (c.args.count * c.args.element.size) (state_of c.args.progress.now)) =
    rw (c.from.ensures, c.from-2.ensures) at c.in_err-check_region.ensures.reads in
    rw (p.1, p.2) stops

pub returns-clause-keeps : goal.returns-clause-keeps
returns-clause-keeps c =
    list_kept (source_of c.args.reader.now.giver) c.args.element c.args.pointer c.args.count c.args.records.now.items c.keep.new.kept.items (state_of c.args.progress.now) (state_of c.check_region.new.progress) c.keep.result
    (rw (c.from.ensures, c.from-2.ensures) at c.in_ok-check_region.ensures.reads) (rw (c.from.ensures, c.from-2.ensures) at c.keep.ensures.ok) c.keep.ensures.err

pub returns-clause-inside : goal.returns-clause-inside
returns-clause-inside c = all_inside c.keep.result _ (rw (c.from.ensures, c.from-2.ensures) at c.in_ok-check_region.ensures.inside)
