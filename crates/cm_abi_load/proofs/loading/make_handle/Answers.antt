use Rattle.std.proofs.Common.{[]}
use Rattle.std.proofs.lemmas.Result.{err_from_is_err_and}
use Rattle.cm_abi_load.specs.Outcomes.{state_of}
use Rattle.cm_abi_load.specs.Reading.{read_handle}
use Rattle.cm_abi_load.proofs.CaseLemmas.{handle_more}
use Rattle.cm_abi_load.proofs.MakingLemmas.{stops_wanted}
use Rattle.cm_abi_load.proofs.loading.make_handle.Goals as goal

pub returns-in_err-value : goal.returns-in_err-value
returns-in_err-value g c = λ kept.
    let p = err_from_is_err_and c.from_residual.result c.from_residual.ensures.1 in
    rw (p.1, p.2) (stops_wanted g.M.Maker.allocates (λ v. []) (read_handle c.args.table.now.handles c.args.wanted c.args.index (state_of c.args.progress.now)) (state_of c.args.progress.now) (state_of c.load_handle.new.progress) c.in_err-value.field-0.0 c.in_err-value.ensures
    (handle_more c.args.table.now.handles c.args.wanted c.args.index (state_of c.args.progress.now)))
