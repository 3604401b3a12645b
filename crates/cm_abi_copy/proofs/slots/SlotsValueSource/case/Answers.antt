use Rattle.std.proofs.Common.{◌+◌, refl}
use Rattle.cm_types.specs.declared.limits.TheConstants.{MAX_FLAT_PARAMS}
use Rattle.cm_abi_model.specs.Numbers.{wrapped_at}
use Rattle.cm_abi_running.specs.Copying.{copying_of}
use Rattle.cm_abi_copy.proofs.FlatLemmas.{carried_ready, case_shown_told, cases_lie}
use Rattle.cm_abi_copy.proofs.slots.SlotsValueSource.case.Goals as goal

pub returns : goal.returns
returns c = λ n g e ps k h ready.
    let from = copying_of c.args.self.from.now in
    let slots = c.args.self.given.now in
    let at = c.args.self.at in
    let i = wrapped_at 4 slots at in
    rw c.number_32-index.ensures (
      case_shown_told _ _ from slots ps i i (at + 1) (λ sh. refl),
      carried_ready _ _ MAX_FLAT_PARAMS n from slots ps i (at + 1) k h (λ head sh lies one. (ready.0, lies, one)) (cases_lie MAX_FLAT_PARAMS at c.args.discriminant c.args.offset e ps ready.1) ready.2,
    )
