use Rattle.std.proofs.Common.{◌+◌, refl, length}
use Rattle.cm_abi_model.specs.Numbers.{number_at}
use Rattle.cm_abi_running.specs.Copying.{copying_of, given_for}
use Rattle.cm_abi_copy.proofs.CopyLemmas.{carried_ready, case_shown_told, cases_lie}
use Rattle.cm_abi_copy.proofs.place.PlaceValueSource.case.Goals as goal

pub returns : goal.returns
returns c = λ n g e ps k h ready.
    let m = c.args.self.from.now.memory.now in
    let p = c.args.self.at in
    let d = c.args.discriminant in
    let o = c.args.offset in
    let i = number_at d m p in
    rw (c.number_at-index.ensures.value, c.behind.ensures) (
      case_shown_told _ _ m c.args.self.from.now.encoding ps i i (p + o) (λ sh. refl),
      carried_ready _ _ (length m) n (given_for (copying_of c.args.self.from.now) g) ps i (p + o) k h (λ head sh lies one. (lies, one)) (cases_lie (length m) p d o e ps ready.0) ready.1,
    )
