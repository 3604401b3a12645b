use Rattle.std.proofs.Common.{◌+◌, ◌-◌, ◌∙◌, ap, arith, drop, take}
use Rattle.cm_abi_model.specs.Stores.{placed, poke}
use Rattle.cm_abi_running.proofs.PuttingLemmas.{copied_slice}
use Rattle.cm_abi_running.proofs.putting.copy_run.Goals as goal

pub returns-clause-stored : goal.returns-clause-stored
returns-clause-stored c =
    c.write_bytes.ensures.stored
    ∙ ap (λ n. poke (placed c.args.at (take n (drop c.args.from c.args.source.now))) c.args.memory.now) {x = c.args.from + c.args.size - c.args.from} {y = c.args.size} (omega arith)
    ∙ ap (λ bs. poke bs c.args.memory.now) (copied_slice c.args.source.now c.args.size c.args.from c.args.at c.requires.within)
