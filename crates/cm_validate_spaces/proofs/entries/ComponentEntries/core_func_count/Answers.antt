use Rattle.std.proofs.Common.{rules, ◌≡◌, ◌∙◌, length}
use Rattle.cm_validate_spaces.proofs.MadeLaws.{func_count}
use Rattle.cm_validate_spaces.proofs.entries.ComponentEntries.core_func_count.Goals as goal

pub returns : goal.returns
returns c = λ s are.
    let n : c.len.result ≡ length c.args.self.now.core_funcs.items = search rules in
    n ∙ func_count c.args.self.now s are
