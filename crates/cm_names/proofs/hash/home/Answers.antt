use Rattle.std.proofs.Common.{◌/◌, ◌%◌, max, ap, ◌∙◌}
use Rattle.cm_names.specs.Hash.{hash_of, home_of}
use Rattle.cm_names.proofs.hash.home.Goals as goal

pub returns-clause-home : goal.returns-clause-home
unfolding home_of
returns-clause-home c =
    ap (λ h. (h / 4294967296) % c.max-span.result) c.hash.ensures
    ∙ ap (λ s. (hash_of c.args.text.now / 4294967296) % s) (c.max-span.ensures ∙ ap (λ m. max m 1) c.saturating_sub.ensures)
