use Rattle.std.proofs.Common.{ℕ, true, ap, ◌∙◌, List, cond}
use Rattle.std.proofs.lemmas.Map.Text.{btree_set_updates_text}
use Rattle.std.specs.BTreeSet.{contains_text}
use Rattle.std.specs.Str.{bytes_eq}
use Rattle.std.specs.String.{string_bytes}
use Rattle.cm_validate_core.proofs.labels.add_name.Goals as goal

pub returns-clause-adds : goal.returns-clause-adds
returns-clause-adds c = λ q.
    let e = c.in_ok-key.ensures in
    btree_set_updates_text (string_bytes c.in_ok-key.key) c.args.seen.now c.insert.new.self true c.in_ok-insert.ensures.updates q
    ∙ ap (λ (t : List ℕ). cond (bytes_eq t q) true (contains_text c.args.seen.now q)) e
