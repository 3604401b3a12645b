use Rattle.std.proofs.Common.{ap, cond, ◌∙◌, List, ℕ, Some}
use Rattle.std.proofs.lemmas.Map.Text.{btree_map_updates_text}
use Rattle.std.specs.BTreeMap.{get_by_text}
use Rattle.std.specs.Str.{bytes_eq}
use Rattle.std.specs.String.{string_bytes}
use Rattle.cm_names.proofs.texts.put_aside.Goals as goal

pub returns-clause-put : goal.returns-clause-put
returns-clause-put c = λ t.
    btree_map_updates_text (string_bytes c.in_ok-copy.copy) c.args.rest.now c.insert.new.self _ c.in_ok-insert.ensures.updates t
    ∙ ap (λ (b : List ℕ). cond (bytes_eq b t) (Some c.args.number) (get_by_text c.args.rest.now t)) c.in_ok-copy.ensures.ok
