use Rattle.std.proofs.Common.{ap, cond, ◌∙◌, List, ℕ, Some}
use Rattle.std.proofs.lemmas.Map.Text.{btree_map_updates_text}
use Rattle.std.specs.BTreeMap.{get_by_text}
use Rattle.std.specs.Str.{bytes_eq}
use Rattle.std.specs.String.{string_bytes}
use Rattle.cm_validate_instances.proofs.resources.put.Goals as goal

pub returns : goal.returns
returns c = λ q.
    let e = c.in_ok-key.ensures.ok ∙ c.as_str.ensures.text in
    btree_map_updates_text (string_bytes c.in_ok-key.key) c.args.resources.now c.insert.new.self _ c.in_ok-insert.ensures.updates q
    ∙ ap (λ (t : List ℕ). cond (bytes_eq t q) (Some c.resource.result) (get_by_text c.args.resources.now q)) e
    ∙ ap (λ n. cond (bytes_eq c.args.item.now.name q) (Some n) (get_by_text c.args.resources.now q)) c.resource.ensures
