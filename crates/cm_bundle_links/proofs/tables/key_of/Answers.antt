use Rattle.std.proofs.Common.{◌∙◌, ℕ, List, ap}
use Rattle.cm_names.specs.Keys.{Key}
use Rattle.cm_bundle_links.specs.Tables.{sort_number}
use Rattle.cm_bundle_links.proofs.tables.key_of.Goals as goal

abbrev key : ℕ → List ℕ → Key
key n t = (n, t)

pub returns : goal.returns
returns c types funcs =
    let number = c.sort_number.ensures ∙ ap sort_number (c.export_sort.ensures types funcs) in
    ap (λ n. key n c.as_str.result.now) number ∙ ap (key _) c.as_str.ensures.text
