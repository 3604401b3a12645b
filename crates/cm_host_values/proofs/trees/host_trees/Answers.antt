use Rattle.std.proofs.Common.{◌≡◌, ◌∙◌, map, ap, take}
use Rattle.std.proofs.lemmas.List.{take_all}
use Rattle.cm_types.specs.TypeTrees.{TypedLabel, field_of, parts_from}
use Rattle.cm_host_values.specs.Indexed.{indexed}
use Rattle.cm_host_values.proofs.IndexedLemmas.{rows_by}
use Rattle.cm_host_values.proofs.trees.host_trees.Goals as goal

pub returns : goal.returns
returns c =
    let row = c.args.row.now in
    let all : take c.loop-field.field-index row ≡ row = take_all c.loop-field.field-index row c.loop-field-test.false in
    ap parts_from (c.loop-field.invariant ∙ ap (λ xs. map (λ (f : TypedLabel). indexed f.1) (map field_of xs)) all) ∙ rows_by (map field_of row)
