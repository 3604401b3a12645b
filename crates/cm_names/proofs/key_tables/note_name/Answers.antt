use Rattle.std.proofs.Common.{rules, ◌≡◌, ◌∙◌, sym, ap, Some, None, unwrap_or}
use Rattle.std.proofs.lemmas.Map.Text.{btree_map_updates_str}
use Rattle.cm_names.specs.KeyTables.{under}
use Rattle.cm_names.proofs.KeyLaws.{name_noted}
use Rattle.cm_names.proofs.key_tables.note_name.Goals as goal

pub returns-in_ok-insert : goal.returns-in_ok-insert
returns-in_ok-insert c = λ m.
    let old = c.args.names.now in
    let name = c.args.name.now in
    let absent : under name old ≡ None = search rules in
    btree_map_updates_str name old c.insert.new.self (Some c.args.place) c.in_ok-insert.ensures.updates m
    ∙ name_noted name m old c.args.place c.args.place (sym (ap (λ o. unwrap_or o c.args.place) absent))
