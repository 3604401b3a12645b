use Rattle.std.proofs.Common.{rules, ◌≡◌, cond, ◌∙◌, ap, Some, None}
use Rattle.std.proofs.lemmas.Result.{on_ok_weaker}
use Rattle.std.specs.BTreeMap.{get_by}
use Rattle.std.specs.Ordering.{is_eq, nat_cmp}
use Rattle.cm_names.proofs.KeyLaws.{first_noted, none_held, notes_under, some_held}
use Rattle.cm_names.proofs.key_tables.note.Goals as goal

pub returns : goal.returns
returns c =
    let old = c.args.table.now in
    let key = c.args.key in
    let none = c.new-names.result in
    let more = c.insert.new.self in
    let absent : get_by (nat_cmp key.0) old ≡ None = search rules in
    notes_under c.args.place old c.insert-2.new.self none more key (none_held old key none c.new-names.ensures.empty absent)
    (λ q. c.in_ok-insert-2.ensures.updates.0 q ∙ ap (λ t. cond (is_eq (nat_cmp key.0 q)) (Some more) (get_by (nat_cmp q) t)) c.get_mut.follows.holds-at-none)
    (first_noted key.1.now c.args.place none more c.new-names.ensures.empty c.in_ok-insert.ensures.updates)

pub returns-in-Some : goal.returns-in-Some
returns-in-Some c =
    let old = c.args.table.now in
    let key = c.args.key in
    let names = c.in-Some.names.now in
    let more = c.note_name.new.names in
    let found : get_by (nat_cmp key.0) old ≡ Some names = search rules in
    on_ok_weaker c.note_name.result
    (notes_under c.args.place old (c.get_mut.follows.lender more) names more key (some_held old key names found) ((c.get_mut.follows.holds more).3 (search rules)).0)
    c.note_name.ensures
