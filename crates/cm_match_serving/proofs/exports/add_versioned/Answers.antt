use Rattle.std.proofs.Common.{◌≡◌, cond, Some, None, rules, sym, ap, ◌∙◌}
use Rattle.std.specs.BTreeMap.{get, is_at}
use Rattle.semver.specs.Identifiers.{parts_of}
use Rattle.cm_match_model.specs.declared.candidates.Candidate.TheVariants as candidate
use Rattle.cm_match_serving.specs.Greatest.{from_row, if_not_below}
use Rattle.cm_match_model.specs.Fitting.{and_also}
use Rattle.cm_match_serving.specs.Readings.{is_below, name_read, row_of, series_order, version_or_zero}
use Rattle.cm_match_serving.proofs.Additions.{answers_more}
use Rattle.cm_match_serving.proofs.UnversionedLaws.{versioned_row}
use Rattle.cm_match_serving.proofs.exports.add_versioned.Goals as goal

pub returns-in-Some-clause-ok : goal.returns-in-Some-clause-ok
returns-in-Some-clause-ok c = λ es e read row component number answers.
    let key = c.args.series in
    let v = parts_of c.args.version in
    let found : get series_order c.args.rows.now key ≡ Some c.in-Some.greatest.now = search rules in
    answers_more c.args.rows.now (c.get_mut.follows.lender c.add.new.self) key c.add.new.self v es e ((c.get_mut.follows.holds c.add.new.self).3 (search rules)).0
    row
    (ap version_or_zero (sym read))
    (λ w. c.add.ensures w ∙ ap (λ o. and_also (from_row o w) (if_not_below (is_below v w) (candidate.One c.args.component c.args.export))) (sym found)
    ∙ ap (λ k. and_also (from_row (get series_order c.args.rows.now key) w) (if_not_below (is_below v w) (candidate.One k c.args.export))) (sym component)
    ∙ ap (λ k. and_also (from_row (get series_order c.args.rows.now key) w) (if_not_below (is_below v w) (candidate.One e.component k))) (sym number))
    (versioned_row key (name_read e.name).0 v (row ∙ ap (row_of (name_read e.name).0) read)) answers

pub returns-in_ok-insert-clause-ok : goal.returns-in_ok-insert-clause-ok
returns-in_ok-insert-clause-ok c = λ es e read row component number answers.
    let key = c.args.series in
    let v = parts_of c.args.version in
    let none : get series_order c.args.rows.now key ≡ None = search rules in
    answers_more c.args.rows.now c.insert.new.self key c.new-greatest.result v es e (λ q. c.in_ok-insert.ensures.updates.0 q ∙ ap (λ m. cond (is_at (series_order key) q) (Some c.new-greatest.result) (get series_order m q)) c.get_mut.follows.holds-at-none)
    row
    (ap version_or_zero (sym read))
    (λ w. c.new-greatest.ensures w ∙ ap (λ o. and_also (from_row o w) (if_not_below (is_below v w) (candidate.One c.args.component c.args.export))) (sym none)
    ∙ ap (λ k. and_also (from_row (get series_order c.args.rows.now key) w) (if_not_below (is_below v w) (candidate.One k c.args.export))) (sym component)
    ∙ ap (λ k. and_also (from_row (get series_order c.args.rows.now key) w) (if_not_below (is_below v w) (candidate.One e.component k))) (sym number))
    (versioned_row key (name_read e.name).0 v (row ∙ ap (row_of (name_read e.name).0) read)) answers
