use Rattle.std.proofs.Common.{◌≡◌, ◌∙◌, ◌≤◌, ◌++◌, ◌∷◌, [], Some, if◌then◌else◌, map, take, sym, ap, subst, add-one, slice_get}
use Rattle.std.specs.Option.{option_map}
use Rattle.cm_match_serving.specs.ExportTables.{HasExports}
use Rattle.cm_validate_spaces.specs.Checked.{funcs_in, spaces_in, types_in}
use Rattle.cm_match_model.specs.Sights.{begins_at, group_of, seen_before}
use Rattle.cm_match_serving.specs.Candidates.{candidates_from, candidates_in, each_from, seen_exports}
use Rattle.cm_match_serving.specs.Sets.{set_by, spaces_of_all}
use Rattle.cm_match_serving.proofs.Rows.{all_rows, each_next, mapped_last, read_at, set_at}
use Rattle.cm_match_serving.proofs.Seeing.{before_low, group_before, group_next}
use Rattle.cm_match_serving.proofs.import_candidates.candidates_of.Goals as goal

pub see_group-requires-clause-ordered : goal.see_group-requires-clause-ordered
see_group-requires-clause-ordered c =
    let places = c.args.choices.now.places.items in
    subst (λ n. n ≤ c.loop-at.at) (sym c.loop-at.invariant.0) (before_low places c.loop-at.at)

pub loop-at-preserved : goal.loop-at-preserved
loop-at-preserved c =
    let cs = c.args.components.now in
    let choices = c.args.choices.now in
    let places = choices.places.items in
    let set = set_by cs choices in
    let x = c.index-components-at.result in
    let s = spaces_in x in
    let n = c.loop-at.at in
    let inv = c.loop-at.invariant in
    let there : slice_get (spaces_of_all cs) n ≡ Some s = set_at cs n ∙ ap (option_map spaces_in) (read_at cs n x c.loop-at-test.true c.index-components-at.is) in
    let group : c.in_ok-group.group ≡ group_of places n =
    c.in_ok-group.ensures.group ∙ ap (λ m. if begins_at places n then n else m) inv.0 ∙ group_next places n in
    let has = c.in_ok-group.ensures.seen inv.1 in
    let seen : HasExports c.see_group.new.exports (seen_exports cs choices n) =
    subst (λ m. HasExports c.see_group.new.exports (seen_before (spaces_of_all cs) places m)) group has in
    let is_row : c.in_ok-row.row.items ≡ candidates_in set n s =
    c.in_ok-row.ensures seen (types_in x) (funcs_in x) ∙ ap (candidates_from set n) (sym c.imports-imports.ensures.are) in (
      group ∙ ap (group_before places) (sym (add-one n)),
      has,
      ap (map (λ row. row.items)) c.in_ok-push.ensures.items ∙ mapped_last (λ row. row.items) c.loop-at.rows.items c.in_ok-row.row
          ∙ ap (λ rs. rs ++ c.in_ok-row.row.items ∷ []) inv.2 ∙ ap (λ r. each_from (candidates_in set) 0 (take n (spaces_of_all cs)) ++ r ∷ []) is_row
          ∙ sym (each_next (candidates_in set) (spaces_of_all cs) n s there),
    )

pub returns : goal.returns
returns c =
    let cs = c.args.components.now in
    all_rows (candidates_in (set_by cs c.args.choices.now)) (λ row. row.items) cs c.loop-at.at c.loop-at.rows.items c.loop-at-test.false c.loop-at.invariant.2
