use Rattle.std.proofs.Common.{◌∙◌, ◌++◌, ◌∷◌, [], None, Some, ap, arith, get_or, length, map, sym, take}
use Rattle.std.specs.Prelude.{replicate}
use Rattle.std.proofs.lemmas.List.{map-append}
use Rattle.std.proofs.lemmas.Option.{slice_get-get_or}
use Rattle.cm_lemmas.proofs.Lists.{map_length, take_all, take_one}
use Rattle.cm_match_serving.specs.Sets.{spaces_of_all}
use Rattle.cm_validate_spaces.specs.Checked.{spaces_in}
use Rattle.cm_validate_spaces.specs.declared.checked.Checked.{Checked}
use Rattle.huxarte_c_components.proofs.ChoiceLaws.{are_blank, blank_row, rows_of}
use Rattle.huxarte_c_components.proofs.choosing.empty_rows.Goals as goal

pub loop-component-preserved : goal.loop-component-preserved
loop-component-preserved c =
    let cs = c.args.components.now in
    let n = c.loop-component.component-index in
    let x = c.component-item.result in
    let row = λ (y : Checked). blank_row (spaces_in y) in
    let there = slice_get-get_or cs n x c.loop-component-test.true ∙ ap Some (sym c.component-item.is) in
    ap (map (λ r. r.items)) c.in_ok-push.ensures.items ∙ map-append (λ r. r.items) c.loop-component.rows.items (c.in_ok-row.row ∷ [])
    ∙ ap (λ rs. rs ++ c.in_ok-row.row.items ∷ []) c.loop-component.invariant
    ∙ ap (λ r. map row (take n cs) ++ r ∷ []) (c.in_ok-row.ensures ∙ ap (λ k. replicate k None) (sym (ap length c.imports.ensures.are ∙ map_length _ c.imports.result.now)))
    ∙ sym (map-append row (take n cs) (x ∷ []))
    ∙ ap (map row) (sym (take_one cs n x there))

pub returns : goal.returns
returns c =
    are_blank (spaces_of_all c.args.components.now) c.loop-component.rows.items
    (c.loop-component.invariant
    ∙ ap (map (λ y. blank_row (spaces_in y))) (take_all c.args.components.now c.loop-component.component-index (omega (arith, c.loop-component-test.false)))
    ∙ rows_of c.args.components.now)
