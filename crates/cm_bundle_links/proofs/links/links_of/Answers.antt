use Rattle.std.proofs.Common.{◌∙◌, ◌+◌, ◌<◌, ◌++◌, ◌∷◌, [], List, Some, ap, arith, length, map, subst, sym, take}
use Rattle.std.proofs.lemmas.List.{map-append}
use Rattle.std.proofs.lemmas.Option.{slice_get-get_or}
use Rattle.cm_lemmas.proofs.Lists.{get_map, map_length, mapped_twice, take_one}
use Rattle.cm_validate_model.specs.Spaces.{Spaces}
use Rattle.cm_match_serving.proofs.Judging.{set_length}
use Rattle.cm_match_serving.specs.Sets.{spaces_of_all}
use Rattle.cm_match_serving.specs.cm_validate_entries.ComponentSpaces.{export_def}
use Rattle.cm_match_serving.specs.cm_validate_spaces.Checked.{funcs_in, spaces_in, types_in}
use Rattle.cm_bundle.specs.Trees.{bundle_tree, group_tree, part_tree, supply_tree}
use Rattle.cm_bundle_links.specs.Links.{AreRows}
use Rattle.cm_bundle_links.specs.Tables.{AreTables, key_of}
use Rattle.cm_bundle_links.proofs.RowLaws.{part_fault, rows_next, same_first, same_linked}
use Rattle.cm_bundle_links.proofs.TableLaws.{space_there, tables_more}
use Rattle.cm_bundle_links.proofs.links.links_of.Goals as goal

pub returns-in-Err-clause-refused : goal.returns-in-Err-clause-refused
returns-in-Err-clause-refused c =
    let cs = c.args.components.now in
    let set = spaces_of_all cs in
    let b = bundle_tree c.args.bundle.now in
    let n = c.loop-number.number in
    let x = c.index-components-number.result in
    let p = c.index.result.now in
    let parts = c.are_parts.ensures.are c.if-not-are_parts.false in
    let inside : n < length c.args.bundle.now.parts.items = omega (arith, c.loop-number-test.true, parts.count, set_length cs, map_length part_tree c.args.bundle.now.parts.items) in
    let at_part = get_map part_tree c.args.bundle.now.parts.items n p (slice_get-get_or c.args.bundle.now.parts.items n p inside ∙ ap Some (sym c.index.ensures)) in
    let at_space = space_there cs n x (slice_get-get_or cs n x c.loop-number-test.true ∙ ap Some (sym c.index-components-number.is)) in
    let tables = subst (AreTables (take n set)) (sym c.deref-in-loop-number.ensures.value) c.loop-number.invariant.0 in
    part_fault b set (map (λ r. r.items) c.loop-number.rows.items) n (part_tree p) (spaces_in x) c.in-Err.fault parts c.loop-number.invariant.1 at_part at_space
    (same_first _ _ (take n set) _ _ _ _ n c.in-Err.fault (ap (map group_tree) c.deref.ensures.value) (sym c.imports-imports.ensures.are) (ap (map supply_tree) c.as_slice-arguments.ensures.value)
    (c.in-Err.ensures.refused (take n set) (types_in x) (funcs_in x) tables))

pub loop-number-preserved : goal.loop-number-preserved
loop-number-preserved c =
    let cs = c.args.components.now in
    let set = spaces_of_all cs in
    let b = bundle_tree c.args.bundle.now in
    let n = c.loop-number.number in
    let x = c.index-components-number.result in
    let p = c.index.result.now in
    let parts = c.are_parts.ensures.are c.if-not-are_parts.false in
    let inside : n < length c.args.bundle.now.parts.items = omega (arith, c.loop-number-test.true, parts.count, set_length cs, map_length part_tree c.args.bundle.now.parts.items) in
    let at_part = get_map part_tree c.args.bundle.now.parts.items n p (slice_get-get_or c.args.bundle.now.parts.items n p inside ∙ ap Some (sym c.index.ensures)) in
    let at_space = space_there cs n x (slice_get-get_or cs n x c.loop-number-test.true ∙ ap Some (sym c.index-components-number.is)) in
    let tables = subst (AreTables (take n set)) (sym c.deref-in-loop-number.ensures.value) c.loop-number.invariant.0 in
    let row = c.in-Ok.row in
    let t = c.in_ok-table.table in
    let rows = map (λ r. r.items) c.loop-number.rows.items in
    let linked = same_linked _ _ (take n set) _ _ _ _ row.items (ap (map group_tree) c.deref.ensures.value) (sym c.imports-imports.ensures.are) (ap (map supply_tree) c.as_slice-arguments.ensures.value)
    (c.in-Ok.ensures.linked (take n set) (types_in x) (funcs_in x) tables) in (
      subst (AreTables (take (n + 1) set)) (sym c.in_ok-push-2.ensures.items)
          (subst (λ (ss : List Spaces). AreTables ss (c.loop-number.tables.items ++ t ∷ [])) (sym (take_one set n (spaces_in x) at_space))
          (tables_more (take n set) c.loop-number.tables.items (spaces_in x) t c.loop-number.invariant.0
          (c.in_ok-table.ensures (types_in x) (funcs_in x) ∙ mapped_twice key_of (export_def (types_in x) (funcs_in x)) c.exports.result.now ∙ ap (map key_of) (sym c.exports.ensures.are)))),
      subst (AreRows b.front (take (n + 1) b.parts) (take (n + 1) set)) (sym (ap (map (λ r. r.items)) c.in_ok-push.ensures.items ∙ map-append (λ r. r.items) c.loop-number.rows.items (row ∷ [])))
          (rows_next b.front b.parts set rows n (part_tree p) (spaces_in x) row.items c.loop-number.invariant.1 at_part at_space linked),
    )
