use Rattle.std.proofs.Common.{◌≡◌, ◌∙◌, ◌+◌, ◌<◌, ◌≤◌, Some, ap, arith, inr, length, map, refl, subst, sym, take}
use Rattle.std.proofs.lemmas.Option.{slice_get-get_or}
use Rattle.std.specs.Option.{option_map}
use Rattle.cm_lemmas.proofs.Lists.{map_length}
use Rattle.cm_types_arena.specs.Externs.{extern_of}
use Rattle.cm_bundle.specs.Trees.{group_tree, supply_tree}
use Rattle.cm_bundle_links.specs.Links.{AreLinked}
use Rattle.cm_bundle_links.proofs.GivenLaws.{given_there, import_there}
use Rattle.cm_bundle_links.proofs.RowLaws.{all_linked, first_unlinked, linked_next, one_too_many}
use Rattle.cm_bundle_links.proofs.rows.row_of.Goals as goal

pub returns-in-Err-clause-refused : goal.returns-in-Err-clause-refused
returns-in-Err-clause-refused c set types funcs tables =
    let n = c.loop-argument.argument in
    let is = c.args.imports.now in
    let xs = c.args.arguments.now in
    let x = c.index-imports-argument.result in
    inr (
      refl,
      first_unlinked (map group_tree c.args.front.now) set (map (extern_of types funcs) is) (map supply_tree xs) n c.loop-argument.row.items
          (extern_of types funcs x) (option_map (λ y. supply_tree y.now) c.get.result) c.in-Err.reason
          (c.loop-argument.invariant set types funcs tables)
          (import_there types funcs is n x (slice_get-get_or is n x c.loop-argument-test.true ∙ ap Some (sym c.index-imports-argument.is)))
          (given_there xs n c.get.result c.get.ensures.lookup)
          (c.in-Err.ensures set types funcs tables),
    )

pub loop-argument-preserved : goal.loop-argument-preserved
loop-argument-preserved c set types funcs tables =
    let n = c.loop-argument.argument in
    let is = c.args.imports.now in
    let xs = c.args.arguments.now in
    let x = c.index-imports-argument.result in
    subst (λ ls. AreLinked (map group_tree c.args.front.now) set (take (n + 1) (map (extern_of types funcs) is)) (take (n + 1) (map supply_tree xs)) ls) (sym c.in_ok-push-in-Ok.ensures.items)
    (linked_next (map group_tree c.args.front.now) set (map (extern_of types funcs) is) (map supply_tree xs) n c.loop-argument.row.items
    (extern_of types funcs x) (option_map (λ y. supply_tree y.now) c.get.result) c.in-Ok.link
    (c.loop-argument.invariant set types funcs tables)
    (import_there types funcs is n x (slice_get-get_or is n x c.loop-argument-test.true ∙ ap Some (sym c.index-imports-argument.is)))
    (given_there xs n c.get.result c.get.ensures.lookup)
    (c.in-Ok.ensures set types funcs tables))

pub returns-then-arguments-imports-clause-refused : goal.returns-then-arguments-imports-clause-refused
returns-then-arguments-imports-clause-refused c set types funcs tables =
    let n = c.loop-argument.argument in
    let is = c.args.imports.now in
    let xs = c.args.arguments.now in
    let ends : n ≡ length is = omega (arith, c.loop-argument-test.false, c.loop-argument.auto.argument-end) in
    let all : length (map (extern_of types funcs) is) ≤ length is = omega (arith, map_length (extern_of types funcs) is) in
    let more : length is < length (map supply_tree xs) = omega (arith, map_length supply_tree xs, c.if-arguments-imports.true) in
    inr (
      refl,
      one_too_many (map group_tree c.args.front.now) set (map (extern_of types funcs) is) (map supply_tree xs) (length is) c.loop-argument.row.items
          (subst (λ k. AreLinked (map group_tree c.args.front.now) set (take k (map (extern_of types funcs) is)) (take k (map supply_tree xs)) c.loop-argument.row.items) ends
          (c.loop-argument.invariant set types funcs tables))
          all more,
    )

pub returns-clause-linked : goal.returns-clause-linked
returns-clause-linked c set types funcs tables =
    let n = c.loop-argument.argument in
    let is = c.args.imports.now in
    let xs = c.args.arguments.now in
    let all : length (map (extern_of types funcs) is) ≤ n = omega (arith, map_length (extern_of types funcs) is, c.loop-argument-test.false) in
    let none : length (map supply_tree xs) ≤ n = omega (arith, map_length supply_tree xs, c.if-arguments-imports.false, c.loop-argument-test.false) in
    all_linked (map group_tree c.args.front.now) set (map (extern_of types funcs) is) (map supply_tree xs) n c.loop-argument.row.items
    (c.loop-argument.invariant set types funcs tables) all none
