use Rattle.std.proofs.Common.{◌∙◌, ◌++◌, ◌∷◌, [], map, take, refl, sym, ap, arith}
use Rattle.cm_lemmas.proofs.Lists.{take_all}
use Rattle.cm_types_arena.specs.Externs.{extern_of}
use Rattle.cm_match_model.specs.Fitting.{only}
use Rattle.cm_match_model.specs.Imports.{candidates}
use Rattle.cm_match_serving.specs.Candidates.{candidates_from}
use Rattle.cm_match_serving.specs.Sets.{set_by}
use Rattle.cm_match_serving.proofs.Rows.{each_next_of, read_at}
use Rattle.cm_match_serving.proofs.import_candidates.import_candidates.Goals as goal

pub loop-import-preserved : goal.loop-import-preserved
loop-import-preserved c = λ has types funcs.
    let set = set_by c.args.components.now c.args.choices.now in
    let at = c.args.importer in
    let xs = c.args.imports.now in
    let n = c.loop-import.import in
    let x = c.index-imports-import.result in
    let k = c.in_ok-candidate.candidate in
    c.in_ok-push.ensures.items
    ∙ ap (λ row. row ++ k ∷ []) (c.loop-import.invariant has types funcs)
    ∙ ap (λ one. candidates_from set at (map (extern_of types funcs) (take n xs)) ++ one ∷ []) (c.in_ok-candidate.ensures has (extern_of types funcs x) refl)
    ∙ sym (each_next_of (λ number y. only (candidates set at number y)) (extern_of types funcs) xs n x (read_at xs n x c.loop-import-test.true c.index-imports-import.is))

pub returns : goal.returns
returns c = λ has types funcs.
    let set = set_by c.args.components.now c.args.choices.now in
    c.loop-import.invariant has types funcs
    ∙ ap (λ xs. candidates_from set c.args.importer (map (extern_of types funcs) xs)) (take_all c.args.imports.now c.loop-import.import (omega (arith, c.loop-import-test.false)))
