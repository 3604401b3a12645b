use Rattle.std.proofs.Common.{◌≡◌, ◌∙◌, ◌+◌, ◌++◌, ◌∷◌, [], List, Some, arith, map, slice_get, subst, sym, ap}
use Rattle.std.specs.List.{AllByRecursion}
use Rattle.cm_lemmas.proofs.Lists.{Shows, got, shows_end, shows_push}
use Rattle.cm_match.specs.Linked.{components_in}
use Rattle.cm_bundle.specs.declared.form.Supply.{Supply}
use Rattle.cm_bundle.specs.Trees.{supply_tree}
use Rattle.cm_bundle.specs.Texts.{HasTexts}
use Rattle.cm_bundle.proofs.MakingLoops.{texts_more}
use Rattle.cm_bundle.proofs.SetRead.{exports_told, shown}
use Rattle.cm_bundle.proofs.set_supplies.exports_of.Goals as goal

pub loop-export-preserved : goal.loop-export-preserved
loop-export-preserved c =
    let view = shown (components_in c.args.linked.now) c.args.component in
    let xs = c.exports-export-items.result.now in
    let i = c.loop-export.export-index in
    let old = c.loop-export.exports.items in
    let x = c.exported.result in
    let pushed : c.push.new.self.items ≡ old ++ x ∷ [] = c.in_ok-push.ensures.items in (
      subst (λ (vs : List Supply). Shows view supply_tree xs (i + 1) vs) (sym pushed) (shows_push view supply_tree xs i old c.export-item.result x c.loop-export-test.true c.export-item.is (c.exported.ensures.export _ _) c.loop-export.invariant.0),
      subst (λ (vs : List Supply). AllByRecursion HasTexts (map supply_tree vs)) (sym pushed) (texts_more old x c.loop-export.invariant.1 c.exported.ensures.texts),
    )

pub returns-clause-exports : goal.returns-clause-exports
returns-clause-exports c =
    let cs = components_in c.args.linked.now in
    let xs = c.exports-export-items.result.now in
    let there = ap (λ (ys : List _). slice_get ys c.args.component) (sym c.components.ensures.components) ∙ sym (got c.components.result.now c.args.component (Some c.in-Some.checked) c.in-Some.ensures.lookup) in
    exports_told cs c.args.component c.in-Some.checked.now there xs (map supply_tree c.loop-export.exports.items) c.exports-export-items.ensures.are
    (shows_end (shown cs c.args.component) supply_tree xs c.loop-export.export-index c.loop-export.exports.items (omega (arith, c.loop-export-test.false)) c.loop-export.invariant.0)
