use Rattle.std.proofs.Common.{◌≡◌, ◌∙◌, ◌++◌, ◌∷◌, [], List, map, subst, sym, ap, Vec, Global}
use Rattle.std.proofs.lemmas.List.{map-append}
use Rattle.std.specs.List.{AllByRecursion}
use Rattle.cm_match.specs.Linked.{set_in}
use Rattle.cm_bundle.specs.declared.form.Supply.{Supply}
use Rattle.cm_bundle.specs.Trees.{supply_tree}
use Rattle.cm_bundle.specs.Bundled.{argument_of}
use Rattle.cm_bundle.specs.Texts.{HasTexts}
use Rattle.cm_bundle.proofs.MakingLoops.{kept_none_read, kept_one_read, texts_more}
use Rattle.cm_bundle.proofs.set_supplies.arguments_of.Goals.{in-Some+in_ok-push, in_default}
use Rattle.cm_bundle.proofs.set_supplies.arguments_of.Goals as goal

pub loop-line-preserved : goal.loop-line-preserved
loop-line-preserved c =
    let h = argument_of (set_in c.args.linked.now).spaces in
    let old = c.loop-line.arguments.items in
    elim c.match-argument_of.branch [
      | in-Some+in_ok-push w ↦
          let x = w.in-Some.argument in
          let items : c.match-argument_of.arguments.items ≡ old ++ x ∷ [] = ap (λ (v : Vec Supply Global). v.items) w.arguments-is ∙ w.in_ok-push.ensures.items in (
            ap (map supply_tree) items ∙ map-append supply_tree old (x ∷ []) ∙ kept_one_read h c.args.lines.now c.loop-line.line-index _ (map supply_tree old) (supply_tree x) c.loop-line-test.true c.loop-line.invariant.0 w.in-Some.ensures.argument,
            subst (λ (vs : List Supply). AllByRecursion HasTexts (map supply_tree vs)) (sym items) (texts_more old x c.loop-line.invariant.1 w.in-Some.ensures.texts),
          )
      | in_default w ↦
          let items : c.match-argument_of.arguments.items ≡ old = ap (λ (v : Vec Supply Global). v.items) w.arguments-is in (
            ap (map supply_tree) items ∙ kept_none_read h c.args.lines.now c.loop-line.line-index _ (map supply_tree old) c.loop-line-test.true c.loop-line.invariant.0 w.in_default.ensures.argument,
            subst (λ (vs : List Supply). AllByRecursion HasTexts (map supply_tree vs)) (sym items) c.loop-line.invariant.1,
          )
    ]
