use Rattle.std.proofs.Common.{◌∙◌, ◌+◌, ◌<◌, ℕ, List, length, map, drop, slice_get, arith, subst, sym, ap}
use Rattle.cm_match_model.specs.Imports.{all_imports_from}
use Rattle.cm_match_model.specs.Links.{lines_of}
use Rattle.std.specs.List.{filter_map}
use Rattle.cm_lemmas.proofs.Lists.{map_length}
use Rattle.cm_match.specs.Linked.{components_in, set_in}
use Rattle.cm_match_serving.proofs.Judging.{set_length}
use Rattle.cm_bundle.specs.declared.form.Part.{Part}
use Rattle.cm_bundle.specs.Trees.{part_tree}
use Rattle.cm_bundle.specs.Bundled.{argument_of}
use Rattle.cm_bundle.proofs.Lines.{other_lines, own_fit, own_lines}
use Rattle.cm_bundle.proofs.MakingLoops.{got_read, part_texts, parts_pushed}
use Rattle.cm_bundle.proofs.SetRead.{space_there}
use Rattle.cm_bundle.proofs.Supplying.{AreTexts}
use Rattle.cm_bundle.proofs.bundled.parts_of.Goals as goal

pub split_at-requires : goal.split_at-requires
split_at-requires c =
    let cs = components_in c.args.linked.now in
    let i = c.loop-number.number in
    let n = c.args.first + i in
    let x = c.index-components-component.result in
    let inside : n < length c.components-components.result.now = omega (arith, c.loop-number-test.true, c.requires.each, set_length cs, ap length c.components-components.ensures.components) in
    let there = ap (λ (ys : List _). slice_get ys n) (sym c.components-components.ensures.components) ∙ got_read c.components-components.result.now n x inside c.index-components-component.is in
    let count = sym (ap length c.imports.ensures.are ∙ map_length _ c.imports.result.now) in
    own_fit (set_in c.args.linked.now) c.components-components.ensures.linked n _ (space_there cs n x there) (length c.imports.result.now) count c.loop-number.lines.now c.loop-number.invariant.2

pub loop-number-preserved : goal.loop-number-preserved
loop-number-preserved c =
    let cs = components_in c.args.linked.now in
    let set = set_in c.args.linked.now in
    let i = c.loop-number.number in
    let n = c.args.first + i in
    let x = c.index-components-component.result in
    let k = length c.imports.result.now in
    let lines = c.loop-number.lines.now in
    let inside : n < length c.components-components.result.now = omega (arith, c.loop-number-test.true, c.requires.each, set_length cs, ap length c.components-components.ensures.components) in
    let there = ap (λ (ys : List _). slice_get ys n) (sym c.components-components.ensures.components) ∙ got_read c.components-components.result.now n x inside c.index-components-component.is in
    let count = sym (ap length c.imports.ensures.are ∙ map_length _ c.imports.result.now) in
    let space = space_there cs n x there in
    let own = own_lines set c.components-components.ensures.linked n _ space k count lines c.loop-number.invariant.2 in
    let others = other_lines set c.components-components.ensures.linked n _ space k count lines c.loop-number.invariant.2 in
    let given = c.in_ok-arguments.ensures.arguments ∙ ap (filter_map (argument_of set.spaces)) (c.split_at.ensures.front ∙ own) in (
      parts_pushed set c.args.first c.args.files.now i _ c.loop-number.parts.items c.push.new.self.items c.in_ok-arguments.arguments c.loop-number-test.true c.in_ok-push.ensures.items c.loop-number.invariant.0 given,
      subst (λ (ps : List Part). AreTexts (map part_tree ps)) (sym c.in_ok-push.ensures.items) (part_texts c.loop-number.parts.items _ c.loop-number.invariant.1 c.in_ok-arguments.ensures.texts),
      c.split_at.ensures.back ∙ others ∙ ap (λ (m : ℕ). lines_of set (all_imports_from m (drop m set.spaces))) (omega arith),
    )
