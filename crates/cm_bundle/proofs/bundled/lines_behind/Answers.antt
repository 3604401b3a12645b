use Rattle.std.proofs.Common.{◌∙◌, ◌+◌, ◌<◌, ◌≡◌, ℕ, List, length, drop, slice_get, arith, sym, ap}
use Rattle.cm_lemmas.proofs.Lists.{map_length}
use Rattle.cm_match_model.specs.Imports.{all_imports_from}
use Rattle.cm_match_model.specs.Links.{lines_of}
use Rattle.cm_match.specs.Linked.{components_in, set_in}
use Rattle.cm_match_serving.proofs.Judging.{set_length}
use Rattle.cm_bundle.proofs.Lines.{other_lines, own_fit}
use Rattle.cm_bundle.proofs.MakingLoops.{got_read}
use Rattle.cm_bundle.proofs.SetRead.{space_there}
use Rattle.cm_bundle.proofs.bundled.lines_behind.Goals as goal

pub split_at-requires : goal.split_at-requires
split_at-requires c =
    let cs = components_in c.args.linked.now in
    let x = c.index-components-0.result in
    let inside : 0 < length c.components.result.now = omega (arith, c.if-first-eq0.false, c.requires.there, set_length cs, ap length c.components.ensures.components) in
    let there = ap (λ (ys : List _). slice_get ys 0) (sym c.components.ensures.components) ∙ got_read c.components.result.now 0 x inside c.index-components-0.is in
    let count = sym (ap length c.imports.ensures.are ∙ map_length _ c.imports.result.now) in
    own_fit (set_in c.args.linked.now) c.components.ensures.linked 0 _ (space_there cs 0 x there) (length c.imports.result.now) count c.plan-lines.result.now c.plan-lines.ensures

pub returns : goal.returns
returns c =
    let cs = components_in c.args.linked.now in
    let set = set_in c.args.linked.now in
    let x = c.index-components-0.result in
    let inside : 0 < length c.components.result.now = omega (arith, c.if-first-eq0.false, c.requires.there, set_length cs, ap length c.components.ensures.components) in
    let there = ap (λ (ys : List _). slice_get ys 0) (sym c.components.ensures.components) ∙ got_read c.components.result.now 0 x inside c.index-components-0.is in
    let count = sym (ap length c.imports.ensures.are ∙ map_length _ c.imports.result.now) in
    let others = other_lines set c.components.ensures.linked 0 _ (space_there cs 0 x there) (length c.imports.result.now) count c.plan-lines.result.now c.plan-lines.ensures in
    let next : 0 + 1 ≡ c.args.first = omega (arith, c.if-first-eq0.false, c.requires.few) in
    c.split_at.ensures.back ∙ others ∙ ap (λ (m : ℕ). lines_of set (all_imports_from m (drop m set.spaces))) next
