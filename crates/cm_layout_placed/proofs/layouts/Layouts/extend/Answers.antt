use Rattle.std.proofs.Common.{◌≡◌, ◌<◌, ◌≤◌, ◌∙◌, map, take, length, arith, sym, ap}
use Rattle.std.proofs.lemmas.List.{length-map, take_all}
use Rattle.cm_layout.specs.Layouts.{layout_of}
use Rattle.cm_layout.specs.Shapes.{layout_at}
use Rattle.cm_types_arena.specs.Places.{types_of}
use Rattle.cm_layout_placed.specs.Placed.{layouts_in}
use Rattle.cm_layout_placed.proofs.FirstLaws.{of_first, one_more, taken}
use Rattle.cm_layout_placed.proofs.layouts.Layouts.extend.Goals as goal

pub loop-place-init : goal.loop-place-init
loop-place-init c =
    let ls = c.args.self.now.by_place.items in
    let types = types_of c.args.types.now in
    let many : length (map layout_of ls) ≡ c.len-place.result = length-map ls layout_of ∙ sym c.args.self.now.by_place.ok.0 ∙ sym c.len-place.ensures in
    taken (map layout_of ls) types c.requires ∙ ap (λ n. take n (map layout_at types)) many

pub returns-in_err-layout-clause-first : goal.returns-in_err-layout-clause-first
returns-in_err-layout-clause-first c = of_first (layouts_in c.loop-place.self) (types_of c.args.types.now) c.loop-place.place c.loop-place.invariant

pub returns-in_err-push-clause-first : goal.returns-in_err-push-clause-first
returns-in_err-push-clause-first c =
    of_first (map layout_of c.push.new.self.items) (types_of c.args.types.now) c.loop-place.place (ap (map layout_of) c.in_err-push.ensures.items ∙ c.loop-place.invariant)

pub loop-place-preserved : goal.loop-place-preserved
loop-place-preserved c =
    let types = types_of c.args.types.now in
    let n = c.loop-place.place in
    let ls = c.loop-place.self.by_place.items in
    let x = c.in_ok-layout.layout in
    let lt : n < length types = omega (arith, c.loop-place-test.true, c.len-place-end.ensures) in
    ap (map layout_of) c.in_ok-push.ensures.items ∙ one_more ls x types n lt c.loop-place.invariant c.in_ok-layout.ensures

pub returns-clause-all : goal.returns-clause-all
returns-clause-all c =
    let types = types_of c.args.types.now in
    let le : length (map layout_at types) ≤ c.loop-place.place = rw (length-map types layout_at) (omega (arith, c.loop-place-test.false, c.len-place-end.ensures)) in
    c.loop-place.invariant ∙ take_all c.loop-place.place (map layout_at types) le

pub returns-clause-first : goal.returns-clause-first
returns-clause-first c = of_first (layouts_in c.loop-place.self) (types_of c.args.types.now) c.loop-place.place c.loop-place.invariant
