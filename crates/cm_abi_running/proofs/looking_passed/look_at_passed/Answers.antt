use Rattle.std.proofs.Common.{◌≡◌, ◌<◌, ◌≤◌, ◌∙◌, ap, arith, sym, subst}
use Rattle.cm_layout.specs.Layouts.{layout_of}
use Rattle.cm_layout.specs.Shapes.{LayoutTy, shape_of_type}
use Rattle.cm_layout.specs.Sizes.{size_of}
use Rattle.cm_layout.specs.declared.heads.Head.{Head}
use Rattle.cm_layout.specs.declared.layouts.Layout.{out-Layout}
use Rattle.cm_layout.proofs.LayoutLemmas.{seen_head}
use Rattle.cm_abi_model.specs.Views.{flat_limit}
use Rattle.cm_abi_model.specs.Ways.{way_of}
use Rattle.cm_abi_load.specs.Outcomes.{state_of}
use Rattle.cm_abi_load.specs.Reading.{source_of}
use Rattle.cm_abi_lift.specs.FlatReading.{IsFlatReadable}
use Rattle.cm_abi_lift.proofs.WalkLemmas.{laid_ready}
use Rattle.cm_abi_programs.specs.Coded.{checks_in}
use Rattle.cm_abi_running.specs.Within.{AreBehind}
use Rattle.cm_abi_running.proofs.PassedLemmas.{narrow_checks, narrow_looked, wide_checks, wide_looked}
use Rattle.cm_abi_running.proofs.WithinLemmas.{flat_behind}
use Rattle.cm_abi_running.proofs.looking_passed.look_at_passed.Goals as goal

pub look_at_spilled-requires : goal.look_at_spilled-requires
look_at_spilled-requires c =
    let width_is : (layout_of c.args.passed.now.layout.now).head.width ≡ (out-Layout c.args.passed.now.layout.now).head.width = ap (λ (h : Head). h.width) (seen_head c.args.passed.now.layout.now) in
    let wide : (flat_limit (way_of c.args.passed.now.way)) < (layout_of c.args.passed.now.layout.now).head.width = omega (arith, c.if-passed-flat_limit.true, c.flat_limit.ensures, width_is) in
    record { layout = c.requires.layout; checks = c.requires.checks ∙ wide_checks (flat_limit (way_of c.args.passed.now.way)) (layout_of c.args.passed.now.layout.now) wide }

pub look_at_flat-requires : goal.look_at_flat-requires
look_at_flat-requires c =
    let t = c.requires.layout.0 in
    let width_is : (layout_of c.args.passed.now.layout.now).head.width ≡ (out-Layout c.args.passed.now.layout.now).head.width = ap (λ (h : Head). h.width) (seen_head c.args.passed.now.layout.now) in
    let narrow : (layout_of c.args.passed.now.layout.now).head.width ≤ (flat_limit (way_of c.args.passed.now.way)) = omega (arith, c.if-passed-flat_limit.false, c.flat_limit.ensures, width_is) in
    let ready : IsFlatReadable (layout_of c.args.passed.now.layout.now).shape = subst IsFlatReadable (sym (ap (λ (l : LayoutTy). l.shape) c.requires.layout.1)) (laid_ready (size_of t) (shape_of_type t) (c.layouts.ensures.laid t) (c.numbers_are_sized.ensures.sized t)) in
    record { behind = subst AreBehind (sym (c.requires.checks ∙ narrow_checks (flat_limit (way_of c.args.passed.now.way)) (layout_of c.args.passed.now.layout.now) narrow)) (flat_behind (layout_of c.args.passed.now.layout.now).shape ready) }

pub returns-then-passed-flat_limit : goal.returns-then-passed-flat_limit
returns-then-passed-flat_limit c =
    let width_is : (layout_of c.args.passed.now.layout.now).head.width ≡ (out-Layout c.args.passed.now.layout.now).head.width = ap (λ (h : Head). h.width) (seen_head c.args.passed.now.layout.now) in
    let wide : (flat_limit (way_of c.args.passed.now.way)) < (layout_of c.args.passed.now.layout.now).head.width = omega (arith, c.if-passed-flat_limit.true, c.flat_limit.ensures, width_is) in
    wide_looked (source_of c.args.reader.now.giver) c.args.reader.now.maker.target (flat_limit (way_of c.args.passed.now.way)) (layout_of c.args.passed.now.layout.now).head (checks_in c.args.checks.now) c.args.passed.now.slots.now (state_of c.args.progress.now) (state_of c.look_at_spilled.new.progress) c.args.records.now.items c.look_at_spilled.new.records.items c.look_at_spilled.result c.number_32-pointer.result wide c.number_32-pointer.ensures c.look_at_spilled.ensures

pub returns-else-passed-flat_limit : goal.returns-else-passed-flat_limit
returns-else-passed-flat_limit c =
    let width_is : (layout_of c.args.passed.now.layout.now).head.width ≡ (out-Layout c.args.passed.now.layout.now).head.width = ap (λ (h : Head). h.width) (seen_head c.args.passed.now.layout.now) in
    let narrow : (layout_of c.args.passed.now.layout.now).head.width ≤ (flat_limit (way_of c.args.passed.now.way)) = omega (arith, c.if-passed-flat_limit.false, c.flat_limit.ensures, width_is) in
    narrow_looked (source_of c.args.reader.now.giver) c.args.reader.now.maker.target (flat_limit (way_of c.args.passed.now.way)) (layout_of c.args.passed.now.layout.now).head (checks_in c.args.checks.now) c.args.passed.now.slots.now (state_of c.args.progress.now) (state_of c.look_at_flat.new.progress) c.args.records.now.items c.look_at_flat.new.records.items c.look_at_flat.result narrow c.look_at_flat.ensures
