use Rattle.std.proofs.Common.{[], ◌∷◌, arith, ◌%◌, ◌≡◌, sym, ap, subst, ◌∙◌, ◌<◌}
use Rattle.cm_layout.specs.Layouts.{layout_of}
use Rattle.cm_layout.specs.Shapes.{LayoutTy}
use Rattle.cm_layout.specs.declared.heads.Head.{Head}
use Rattle.cm_abi_load.specs.Outcomes.{state_of}
use Rattle.cm_abi_load.specs.Reading.{source_of}
use Rattle.cm_abi_load.specs.Records.{element_record}
use Rattle.cm_abi_model.specs.declared.record.PartRecord.{PartRecord}
use Rattle.cm_abi_lift.proofs.SpilledLemmas.{spilled_makes}
use Rattle.cm_abi_lift.proofs.passed.make_spilled.Goals as goal
use Rattle.cm_layout.proofs.LayoutLemmas.{seen_head}

pub nonzero_rem-pointer : goal.nonzero_rem-pointer
nonzero_rem-pointer g c =
    subst (λ n. 0 < n)
    (sym (ap (λ (l : LayoutTy). l.head.align) c.requires.layout.1) ∙ ap (λ (h : Head). h.align) (seen_head c.args.layout.now))
    (c.numbers_are_sized.ensures.aligned c.requires.layout.0)

pub returns : goal.returns
returns g c =
    let head_is = seen_head c.args.layout.now in
    let size_is = ap (λ (h : Head). h.size) head_is in
    let told = element_record (layout_of c.args.layout.now).head c.args.pointer 1 in
    let kept_is = λ (x : PartRecord). g.M.Maker.keeps c.args.kept.now (x ∷ []) c.keep.new.kept in
    spilled_makes g.M.Maker.stands g.M.Maker.keeps g.M.Maker.allocates g.met.M.Maker.keeps_both
    (source_of c.args.reader.now.giver) (g.M.Maker.target c.args.reader.now.maker) (layout_of c.args.layout.now) c.args.pointer
    c.args.kept.now c.keep.new.kept c.make_value.new.kept (state_of c.args.progress.now) (state_of c.make_value.new.progress) c.make_value.result
    (subst (λ (h : Head). c.args.pointer % h.align ≡ 0) (sym (seen_head c.args.layout.now)) c.if-pointer-layout-ne0.false)
    (omega (arith, c.if-from-reader.false, c.from.ensures, c.from-2.ensures, size_is))
    (subst (λ n. kept_is (record told { size = n })) (omega (arith, c.from-3.ensures, size_is))
    (subst (λ n. kept_is (record told { size = c.from-3.result; align = n })) (ap (λ (h : Head). h.align) (sym head_is)) c.in_ok-keep.ensures.ok))
    c.make_value.ensures
