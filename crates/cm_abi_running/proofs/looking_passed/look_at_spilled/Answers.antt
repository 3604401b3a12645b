use Rattle.std.proofs.Common.{◌≡◌, ◌+◌, ◌%◌, ◌<◌, ◌≤◌, ◌++◌, ◌∷◌, [], ap, arith, length, sym, subst, ◌∙◌}
use Rattle.std.proofs.lemmas.Result.{err_from_is_err_and}
use Rattle.cm_layout.specs.Layouts.{layout_of}
use Rattle.cm_layout.specs.Shapes.{LayoutTy, shape_of_type}
use Rattle.cm_layout.specs.Sizes.{size_of}
use Rattle.cm_layout.specs.declared.heads.Head.{Head}
use Rattle.cm_layout.specs.declared.layouts.Layout.{out-Layout}
use Rattle.cm_layout.proofs.LayoutLemmas.{seen_head}
use Rattle.cm_abi_model.specs.declared.record.PartRecord.{PartRecord}
use Rattle.cm_abi_load.specs.Outcomes.{state_of}
use Rattle.cm_abi_load.specs.Reading.{source_of}
use Rattle.cm_abi_load.specs.Records.{element_record}
use Rattle.cm_abi_programs.specs.Checks.{checks_of}
use Rattle.cm_abi_programs.specs.Coded.{checks_in}
use Rattle.cm_abi_running.specs.Within.{AreWithin}
use Rattle.cm_abi_running.proofs.LookLemmas.{memory_stops}
use Rattle.cm_abi_running.proofs.PassedLemmas.{beyond, misaligned, spilled_looked, spilled_more, test_none, test_some}
use Rattle.cm_abi_running.proofs.WithinLemmas.{checks_within}
use Rattle.cm_abi_running.proofs.looking_passed.look_at_spilled.Goals as goal

pub nonzero_rem-pointer : goal.nonzero_rem-pointer
nonzero_rem-pointer c =
    subst (λ n. 0 < n)
    (sym (ap (λ (l : LayoutTy). l.head.align) c.requires.layout.1) ∙ ap (λ (h : Head). h.align) (seen_head c.args.layout.now))
    (c.numbers_are_sized.ensures.aligned c.requires.layout.0)

pub returns-then-pointer-layout-ne0 : goal.returns-then-pointer-layout-ne0
returns-then-pointer-layout-ne0 c =
    let some : c.args.pointer % (layout_of c.args.layout.now).head.align ≡ 0 → ⊥ = subst (λ (h : Head). c.args.pointer % h.align ≡ 0 → ⊥) (sym (seen_head c.args.layout.now)) c.if-pointer-layout-ne0.true in
    misaligned (source_of c.args.reader.now.giver) c.args.reader.now.maker.target (layout_of c.args.layout.now).head (checks_in c.args.checks.now) c.args.pointer (state_of c.args.progress.now) (test_some (c.args.pointer % (layout_of c.args.layout.now).head.align) some)

pub returns-then-from-reader : goal.returns-then-from-reader
returns-then-from-reader c =
    let rest_is : c.args.pointer % (layout_of c.args.layout.now).head.align ≡ 0 = subst (λ (h : Head). c.args.pointer % h.align ≡ 0) (sym (seen_head c.args.layout.now)) c.if-pointer-layout-ne0.false in
    let aligned = test_none (c.args.pointer % (layout_of c.args.layout.now).head.align) rest_is in
    let size_is : (layout_of c.args.layout.now).head.size ≡ (out-Layout c.args.layout.now).head.size = ap (λ (h : Head). h.size) (seen_head c.args.layout.now) in
    let past : (length c.args.reader.now.giver.memory.now) < c.args.pointer + (layout_of c.args.layout.now).head.size = omega (arith, c.if-from-reader.true, c.from.ensures, c.from-2.ensures, size_is) in
    beyond (source_of c.args.reader.now.giver) c.args.reader.now.maker.target (layout_of c.args.layout.now).head (checks_in c.args.checks.now) c.args.pointer (state_of c.args.progress.now) aligned past

pub returns-in_err-keep : goal.returns-in_err-keep
returns-in_err-keep c =
    let p = err_from_is_err_and c.from_residual.result c.from_residual.ensures.1 in
    let rest_is : c.args.pointer % (layout_of c.args.layout.now).head.align ≡ 0 = subst (λ (h : Head). c.args.pointer % h.align ≡ 0) (sym (seen_head c.args.layout.now)) c.if-pointer-layout-ne0.false in
    let aligned = test_none (c.args.pointer % (layout_of c.args.layout.now).head.align) rest_is in
    let size_is : (layout_of c.args.layout.now).head.size ≡ (out-Layout c.args.layout.now).head.size = ap (λ (h : Head). h.size) (seen_head c.args.layout.now) in
    let within : c.args.pointer + (layout_of c.args.layout.now).head.size ≤ (length c.args.reader.now.giver.memory.now) = omega (arith, c.if-from-reader.false, c.from.ensures, c.from-2.ensures, size_is) in
    rw (p.1, p.2) (memory_stops _ (state_of c.args.progress.now) _ c.in_err-keep.field-0.0 c.in_err-keep.ensures.err (spilled_more (source_of c.args.reader.now.giver) c.args.reader.now.maker.target (layout_of c.args.layout.now).head (checks_in c.args.checks.now) c.args.pointer (state_of c.args.progress.now) aligned within))

pub look_at-requires : goal.look_at-requires
look_at-requires c =
    let t = c.requires.layout.0 in
    let rest_is : c.args.pointer % (layout_of c.args.layout.now).head.align ≡ 0 = subst (λ (h : Head). c.args.pointer % h.align ≡ 0) (sym (seen_head c.args.layout.now)) c.if-pointer-layout-ne0.false in
    let aligned = test_none (c.args.pointer % (layout_of c.args.layout.now).head.align) rest_is in
    let size_is : (layout_of c.args.layout.now).head.size ≡ (out-Layout c.args.layout.now).head.size = ap (λ (h : Head). h.size) (seen_head c.args.layout.now) in
    let within : c.args.pointer + (layout_of c.args.layout.now).head.size ≤ (length c.args.reader.now.giver.memory.now) = omega (arith, c.if-from-reader.false, c.from.ensures, c.from-2.ensures, size_is) in
    let whole : AreWithin (layout_of c.args.layout.now).head.size (checks_of (layout_of c.args.layout.now).shape) =
    subst (λ (l : LayoutTy). AreWithin l.head.size (checks_of l.shape)) (sym c.requires.layout.1) (checks_within (size_of t) (shape_of_type t) (c.layouts.ensures.laid t) (c.numbers_are_sized.ensures.sized t)) in
    record { within = record { size = (layout_of c.args.layout.now).head.size; within = subst (AreWithin (layout_of c.args.layout.now).head.size) (sym c.requires.checks) whole; room = within } }

pub returns : goal.returns
returns c =
    let rest_is : c.args.pointer % (layout_of c.args.layout.now).head.align ≡ 0 = subst (λ (h : Head). c.args.pointer % h.align ≡ 0) (sym (seen_head c.args.layout.now)) c.if-pointer-layout-ne0.false in
    let aligned = test_none (c.args.pointer % (layout_of c.args.layout.now).head.align) rest_is in
    let size_is : (layout_of c.args.layout.now).head.size ≡ (out-Layout c.args.layout.now).head.size = ap (λ (h : Head). h.size) (seen_head c.args.layout.now) in
    let within : c.args.pointer + (layout_of c.args.layout.now).head.size ≤ (length c.args.reader.now.giver.memory.now) = omega (arith, c.if-from-reader.false, c.from.ensures, c.from-2.ensures, size_is) in
    let told = element_record (layout_of c.args.layout.now).head c.args.pointer 1 in
    let kept_is = λ (x : PartRecord). c.keep.new.kept.items ≡ c.args.records.now.items ++ x ∷ [] in
    spilled_looked (source_of c.args.reader.now.giver) c.args.reader.now.maker.target (layout_of c.args.layout.now).head (checks_in c.args.checks.now) c.args.pointer (state_of c.args.progress.now) c.args.records.now.items c.keep.new.kept.items c.look_at.new.records.items (state_of c.look_at.new.progress) c.look_at.result aligned within
    (subst (λ n. kept_is (record told { size = n })) (omega (arith, c.from-3.ensures, size_is))
    (subst (λ n. kept_is (record told { size = c.from-3.result; align = n })) (ap (λ (h : Head). h.align) (sym (seen_head c.args.layout.now))) c.in_ok-keep.ensures.ok))
    c.look_at.ensures
