use Rattle.std.proofs.Common.{◌≡◌, ◌+◌, ℕ, List, None, Some, arith, get_or, inl, inr, refl, sym, subst, length, take, Option}
use Rattle.std.proofs.lemmas.List.{take_all}
use Rattle.std.proofs.lemmas.Option.{slice_get-get_or}
use Rattle.cm_shims_plain.specs.declared.wants.Want.{Want}
use Rattle.cm_shims_plain.specs.declared.wants.Want.TheVariants as wants
use Rattle.cm_shims.specs.declared.fault.FitReason.{FitReason}
use Rattle.cm_shims.specs.Fitting.{AllHold, Holds}
use Rattle.cm_shims.specs.Judging.{Judges}
use Rattle.cm_shims.specs.Reasons.{reason_of}
use Rattle.cm_shims.proofs.FitLaws.{all_next, unmet}
use Rattle.cm_shims.proofs.fitting.judge.Goals as goal

pub loop-number-init : goal.loop-number-init
loop-number-init c = (c.new-tables.ensures c.args.arena.now, λ s at. tt)

pub returns-in-Ok-Some : goal.returns-in-Ok-Some
returns-in-Ok-Some c = λ s at.
    let ws = c.args.wants.now in
    let w : Want = get_or ws c.loop-number.number (wants.Func 0 0) in
    let there = slice_get-get_or ws c.loop-number.number (wants.Func 0 0) c.loop-number-test.true in
    let told = subst (λ (o : Option FitReason). Judges (Holds s w) (reason_of w) o) c.in-Ok-Some.field-0-is (c.in-Ok-Some.ensures.fault s at) in
    inr (unmet s ws _ w there (c.loop-number.invariant.1 s at) told)

pub returns-in-Err : goal.returns-in-Err
returns-in-Err c = λ s at. inl (c.no_memory.ensures.reason, subst (λ (n : ℕ). AllHold s (take n c.args.wants.now)) (sym c.no_memory.ensures.want) (c.loop-number.invariant.1 s at))

pub loop-number-preserved : goal.loop-number-preserved
loop-number-preserved c = (
  c.in-Ok-None.ensures.known,
  λ s at.
      let ws = c.args.wants.now in
      let w : Want = get_or ws c.loop-number.number (wants.Func 0 0) in
      let there = slice_get-get_or ws c.loop-number.number (wants.Func 0 0) c.loop-number-test.true in
      let told = subst (λ (o : Option FitReason). Judges (Holds s w) (reason_of w) o) c.in-Ok-None.field-0-is (c.in-Ok-None.ensures.fault s at) in
      all_next (Holds s) ws c.loop-number.number (c.loop-number.number + 1) w (omega (arith)) there (c.loop-number.invariant.1 s at) told,
)

pub returns : goal.returns
returns c = λ s at.
    let ws = c.args.wants.now in
    subst (λ (us : List Want). AllHold s us) (take_all c.loop-number.number ws (omega (arith, c.loop-number-test.false))) (c.loop-number.invariant.1 s at)
