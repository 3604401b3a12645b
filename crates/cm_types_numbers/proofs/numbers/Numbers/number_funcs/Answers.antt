use Rattle.std.proofs.Common.{[], arith, refl, take, sym, subst, ◌+◌, ℕ, List}
use Rattle.std.proofs.lemmas.Result.{IfOk-from_err}
use Rattle.std.proofs.lemmas.List.{take_all}
use Rattle.cm_types.specs.Types.{FuncTy}
use Rattle.cm_types_arena.specs.Places.{funcs_of, types_of}
use Rattle.cm_types_numbers.specs.Numbering.{numbering, AreFuncNumbers}
use Rattle.cm_types_numbers.proofs.ArenaLemmas.{func_more}
use Rattle.cm_types_numbers.proofs.Stays.{extends_itself, extends_on, numbers_stay}
use Rattle.cm_types_numbers.proofs.numbers.Numbers.number_funcs.Goals as goal

pub loop-place-preserved : goal.loop-place-preserved
loop-place-preserved c =
    let start = numbering c.args.self.now in
    let t = numbering c.loop-place.self in
    let v = numbering c.number_func.new.self in
    record {
      kept = extends_on start t v c.loop-place.invariant.kept c.number_func.ensures.kept;
      numbers = λ s are.
          subst (λ (ns : List ℕ). AreFuncNumbers v s (take (c.loop-place.place + 1) (funcs_of c.args.types.now)) ns) (sym c.in_ok-push.ensures.items)
          (func_more t v c.number_func.ensures.kept s (funcs_of c.args.types.now) c.loop-place.place c.loop-place.funcs.items c.in_ok-number.number (omega (arith, c.loop-place-test.true, c.func_count-place-end.ensures)) (c.loop-place.invariant.numbers s are)
          (c.in_ok-number.ensures.number s (numbers_stay start t c.loop-place.invariant.kept s (types_of c.args.types.now) c.args.numbers.now are)));
    }

pub loop-place-init : goal.loop-place-init
loop-place-init c =
    record {
      kept = extends_itself (numbering c.args.self.now);
      numbers = λ s are. subst (λ (ns : List ℕ). AreFuncNumbers (numbering c.args.self.now) s [] ns) (sym c.in_ok-funcs.ensures.items) refl;
    }

pub number_func-requires : goal.number_func-requires
number_func-requires c = omega (arith, c.loop-place-test.true, c.func_count-place-end.ensures)

pub returns-in_err-funcs-clause-numbers : goal.returns-in_err-funcs-clause-numbers
returns-in_err-funcs-clause-numbers c = IfOk-from_err c.from_residual.result _ c.from_residual.ensures.0

pub returns-in_err-funcs-clause-kept : goal.returns-in_err-funcs-clause-kept
returns-in_err-funcs-clause-kept c = extends_itself (numbering c.args.self.now)

pub returns-in_err-number-clause-numbers : goal.returns-in_err-number-clause-numbers
returns-in_err-number-clause-numbers c = IfOk-from_err c.from_residual-in_err-number.result _ c.from_residual-in_err-number.ensures.0

pub returns-in_err-number-clause-kept : goal.returns-in_err-number-clause-kept
returns-in_err-number-clause-kept c = extends_on (numbering c.args.self.now) (numbering c.loop-place.self) (numbering c.number_func.new.self) c.loop-place.invariant.kept c.number_func.ensures.kept

pub returns-in_err-push-clause-numbers : goal.returns-in_err-push-clause-numbers
returns-in_err-push-clause-numbers c = IfOk-from_err c.from_residual-in_err-push.result _ c.from_residual-in_err-push.ensures.0

pub returns-in_err-push-clause-kept : goal.returns-in_err-push-clause-kept
returns-in_err-push-clause-kept c = extends_on (numbering c.args.self.now) (numbering c.loop-place.self) (numbering c.number_func.new.self) c.loop-place.invariant.kept c.number_func.ensures.kept

pub returns-clause-numbers : goal.returns-clause-numbers
returns-clause-numbers c = λ s are.
    subst (λ (fs : List FuncTy). AreFuncNumbers (numbering c.loop-place.self) s fs c.loop-place.funcs.items) (take_all c.loop-place.place (funcs_of c.args.types.now) (omega (arith, c.loop-place-test.false, c.func_count-place-end.ensures))) (c.loop-place.invariant.numbers s are)

pub returns-clause-kept : goal.returns-clause-kept
returns-clause-kept c = c.loop-place.invariant.kept
