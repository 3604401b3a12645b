use Rattle.std.proofs.Common.{ℕ, arith, refl, get_or, drop, length, subst, ◌-◌, List}
use Rattle.cm_types.specs.TypeTrees.{cases_of, type_of}
use Rattle.cm_types_arena.specs.Arena.{payload_types}
use Rattle.cm_types_numbers.specs.Numbering.{numbering, AreNumbers}
use Rattle.cm_types_numbers.proofs.ChainLemmas.{plain_here, carrying_here, left_plain, left_some}
use Rattle.cm_types_numbers.proofs.Stays.{extends_on}
use Rattle.cm_types_numbers.proofs.Steps.{from_here, plain_step, carrying_step}
use Rattle.cm_types_numbers.proofs.numbers.Numbers.cases.Goals as goal

pub loop-i-preserved-in-None : goal.loop-i-preserved-in-None
loop-i-preserved-in-None c =
    let text = c.as_str-text.result.now in
    let e = plain_here c.args.cases.now c.loop-i.i c.index-cases-i.result text c.loop-i-test.true (omega arith) c.index-cases-i.is c.as_str-text.ensures.text c.in-None.is in
    record {
      kept = extends_on (numbering c.args.self.now) (numbering c.loop-i.self) (numbering c.case.new.self) c.loop-i.invariant.kept c.case.ensures.kept;
      left = left_plain (cases_of (drop (c.loop-i.i - 1) c.args.cases.now)) (cases_of (drop c.loop-i.i c.args.cases.now)) text c.loop-i.left (length c.args.payloads.now) e c.loop-i.invariant.left;
      number = λ s are. plain_step (numbering c.args.self.now) (numbering c.loop-i.self) (numbering c.case.new.self) c.loop-i.invariant.kept s text (cases_of (drop c.loop-i.i c.args.cases.now)) (drop c.loop-i.left c.args.payloads.now) c.loop-i.others c.in_ok-others-in-None.others (c.loop-i.invariant.number s) (cases_of (drop (c.loop-i.i - 1) c.args.cases.now)) e c.in_ok-others-in-None.ensures.number are;
    }

pub overflow_sub-left : goal.overflow_sub-left
overflow_sub-left c =
    let text = c.as_str-text.result.now in
    let e = carrying_here c.args.cases.now c.loop-i.i c.index-cases-i.result text c.in-Some.field-0 c.loop-i-test.true (omega arith) c.index-cases-i.is c.as_str-text.ensures.text c.in-Some.is in
    let p = left_some c.args.cases.now c.loop-i.i (cases_of (drop c.loop-i.i c.args.cases.now)) text (type_of c.in-Some.field-0) c.loop-i.left (length c.args.payloads.now) e c.requires c.loop-i.invariant.left in
    omega (arith, p.0)

pub bounds-payloads-left : goal.bounds-payloads-left
bounds-payloads-left c =
    let text = c.as_str-text.result.now in
    let e = carrying_here c.args.cases.now c.loop-i.i c.index-cases-i.result text c.in-Some.field-0 c.loop-i-test.true (omega arith) c.index-cases-i.is c.as_str-text.ensures.text c.in-Some.is in
    let p = left_some c.args.cases.now c.loop-i.i (cases_of (drop c.loop-i.i c.args.cases.now)) text (type_of c.in-Some.field-0) c.loop-i.left (length c.args.payloads.now) e c.requires c.loop-i.invariant.left in
    p.1

pub loop-i-preserved : goal.loop-i-preserved
loop-i-preserved c =
    let text = c.as_str-text.result.now in
    let e = carrying_here c.args.cases.now c.loop-i.i c.index-cases-i.result text c.in-Some.field-0 c.loop-i-test.true (omega arith) c.index-cases-i.is c.as_str-text.ensures.text c.in-Some.is in
    let p = left_some c.args.cases.now c.loop-i.i (cases_of (drop c.loop-i.i c.args.cases.now)) text (type_of c.in-Some.field-0) c.loop-i.left (length c.args.payloads.now) e c.requires c.loop-i.invariant.left in
    let payload : ℕ = get_or c.args.payloads.now (c.loop-i.left - 1) 0 in
    let numbers = from_here c.args.payloads.now c.loop-i.left payload 0 p.0 p.1 refl in
    record {
      kept = extends_on (numbering c.args.self.now) (numbering c.loop-i.self) (numbering c.case-in-Some.new.self) c.loop-i.invariant.kept c.case-in-Some.ensures.kept;
      left = p.2;
      number = λ s are. carrying_step (numbering c.args.self.now) (numbering c.loop-i.self) (numbering c.case-in-Some.new.self) c.loop-i.invariant.kept s text (cases_of (drop c.loop-i.i c.args.cases.now)) (drop c.loop-i.left c.args.payloads.now) c.loop-i.others c.in_ok-others-in-Some.others (c.loop-i.invariant.number s) (cases_of (drop (c.loop-i.i - 1) c.args.cases.now)) (type_of c.in-Some.field-0) payload e c.in_ok-others-in-Some.ensures.number
          (subst (λ (ms : List ℕ). AreNumbers (numbering c.args.self.now) s (payload_types (cases_of (drop (c.loop-i.i - 1) c.args.cases.now))) ms) numbers are);
    }
