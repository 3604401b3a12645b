use Rattle.std.proofs.Common.{◌∙◌, arith, lit≤, rules, subst, sym}
use Rattle.cm_tool_script.specs.Numbers.{IsDecimal}
use Rattle.cm_tool_script.proofs.NumberLaws.{decimal-read, read-decimal, IsDecimal-decimal}
use Rattle.cm_tool_script.proofs.numbers.read_u64.Goals as goal

pub returns-then-is_decimal-clause-read : goal.returns-then-is_decimal-clause-read
returns-then-is_decimal-clause-read c =
    let is : IsDecimal c.args.word.now = search rules in
    rw c.ok.ensures.value (decimal-read 64 c.args.word.now c.parse.result (lit≤ tt) is c.parse.ensures.value.0)

pub returns-then-is_decimal-clause-complete : goal.returns-then-is_decimal-clause-complete
returns-then-is_decimal-clause-complete c = λ n small written. c.ok.ensures.value ∙ read-decimal 64 n c.args.word.now c.parse.result small (omega arith) written c.parse.ensures.value.0

pub returns-else-is_decimal-clause-complete : goal.returns-else-is_decimal-clause-complete
returns-else-is_decimal-clause-complete c = λ n small written.
    let is : IsDecimal c.args.word.now = subst IsDecimal (sym written) (IsDecimal-decimal n (omega arith)) in
    absurd (search (rules, is))
