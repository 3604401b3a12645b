use Rattle.cm_types.specs.declared.core_value.CoreValue.{CoreValue}
use Rattle.std.proofs.Common.{List, sym, subst, take, map, ◌+◌}
use Rattle.std.specs.List.{AllZip}
use Rattle.cm_tool_script.specs.Statements.{IsValue}
use Rattle.cm_tool_script.proofs.StatementLaws.{read-more, refused-at}
use Rattle.cm_tool_script.proofs.statement.read_values.Goals as goal

pub loop-word-preserved : goal.loop-word-preserved
loop-word-preserved c =
    let words = c.args.words.now in
    subst (λ (ys : List CoreValue). AllZip IsValue (take (c.loop-word.word-index + 1) (map (λ w. w.now) words)) ys) (sym {A = List CoreValue} c.in_ok-push.ensures.items)
    (read-more IsValue words c.loop-word.values.items c.loop-word.word-index _ c.in_ok-read_value.field-0 c.loop-word-test.true c.loop-word.invariant c.in_ok-read_value.ensures)

pub returns-in_err-read_value : goal.returns-in_err-read_value
returns-in_err-read_value c =
    refused-at IsValue (λ v. v.items) c.args.words.now c.loop-word.word-index _ c.in_err-read_value.field-0.0 _ c.loop-word-test.true c.in_err-read_value.ensures c.from_residual-in_err-read_value.ensures.1
