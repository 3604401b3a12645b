use Rattle.std.proofs.Common.{ℕ, List, sym, subst, take, map, ◌+◌}
use Rattle.std.specs.List.{AllZip}
use Rattle.cm_tool_script.specs.Statements.{IsNumber}
use Rattle.cm_tool_script.proofs.StatementLaws.{read-more, refused-at}
use Rattle.cm_tool_script.proofs.statement.read_numbers.Goals as goal

pub loop-word-preserved : goal.loop-word-preserved
loop-word-preserved c =
    let words = c.args.words.now in
    subst (λ (ys : List ℕ). AllZip IsNumber (take (c.loop-word.word-index + 1) (map (λ w. w.now) words)) ys) (sym {A = List ℕ} c.in_ok-push.ensures.items)
    (read-more IsNumber words c.loop-word.numbers.items c.loop-word.word-index _ c.in_ok-read_number.field-0 c.loop-word-test.true c.loop-word.invariant c.in_ok-read_number.ensures)

pub returns-in_err-read_number : goal.returns-in_err-read_number
returns-in_err-read_number c =
    refused-at IsNumber (λ v. v.items) c.args.words.now c.loop-word.word-index _ c.in_err-read_number.field-0.0 _ c.loop-word-test.true c.in_err-read_number.ensures c.from_residual-in_err-read_number.ensures.1
