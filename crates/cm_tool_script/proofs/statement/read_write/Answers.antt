use Rattle.cm_tool_script.proofs.WriteLaws.{write-refused}
use Rattle.cm_tool_script.proofs.statement.read_write.Goals as goal

pub returns-in_err-bytes : goal.returns-in_err-bytes
returns-in_err-bytes c =
    write-refused c.args.words.now _ c.in_err-bytes.field-0.0 c.in_ok-at.at _ c.in-len2.len_at_least c.in-len2.len_below c.in_ok-at.ensures c.in_err-bytes.ensures.complete c.from_residual-in_err-bytes.ensures.1
