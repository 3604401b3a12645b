use Rattle.cm_hux_values.proofs.TextLaws.{no_text, some_text}
use Rattle.cm_hux_values.proofs.bytes.text_in.Goals as goal

pub returns-in-Ok : goal.returns-in-Ok
returns-in-Ok c = some_text c.args.bytes.now c.in-Ok.text.now _ c.in-Ok.ensures.cases.1 c.in-Ok.ensures.cases.0 c.as_whole.ensures

pub returns-in-Err : goal.returns-in-Err
returns-in-Err c = no_text c.args.bytes.now c.in-Err.ensures.cases.0
