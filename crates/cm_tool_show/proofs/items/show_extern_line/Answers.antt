use Rattle.std.proofs.Common.{rules}
use Rattle.cm_types.specs.Funcs.{func_of}
use Rattle.cm_tool_show.proofs.LineLaws.{front_as, func_front}
use Rattle.cm_tool_show.proofs.ShownLaws.{answers, stops, then, told}
use Rattle.cm_tool_show.proofs.items.show_extern_line.Goals as goal

pub returns-in_err-begin_line : goal.returns-in_err-begin_line
returns-in_err-begin_line c =
    answers (search rules) (stops _ c.in_err-begin_line.ensures)

pub returns-in_err-put-in-Func : goal.returns-in_err-put-in-Func
returns-in_err-put-in-Func c =
    answers (search rules) (told (front_as c.args.types.now c.args.word.now c.args.each _ c.in-Func.is) (then c.in_ok-begin_line.ensures (stops _ c.in_err-put-in-Func.ensures)))

pub returns-in_ok-put-in-Func : goal.returns-in_ok-put-in-Func
returns-in_ok-put-in-Func c =
    told (func_front c.args.types.now c.args.word.now c.args.each c.in-Func.placed c.new.result (func_of c.func.result.now) (search rules) c.new.ensures.place c.new.ensures.brought c.func.ensures) (then c.in_ok-begin_line.ensures (then c.in_ok-put-in-Func.ensures c.end_with_func.ensures))

pub returns-in_err-put-in-Instance : goal.returns-in_err-put-in-Instance
returns-in_err-put-in-Instance c =
    answers (search rules) (told (front_as c.args.types.now c.args.word.now c.args.each _ c.in-Instance.is) (then c.in_ok-begin_line.ensures (stops _ c.in_err-put-in-Instance.ensures)))

pub returns-in_ok-put-in-Instance : goal.returns-in_ok-put-in-Instance
returns-in_ok-put-in-Instance c =
    told (front_as c.args.types.now c.args.word.now c.args.each _ c.in-Instance.is) (then c.in_ok-begin_line.ensures (then c.in_ok-put-in-Instance.ensures c.put-in-Instance-2.ensures))
