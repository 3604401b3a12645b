use Rattle.std.proofs.Common.{ap, rules}
use Rattle.cm_types_arena.specs.Listed.{desc_in}
use Rattle.cm_tool_show.proofs.LineLaws.{behind_front, lines_split}
use Rattle.cm_tool_show.proofs.ShownLaws.{answers, none_shown, stops, then, told}
use Rattle.cm_tool_show.proofs.items.show_extern.Goals as goal

pub returns-in_err-show_extern_line : goal.returns-in_err-show_extern_line
returns-in_err-show_extern_line c =
    answers (search rules) (told (lines_split _ _ _) (stops _ c.in_err-show_extern_line.ensures))

pub returns-in-Func : goal.returns-in-Func
returns-in-Func c =
    told (lines_split _ _ _) (then c.in_ok-show_extern_line.ensures (
    told (ap (λ x. behind_front (desc_in c.args.types.now x)) c.in-Func.is) (none_shown c.show_extern_line.new.page tt)))

pub returns-in-Instance : goal.returns-in-Instance
returns-in-Instance c =
    told (lines_split _ _ _) (then c.in_ok-show_extern_line.ensures (
    told (ap (λ x. behind_front (desc_in c.args.types.now x)) c.in-Instance.is) c.show_items.ensures))
