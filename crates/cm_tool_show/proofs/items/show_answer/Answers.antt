use Rattle.std.proofs.Common.{ap, rules}
use Rattle.std.specs.Option.{option_map}
use Rattle.cm_types.specs.Funcs.{tree_type}
use Rattle.cm_types_arena.specs.Replaced.{replaced}
use Rattle.cm_tool_show.specs.Counted.{counted}
use Rattle.cm_tool_show.specs.Shown.{answer_pieces}
use Rattle.cm_tool_show.proofs.ShownLaws.{answers, none_shown, stops, then, told}
use Rattle.cm_tool_show.proofs.items.show_answer.Goals as goal

pub returns-in-None : goal.returns-in-None
returns-in-None c =
    told (ap (λ o. answer_pieces (option_map (replaced (counted c.args.by)) (option_map tree_type o))) c.in-None.is) (none_shown c.args.page.now tt)

pub returns-in_err-put-in-Some : goal.returns-in_err-put-in-Some
returns-in_err-put-in-Some c =
    answers (search rules) (told (ap (λ o. answer_pieces (option_map (replaced (counted c.args.by)) (option_map tree_type o))) c.in-Some.is) (stops _ c.in_err-put-in-Some.ensures))

pub returns-in_ok-put-in-Some : goal.returns-in_ok-put-in-Some
returns-in_ok-put-in-Some c =
    told (ap (λ o. answer_pieces (option_map (replaced (counted c.args.by)) (option_map tree_type o))) c.in-Some.is) (then c.in_ok-put-in-Some.ensures c.add_type.ensures)
