use Rattle.std.proofs.Common.{◌++◌, ◌∷◌, [], ap, rules, sym}
use Rattle.std.specs.Prelude.{codes}
use Rattle.cm_tool_show.specs.Pieces.{chars}
use Rattle.cm_tool_show.specs.Shown.{resource_pieces}
use Rattle.cm_tool_show.proofs.ShownLaws.{answers, stops, then, told}
use Rattle.cm_tool_show.proofs.items.show_resource.Goals as goal

pub returns-in_err-begin_line : goal.returns-in_err-begin_line
returns-in_err-begin_line c =
    answers (search rules) (stops _ c.in_err-begin_line.ensures)

pub returns : goal.returns
returns c =
    then c.in_ok-begin_line.ensures (told (ap (λ r. resource_pieces r ++ chars (codes "\n") ∷ []) (sym c.brought_resource.ensures)) c.end_with_resource.ensures)
