-- What was written on a page.
use Rattle.std.specs.Prelude.{◌≡◌, ◌++◌, List, OnOk, IsErrOf, Result}
use Rattle.cm_tool_show.specs.Pages.{IsOver, seen_on, text_on}
use Rattle.cm_tool_show.specs.Pieces.{Piece, seen_behind, text_behind}
use Rattle.cm_tool_show.specs.declared.fault.ShowFault.{ShowFault}
use Rattle.cm_tool_show.specs.declared.fault.ShowFault.TheVariants as fault
use Rattle.cm_tool_show.specs.declared.page.Page.{Page}

-- one page became the other by these pieces, put behind what it had
pub record Wrote (ps : List Piece) (before after : Page) : Type 0 where
  pub text : text_on after ≡ text_on before ++ text_behind (seen_on before) ps
  pub seen : seen_on after ≡ seen_behind (seen_on before) ps

-- These pieces were to be written: they are, where nothing failed, and `TooLong` comes only where
-- the text is too long with them.
pub record Shows (ps : List Piece) (before after : Page) (r : Result (Unit {0}) ShowFault)
    : Type 0 where
  pub wrote : OnOk r (Wrote ps before after)
  pub over : IsErrOf r fault.TooLong → IsOver before ps
