-- The runs, places in comments and beginnings of texts that the code's are.
use Rattle.cm_wit_tokens.specs.Comments as comments
use Rattle.cm_wit_tokens.specs.declared.comment.Inside as inside
use Rattle.cm_wit_tokens.specs.declared.front.Front as front
use Rattle.cm_wit_tokens.specs.declared.front.Front.TheVariants as front_is
use Rattle.cm_wit_tokens.specs.declared.run.Run as run
use Rattle.cm_wit_tokens.specs.declared.run.Run.TheVariants as run_is
use Rattle.cm_wit_projects_tokens.specs.declared.comment.Inside as own_inside
use Rattle.cm_wit_projects_tokens.specs.declared.front.Front as own_front
use Rattle.cm_wit_projects_tokens.specs.declared.front.Front.TheVariants as own_front_is
use Rattle.cm_wit_projects_tokens.specs.declared.run.Run as own_run
use Rattle.cm_wit_projects_tokens.specs.declared.run.Run.TheVariants as own_run_is

abbrev pub run_view : own_run.Run → run.Run
run_view own_run_is.Word = run_is.Word
run_view own_run_is.Digits = run_is.Digits
run_view own_run_is.Version = run_is.Version
run_view own_run_is.Line = run_is.Line

abbrev pub inside_view : own_inside.Inside → inside.Inside
inside_view i = comments.inside i.depth i.last

abbrev pub front_view : own_front.Front → front.Front
front_view own_front_is.End = front_is.End
front_view (own_front_is.Gap n) = front_is.Gap n
front_view (own_front_is.Token f n) = front_is.Token f n
front_view own_front_is.Bad = front_is.Bad
