use Rattle.std.proofs.Common.{◌≡◌, ◌+◌, ◌≤◌, drop}
use Rattle.std.specs.Option.{option_map}
use Rattle.cm_wit_tokens.specs.Comments.{opened, comment_length}
use Rattle.cm_wit_projects_tokens.specs.Views.{inside_view}
use Rattle.cm_wit_projects_tokens.proofs.comment.comment_length.Given as goal

abbrev pub invariant-loop-index : goal.invariant-loop-index
invariant-loop-index l = (comment_length opened l.text ≡ option_map (λ n. l.index + n) (comment_length (inside_view l.inside) (drop l.index l.text))) × (l.inside.depth ≤ l.index + 1)
