use Rattle.std.proofs.Common.{◌∙◌, sym, ap, subst}
use Rattle.std.specs.Str.{IsCharBoundary}
use Rattle.cm_wit_tokens.specs.Runs.{run_length}
use Rattle.cm_wit_tokens.proofs.BoundaryLaws.{behind_run}
use Rattle.cm_wit_tokens.proofs.run.Run.text.Goals as goal

pub split_at-requires : goal.split_at-requires
split_at-requires c = subst (IsCharBoundary c.args.text.now) (sym (c.length.ensures.length ∙ ap (run_length c.args.self) c.as_bytes.ensures.value)) (behind_run c.args.self c.args.text.now c.requires c.utf8.text)
