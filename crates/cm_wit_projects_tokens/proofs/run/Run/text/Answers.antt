use Rattle.std.proofs.Common.{List, ℕ, take, sym, ap, subst, ◌∙◌}
use Rattle.std.specs.Str.{IsUtf8}
use Rattle.cm_wit_projects_tokens.proofs.RunLaws.{run_utf8}
use Rattle.cm_wit_projects_tokens.proofs.run.Run.text.Goals as goal

pub unreachable-requires : goal.unreachable-requires
unreachable-requires c = c.in-Err.ensures.cases.0 (subst (λ (text : List ℕ). IsUtf8 text) (sym (c.split_at.ensures.front ∙ ap (λ (n : ℕ). take n c.args.text.now) c.length.ensures.length)) (run_utf8 c.args.self c.args.text.now c.requires))
