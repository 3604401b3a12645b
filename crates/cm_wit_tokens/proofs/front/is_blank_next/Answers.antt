use Rattle.std.proofs.Common.{◌∙◌, sym, ap, false}
use Rattle.cm_wit_tokens.specs.Tokens.{front}
use Rattle.cm_wit_tokens.proofs.BoundaryLaws.{gap_ends}
use Rattle.cm_wit_tokens.proofs.front.is_blank_next.Goals as goal

pub returns-clause-boundary : goal.returns-clause-boundary
returns-clause-boundary c = λ is. gap_ends false c.args.text.now 1 c.utf8.text (sym (ap front c.as_bytes.ensures.value) ∙ c.begins_with_blank.ensures is)
