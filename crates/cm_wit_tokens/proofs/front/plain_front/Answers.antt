use Rattle.std.proofs.Common.{List, ℕ, subst, arith}
use Rattle.std.specs.Str.{IsCharBoundary}
use Rattle.cm_wit_tokens.proofs.BoundaryLaws.{first_ends}
use Rattle.cm_wit_tokens.proofs.front.plain_front.Goals as goal

pub behind_first-requires : goal.behind_first-requires
behind_first-requires c = subst (λ (text : List ℕ). IsCharBoundary text 1) c.as_bytes.ensures.value (first_ends c.as_bytes.result.now c.as_bytes.ensures.utf8 (omega (arith, c.in-len1-up.len_at_least)) (omega (arith, c.in-37.is)))
