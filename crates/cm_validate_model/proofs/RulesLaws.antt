-- Laws of what Rules defines, for this crate and those above it.
use Rattle.std.proofs.Common.{List, ℕ, Bool, ◌≡◌, false, ap, ◌&&◌}
use Rattle.cm_lemmas.proofs.Lists.{none_is_seen}
use Rattle.cm_validate_model.proofs.SharedLaws.{rest_is_distinct}
use Rattle.cm_validate_model.specs.Rules.{are_distinct_texts}

-- before the first text none was seen
pub at_first : (has : List ℕ → Bool) (xs : List (List ℕ)) → ((q : List ℕ) → has q ≡ false) → rest_is_distinct has xs ≡ are_distinct_texts xs
at_first has xs none = ap (λ b. b && are_distinct_texts xs) (none_is_seen has xs none)
