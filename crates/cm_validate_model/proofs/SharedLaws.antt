-- Laws of what Shared defines, for this crate and those above it.
use Rattle.std.proofs.Common.{List, ◌++◌, ◌≡◌, ℕ, Bool, not, ◌&&◌}
use Rattle.std.specs.List.{list_all}
use Rattle.cm_validate_model.specs.Reasons.{least, lesser}
use Rattle.cm_validate_model.specs.Rules.{are_distinct_texts}
use Rattle.cm_validate_model.specs.declared.fault.ValidReason.{ValidReason}

-- the least of both lists is the lesser of what is least in each
abbrev pub LeastOfBoth : Type 0
LeastOfBoth = (qs rs : List ValidReason) → least (qs ++ rs) ≡ lesser (least qs) (least rs)

-- none of the texts to come is among those that were seen, and no two of them are equal
abbrev pub rest_is_distinct : (List ℕ → Bool) → List (List ℕ) → Bool
rest_is_distinct has xs = list_all (λ x. not (has x)) xs && are_distinct_texts xs
