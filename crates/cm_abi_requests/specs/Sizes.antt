-- The sizes that are asked for a part, as the code has them.
use Rattle.std.specs.Prelude.{ℕ, List, [], ◌∷◌}
use Rattle.cm_abi_requests.specs.declared.sizes.Sizes.{Sizes}
use Rattle.cm_abi_requests.specs.declared.sizes.Sizes.TheVariants as sizes

-- the sizes that are asked for one after another, as a list
abbrev pub sizes_seen : Sizes → List ℕ
sizes_seen (sizes.One a) = a ∷ []
sizes_seen (sizes.Two a b) = a ∷ b ∷ []
sizes_seen (sizes.Three a b c) = a ∷ b ∷ c ∷ []
