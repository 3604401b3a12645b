-- The instances of one side of a world.
use Rattle.std.specs.Prelude.{ℕ, nat_lt, Bool, List, map, filter}
use Rattle.cm_wit_tables.specs.Worlds.{Instance}

-- the interfaces among what is imported or exported, where there are so many interfaces
abbrev pub interfaces_below : ℕ → List ℕ → List ℕ
interfaces_below count ns = filter (λ n. nat_lt n count) ns

-- these as instances
abbrev pub side_instances : Bool → ℕ → List ℕ → List Instance
side_instances exported count ns =
    map (λ n. record { exported = exported; interface = n }) (interfaces_below count ns)
