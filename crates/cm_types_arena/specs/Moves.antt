-- The resources of an instance's type, as an import of such an instance counts them.
use Rattle.std.specs.Prelude.{ℕ, ◌+◌, ◌-◌, ◌||◌, nat_le, nat_lt, if◌then◌else◌}
use Rattle.cm_types.specs.declared.resource.ResourceId.{ResourceId}

-- so many resources from the number `first` on are counted from `next` on, and others stay
abbrev pub moved : ℕ → ℕ → ℕ → ResourceId → ResourceId
moved first count next r =
    if nat_lt r.number first || nat_le (first + count) r.number then r
    else record { component = r.component; number = r.number - first + next }
