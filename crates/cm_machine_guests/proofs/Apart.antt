-- Regions that were given out one behind the other.
use Rattle.std.proofs.Common.{◌≡◌, ℕ, ◌+◌, inl, List, [], ◌∷◌, ap, arith}
use Rattle.std.specs.List.{AllByRecursion}
use Rattle.cm_machine_guests.specs.declared.bump.Bump.{Bump}
use Rattle.cm_machine_guests.specs.Regions.{Region, IsGiven, AreGiven, IsApart, AreApart, IsInside}

-- what is inside what is left is inside what was left before
inside_before : (old mid : Bump) (size align at : ℕ) → IsGiven old size align at mid → (rs : List Region) → AllByRecursion (λ r. IsInside mid r) rs → AllByRecursion (λ r. IsInside old r) rs
inside_before old mid size align at g [] h = tt
inside_before old mid size align at g (r ∷ rs) h =
    let next : mid.next ≡ at + size = ap (λ (b : Bump). b.next) g.next in
    let end : mid.end ≡ old.end = ap (λ (b : Bump). b.end) g.next in
    (record { behind = omega (arith, g.behind, h.0.behind, next); inside = omega (arith, h.0.inside, end); aligned = h.0.aligned }, inside_before old mid size align at g rs h.1)

pub all_inside : (old : Bump) (rs : List Region) (new : Bump) → AreGiven old rs new → AllByRecursion (λ r. IsInside old r) rs
all_inside old [] new h = tt
all_inside old (r ∷ rs) new h =
    (record { behind = h.1.behind; inside = h.1.inside; aligned = h.1.aligned }, inside_before old h.0 r.size r.align r.at h.1 rs (all_inside h.0 rs new h.2))

-- what is inside what is left then is behind this region
apart_behind : (old mid : Bump) (q : Region) → IsGiven old q.size q.align q.at mid → (rs : List Region) → AllByRecursion (λ r. IsInside mid r) rs → AllByRecursion (IsApart q) rs
apart_behind old mid q g [] h = tt
apart_behind old mid q g (r ∷ rs) h =
    let next : mid.next ≡ q.at + q.size = ap (λ (b : Bump). b.next) g.next in
    (inl (omega (arith, h.0.behind, next)), apart_behind old mid q g rs h.1)

pub all_apart : (old : Bump) (rs : List Region) (new : Bump) → AreGiven old rs new → AreApart rs
all_apart old [] new h = tt
all_apart old (r ∷ rs) new h = (apart_behind old h.0 r h.1 rs (all_inside h.0 rs new h.2), all_apart h.0 rs new h.2)
