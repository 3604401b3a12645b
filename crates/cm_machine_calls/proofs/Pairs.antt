-- Two members of a list at once: one is taken out, the other is read, and the first is put back.
use Rattle.std.proofs.Common.{◌≡◌, ◌≢◌, ℕ, ◌<◌, List, length, sym, ap, ◌∙◌}
use Rattle.std.specs.Prelude.{slice_get, slice_set, unwrap_or}
use Rattle.std.proofs.lemmas.List.{set-get_or, get_or-set_other, get_or-set_same}
use Rattle.std.proofs.lemmas.Option.{unwrap_or-slice_get}

-- at another place stands what stood there
pub at_other : {X : Type 0} (xs : List X) (i j : ℕ) (x d : X) → j ≢ i → unwrap_or (slice_get (slice_set xs i x) j) d ≡ unwrap_or (slice_get xs j) d
at_other xs i j x d other = unwrap_or-slice_get (slice_set xs i x) j d ∙ get_or-set_other xs i j x d other ∙ sym (unwrap_or-slice_get xs j d)

pub at_same : {X : Type 0} (xs : List X) (i : ℕ) (x d : X) → i < length xs → unwrap_or (slice_get (slice_set xs i x) i) d ≡ x
at_same xs i x d lt = unwrap_or-slice_get (slice_set xs i x) i d ∙ get_or-set_same xs i x d lt

-- putting back what stood there changes nothing
pub set_back : {X : Type 0} (xs : List X) (i : ℕ) (d : X) → slice_set xs i (unwrap_or (slice_get xs i) d) ≡ xs
set_back xs i d = ap (slice_set xs i) (unwrap_or-slice_get xs i d) ∙ set-get_or xs i d
