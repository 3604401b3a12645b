-- Laws of what Memories defines, for this crate and those above it.
use Rattle.std.proofs.Common.{List, ℕ, ◌<◌, length, ◌≡◌, ap, []}
use Rattle.std.specs.Prelude.{slice_set, unwrap_or}
use Rattle.cm_lemmas.proofs.Lists.{get_set_same}
use Rattle.cm_machine_model.specs.Memories.{memory_at}

pub memory_set : (ms : List (List ℕ)) (i : ℕ) (m : List ℕ) → i < length ms → memory_at (slice_set ms i m) i ≡ m
memory_set ms i m lt = ap (λ o. unwrap_or o []) (get_set_same ms i m lt)
