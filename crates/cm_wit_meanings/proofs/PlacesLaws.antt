-- Laws of what Places defines, for this crate and those above it.
use Rattle.std.proofs.Common.{List, ℕ, ◌<◌, length, ◌≡◌, ap, ◌∙◌}
use Rattle.std.proofs.lemmas.List.{get_or_append_left}
use Rattle.std.specs.Prelude.{None}
use Rattle.cm_types.specs.Types.{FuncTy, no_fields}
use Rattle.cm_types_arena.specs.TypeDefs.{func_at}
use Rattle.cm_wit_meanings.specs.Places.{Extends}

pub func_kept : (old new : List FuncTy) (p : ℕ) → Extends old new → p < length old → func_at new p ≡ func_at old p
func_kept old new p e lt = ap (λ (ts : List FuncTy). func_at ts p) e.1 ∙ get_or_append_left old e.0 (record { params = no_fields; result = None }) p lt
