-- An empty table numbers nothing.
use Rattle.std.proofs.Common.{◌≡◌, ℕ, List, None, refl, subst, sym}
use Rattle.std.specs.Map.{lookup}
use Rattle.std.specs.Ordering.{is_eq}
use Rattle.std.specs.BTreeMap.{BTreeMap, IsEmpty, get}
use Rattle.cm_types_numbers.specs.declared.key.Key.{Key}
use Rattle.cm_types_numbers.specs.Tables.{key_order}

pub no_node : (m : BTreeMap Key ℕ) → IsEmpty m → (k : Key) → get key_order m k ≡ None
no_node m empty k = subst (λ (es : List (Key × ℕ)). lookup (λ q. is_eq (key_order k q)) es ≡ None) (sym empty) refl
