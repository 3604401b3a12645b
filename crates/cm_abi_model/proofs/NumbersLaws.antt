-- Laws of what Numbers defines, for this crate and those above it.
use Rattle.std.proofs.Common.{List, ℕ, drop, ◌≡◌, ◌+◌, ap, ◌%◌, ◌^◌}
use Rattle.std.proofs.lemmas.List.{get_or-drop}
use Rattle.cm_abi_model.specs.Numbers.{wrapped_at, slot_number}
use Rattle.cm_types.specs.declared.core_value.CoreValue.{CoreValue}
use Rattle.cm_types.specs.declared.core_value.CoreValue.TheVariants as core_value

pub at_second : (s : List CoreValue) (k : ℕ) → wrapped_at 4 (drop k s) 1 ≡ wrapped_at 4 s (k + 1)
at_second s k = ap (λ v. slot_number v % 2 ^ 32) (get_or-drop k s 1 (core_value.I32 0))
