-- Checks that read no more than core values and a frame.
use Rattle.std.specs.Prelude.{◌≡◌, ℕ, List, Option, Some, None}
use Rattle.cm_types.specs.declared.core_value.CoreValue.{CoreValue}
use Rattle.cm_abi_model.specs.Numbers.{slot_at}
use Rattle.cm_machine_model.specs.Step.{AreOf, one_i32}

-- the core values are one number of 32 bits, this one; or they are not
abbrev pub IsOneI32 : List CoreValue → Option ℕ → Type 0
IsOneI32 values (Some n) = AreOf one_i32 values × (n ≡ slot_at values 0)
IsOneI32 values None = AreOf one_i32 values → ⊥
