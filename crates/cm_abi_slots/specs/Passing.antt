-- Core values that are numbers alone, passed at once (CanonicalABI.md, "Flat Lifting" and "Flat
-- Lowering").
use Rattle.std.specs.Prelude.{◌≡◌, ℕ, ◌%◌, ◌^◌, ◌==◌, ◌<◌, not, ⊤, if◌then◌else◌, List, []}
use Rattle.cm_types.specs.declared.core_value.CoreValue.{CoreValue}
use Rattle.cm_types.specs.declared.core_value.CoreValue.TheVariants as core_value
use Rattle.cm_types.specs.Types.{Fields}
use Rattle.cm_types.specs.Values.{Val, IsScalarValue}
use Rattle.cm_abi_model.specs.Denotes.{Denotes}
use Rattle.cm_abi_model.specs.Numbers.{as_signed}
use Rattle.cm_abi_model.specs.Receives.{Receives}
use Rattle.cm_abi_model.specs.Requests.{call_parts, stored_charset}
use Rattle.cm_abi_model.specs.Stores.{Given, from_signed}
use Rattle.cm_abi_model.specs.Taken.{met}
use Rattle.cm_abi_model.specs.Views.{View, Way}
use Rattle.cm_abi_slots.specs.declared.steps.SlotStep.{SlotStep}
use Rattle.cm_abi_slots.specs.declared.steps.SlotStep.TheVariants as step

-- what a number of 32 bits becomes by a step
abbrev pub number_by : SlotStep → ℕ → ℕ
number_by step.Keep n = n
number_by step.Truth n = if not (n == 0) then 1 else 0
number_by step.Low8 n = n % 2 ^ 8
number_by step.Low16 n = n % 2 ^ 16
number_by step.Signed8 n = from_signed 4 (as_signed 1 (n % 2 ^ 8))
number_by step.Signed16 n = from_signed 4 (as_signed 2 (n % 2 ^ 16))
number_by (step.Flags labels) n = n % 2 ^ labels
number_by step.Char n = n

-- what a core value becomes by a step; one of 64 bits stays
abbrev pub passed_by : SlotStep → CoreValue → CoreValue
passed_by p (core_value.I32 n) = core_value.I32 (number_by p n)
passed_by p (core_value.I64 n) = core_value.I64 n

-- a core value is not at fault: it is a Unicode scalar where it has to be one
abbrev pub IsFine : SlotStep → CoreValue → Type 0
IsFine step.Char (core_value.I32 n) = IsScalarValue n
IsFine p s = ⊤

-- a core value has as many bits as its kind
abbrev pub FitsKind : CoreValue → Type 0
FitsKind (core_value.I32 n) = n < 2 ^ 32
FitsKind (core_value.I64 n) = n < 2 ^ 64

-- A call of numbers is lifting and lowering of its slots: the core values denote this value, which
-- has no handle and no part; and whoever receives it, and whatever it is given, these core values
-- are the least that denote the value there.
pub record PassesNumbers (w : View) (way : Way) (types : Fields) (slots passed : List CoreValue)
    (v : Val) : Type 0 where
  pub denoted : Denotes w way types slots v
  pub nothing_met : met w way types slots v ≡ []
  pub no_part : call_parts way types v ≡ []
  pub received : (to : View) (g : Given) → g.charset ≡ stored_charset to.encoding
      → Receives to way types passed g v
