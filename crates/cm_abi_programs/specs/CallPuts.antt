-- What has to be written of what a call passes (CanonicalABI.md, "Lifting and Lowering Values").
use Rattle.std.specs.Prelude.{ℕ, nat_lt, if◌then◌else◌}
use Rattle.cm_layout.specs.Shapes.{LayoutTy}
use Rattle.cm_abi_programs.specs.CodedPuts.{puts_in}
use Rattle.cm_abi_programs.specs.CodedSlots.{slots_in}
use Rattle.cm_abi_programs.specs.Puts.{Puts, puts_of}
use Rattle.cm_abi_programs.specs.SlotPuts.{SlotPuts, flat_puts_of}
use Rattle.cm_abi_programs.specs.declared.call_puts.CallPuts.{CallPuts as CodedPuts}
use Rattle.cm_abi_programs.specs.declared.call_puts.CallPuts.TheVariants as coded

-- it is written as the bytes of a tuple behind a pointer, or into core values
pub data CallPuts : Type 0 where
  stored : Puts → CallPuts
  flat : SlotPuts → CallPuts

-- what is written of what passes in at most so many core values, or else behind a pointer
abbrev pub call_puts_of : ℕ → LayoutTy → CallPuts
call_puts_of limit l =
    if nat_lt limit l.head.width then stored (puts_of l.shape) else flat (flat_puts_of l.shape)

-- the puts that the code's are
abbrev pub call_puts_in : CodedPuts → CallPuts
call_puts_in (coded.Stored cs) = stored (puts_in cs.items)
call_puts_in (coded.Flat cs) = flat (slots_in cs.items)
