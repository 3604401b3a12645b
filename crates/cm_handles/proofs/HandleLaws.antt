-- Laws of what Handle defines, for this crate and those above it.
use Rattle.std.proofs.Common.{◌≡◌, None, Some, Bool, true, false}
use Rattle.std.specs.Prelude.{if◌then◌else◌, Ok, Err}
use Rattle.cm_handles.proofs.FaultLaws.{failed, okay}
use Rattle.cm_handles.specs.declared.fault.HandleFault.{HandleFault}
use Rattle.cm_handles.specs.declared.fault.HandleFault.TheVariants as handle_fault
use Rattle.cm_handles.specs.declared.handle.Handle.{Handle}
use Rattle.cm_types.specs.Values.{HandleValue}
use Rattle.cm_types.specs.declared.resource.ResourceId.{ResourceId}

pub err_is_no_ok : (f : HandleFault) (h : Handle) → failed f ≡ okay h → ⊥
err_is_no_ok f h e = cc (e)

pub ok_in : (g h : Handle) → okay g ≡ okay h → g ≡ h
ok_in g h e = cc (e)

abbrev pub as_read : Handle → ResourceId → HandleValue
as_read h r = record { serial = h.serial; rep = h.rep; resource = r }

pub none_is : {a : Handle} → None ≡ Some a → ⊥
none_is e = cc

pub some_is : {a b : Handle} → Some a ≡ Some b → a ≡ b
some_is e = cc

pub lent_by : (b : Bool) (g h : Handle) → (if b then Ok g else Err handle_fault.StillLent) ≡ Ok h → g ≡ h
lent_by true g h e = ok_in g h e
lent_by false g h e = absurd (err_is_no_ok handle_fault.StillLent h e)

pub same_by : (b : Bool) (g h : Handle) → (if b then Ok g else Err handle_fault.WrongResource) ≡ Ok h → g ≡ h
same_by true g h e = ok_in g h e
same_by false g h e = absurd (err_is_no_ok handle_fault.WrongResource h e)
