-- Laws of what Fault defines, for this crate and those above it.
use Rattle.std.proofs.Common.{Result, Ok, Err}
use Rattle.cm_handles.specs.declared.fault.HandleFault.{HandleFault}
use Rattle.cm_handles.specs.declared.handle.Handle.{Handle}

abbrev pub okay : Handle → Result Handle HandleFault
okay h = Ok h

abbrev pub failed : HandleFault → Result Handle HandleFault
failed e = Err e
