-- What is wrong with a call, in numbers (this project's own choice).
use Rattle.cm_abi_model.specs.Faults.{abi_fault_number}
use Rattle.cm_handles.specs.Faults.{handle_fault_number}
use Rattle.huxarte_c_calls.specs.declared.fault.CallFault.{CallFault}
use Rattle.huxarte_c_calls.specs.declared.fault.CallFault.TheVariants as fault
use Rattle.huxarte_c_calls.specs.declared.kinds.HuxKind.TheVariants as kind
use Rattle.huxarte_c_calls.specs.declared.verdicts.HuxVerdict.{HuxVerdict}
use Rattle.huxarte_c_calls.specs.Verdicts.{at_item, of_kind}

-- what is wrong with a call
abbrev pub of_call : CallFault → HuxVerdict
of_call fault.NoEncoding = of_kind kind.NoEncoding
of_call fault.NoSlots = of_kind kind.NoSlots
of_call fault.TooLarge = of_kind kind.TooLarge
of_call (fault.Value f) = at_item kind.Value (abi_fault_number f) 0 0 0
of_call (fault.Handles f) = at_item kind.Handles (handle_fault_number f) 0 0 0
of_call (fault.Answer k f) = at_item kind.Answer (abi_fault_number f) 0 k 0
of_call (fault.Answers n) = at_item kind.Answers 0 0 n 0
of_call fault.Memory = of_kind kind.Memory
