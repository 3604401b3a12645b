-- The faults of a host's calls (this project's own choice).
use Rattle.std.specs.Prelude.{ℕ, ⊤}
use Rattle.cm_host.specs.declared.fault.CallFault.{CallFault}
use Rattle.cm_host.specs.declared.fault.CallFault.TheVariants as call
use Rattle.cm_host.specs.declared.fault.SeatFault.{SeatFault}
use Rattle.cm_host.specs.declared.fault.SeatFault.TheVariants as seat

-- the numbers of the faults of seats
abbrev pub seat_fault_number : SeatFault → ℕ
seat_fault_number seat.NoComponent = 1
seat_fault_number seat.NoFunction = 2
seat_fault_number seat.NotUtf8 = 3
seat_fault_number seat.Memory = 4

-- the numbers of the faults of calls
abbrev pub call_fault_number : CallFault → ℕ
call_fault_number call.NoFunction = 1
call_fault_number call.NotUtf8 = 2
call_fault_number (call.Arguments f) = 3
call_fault_number (call.Misuse m) = 4
call_fault_number (call.Trapped t) = 5
call_fault_number call.Limit = 6
call_fault_number (call.Results f) = 7
call_fault_number call.Memory = 8

-- what a fault of a seat is where a function is called
abbrev pub call_fault_of : SeatFault → CallFault
call_fault_of seat.NoComponent = call.NoFunction
call_fault_of seat.NoFunction = call.NoFunction
call_fault_of seat.NotUtf8 = call.NotUtf8
call_fault_of seat.Memory = call.Memory

-- the fault comes before the call is made
abbrev pub IsBefore : CallFault → Type 0
IsBefore call.NoFunction = ⊤
IsBefore call.NotUtf8 = ⊤
IsBefore (call.Arguments f) = ⊤
IsBefore f = ⊥

-- the fault may come before the call is made: it is one of those, or want of memory
abbrev pub MayBeBefore : CallFault → Type 0
MayBeBefore call.Memory = ⊤
MayBeBefore f = IsBefore f
