-- The numbers by which traps and misuses are known (this project's own choice).
use Rattle.std.specs.Prelude.{ℕ}
use Rattle.cm_machine_model.specs.declared.event.Trap.{Trap}
use Rattle.cm_machine_model.specs.declared.event.Trap.TheVariants as trap
use Rattle.cm_machine_model.specs.declared.event.Misuse.{Misuse}
use Rattle.cm_machine_model.specs.declared.event.Misuse.TheVariants as misuse

abbrev pub trap_number : Trap → ℕ
trap_number trap.CoreShape = 1
trap_number trap.Unreachable = 2
trap_number trap.GuestBounds = 3
trap_number trap.PointerBounds = 4
trap_number trap.Misaligned = 5
trap_number trap.BadChar = 6
trap_number trap.BadCase = 7
trap_number trap.BadText = 8
trap_number trap.TooLarge = 9
trap_number trap.NoHandle = 10
trap_number trap.WrongResource = 11
trap_number trap.StillLent = 12
trap_number trap.NotOwned = 13
trap_number trap.TableFull = 14
trap_number trap.BorrowsLeft = 15
trap_number trap.MayNotLeave = 16
trap_number trap.Overlap = 17
trap_number trap.StackFull = 18
trap_number trap.UnknownFunction = 19
trap_number trap.EngineMemory = 20
trap_number trap.CalleeClosed = 21

abbrev pub misuse_number : Misuse → ℕ
misuse_number misuse.Idle = 1
misuse_number misuse.Busy = 2
misuse_number misuse.Closed = 3
misuse_number misuse.NoInstance = 4
misuse_number misuse.BadPages = 5
misuse_number misuse.Memory = 6
