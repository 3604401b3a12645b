use Rattle.std.proofs.Common.{◌≡◌, drop}
use Rattle.cm_abi_programs.specs.Puts.{no_puts}
use Rattle.cm_abi_programs.specs.CodedPuts.{put_lists, puts_in}
use Rattle.cm_abi_programs.specs.PlacedFields.{puts_placed}
use Rattle.cm_abi_programs.proofs.listed_puts.placed_puts.Given as goal

-- with those of the fields to come, these are all
abbrev pub invariant-loop-index : goal.invariant-loop-index
invariant-loop-index l =
    puts_placed (drop l.index l.offsets) (put_lists (drop l.index l.lists)) (puts_in l.all.items) ≡ puts_placed l.offsets (put_lists l.lists) no_puts
