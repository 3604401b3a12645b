use Rattle.std.proofs.Common.{◌≡◌, length, take}
use Rattle.cm_machine_model.proofs.flat.put_few.Given as goal

abbrev pub invariant-loop-place : goal.invariant-loop-place
invariant-loop-place l = (take l.place l.values.xs ≡ take l.place l.slice)
    × (length l.values.xs ≡ length l.initial.values.xs)
