-- Laws of what Parts defines, for this crate and those above it.
use Rattle.std.proofs.Common.{List, length, ◌≡◌, refl, arith, length-append}
use Rattle.cm_abi_model.specs.Parts.{Part, part_count, parts_each, part_count_each}
use Rattle.cm_types.specs.Values.{Val, Vals, AllVals, no_vals, val}

pub each_counted : (P : Val → List Part) (Q : Val → Type 0) (vs : Vals) → ((v : Val) → Q v → length (P v) ≡ part_count v) → AllVals Q vs → length (parts_each P vs) ≡ part_count_each vs
each_counted P Q no_vals one all = refl
each_counted P Q (val v vs) one all = omega (arith, length-append (P v) (parts_each P vs), one v all.0, each_counted P Q vs one all.1)
