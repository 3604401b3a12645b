use Rattle.std.proofs.Common.{◌≡◌, take}
use Rattle.cm_types_arena.specs.declared.types.Types.{Types}
use Rattle.cm_wit_conforms.specs.Places.{extern_names}
use Rattle.cm_hux_diff.proofs.names.names_of.Given as goal

abbrev pub invariant-loop-place : goal.invariant-loop-place
invariant-loop-place l = (t : Types) → l.names.items ≡ take l.place (extern_names t l.externs)
