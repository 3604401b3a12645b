use Rattle.std.proofs.Common.{◌≡◌, [], map}
use Rattle.cm_binary_grammar.specs.Whole.{state_after}
use Rattle.cm_types.specs.DefTypes.{def_type_tree}
use Rattle.cm_shims_plain.specs.Plain.{Items, def_step}
use Rattle.cm_shims_plain.specs.Spaces.{types_of}
use Rattle.cm_shims_plain.proofs.plain.defs.Given as goal

abbrev pub invariant-loop-def : goal.invariant-loop-def
invariant-loop-def l =
    let now : Items _ = record { types = types_of l.types; items = map def_type_tree l.copies.items } in
    let start : Items _ = record { types = types_of l.fn.types; items = [] } in
    now ≡ state_after def_step start (map def_type_tree l.yielded)
