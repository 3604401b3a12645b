use Rattle.std.proofs.Common.{◌≡◌, [], map}
use Rattle.cm_binary_grammar.specs.Whole.{state_after}
use Rattle.cm_binary_model.specs.Trees.{alias_tree}
use Rattle.cm_shims_plain.specs.Plain.{Items, alias_step}
use Rattle.cm_shims_plain.specs.Spaces.{types_of}
use Rattle.cm_shims_plain.proofs.plain.aliases.Given as goal

abbrev pub invariant-loop-alias : goal.invariant-loop-alias
invariant-loop-alias l =
    let now : Items _ = record { types = types_of l.types; items = map alias_tree l.copies.items } in
    let start : Items _ = record { types = types_of l.fn.types; items = [] } in
    now ≡ state_after alias_step start (map alias_tree l.yielded)
