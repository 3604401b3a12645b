use Rattle.std.proofs.Common.{◌≡◌, map, take}
use Rattle.std.specs.List.{sum_by}
use Rattle.cm_types.specs.DefTypes.{declaration_tree}
use Rattle.cm_binary_model.specs.Limits.{types_in_declaration}
use Rattle.cm_binary_model.specs.Measures.{saturate}
use Rattle.cm_binary_model.proofs.types.types_in_declarations.Given as goal

abbrev pub invariant-loop-declaration : goal.invariant-loop-declaration
invariant-loop-declaration l = l.total ≡ saturate (sum_by types_in_declaration (map declaration_tree (take l.declaration-index l.declarations)))
