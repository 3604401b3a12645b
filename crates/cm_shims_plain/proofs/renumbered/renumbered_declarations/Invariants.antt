use Rattle.std.proofs.Common.{◌≡◌, map}
use Rattle.cm_types.specs.DefTypes.{declaration_tree}
use Rattle.cm_shims_plain.specs.Renumbered.{renumbered_declaration}
use Rattle.cm_shims_plain.specs.Spaces.{place, types_of}
use Rattle.cm_shims_plain.proofs.renumbered.renumbered_declarations.Given as goal

abbrev pub invariant-loop-declaration : goal.invariant-loop-declaration
invariant-loop-declaration l = map declaration_tree l.copies.items ≡ map (renumbered_declaration (place (types_of l.types))) (map declaration_tree l.yielded)
