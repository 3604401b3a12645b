use Rattle.std.proofs.Common.{◌≡◌, map, drop}
use Rattle.std.specs.List.{list_all}
use Rattle.cm_names.specs.Listed.{listed}
use Rattle.cm_wit_tables.specs.DeclaredViews.{declaration_view}
use Rattle.cm_wit_tables.specs.Leading.{has_types}
use Rattle.cm_wit_tables.proofs.leading.each_has_types.Given as goal

abbrev pub invariant-loop-declaration : goal.invariant-loop-declaration
invariant-loop-declaration l = list_all (has_types (listed l.keys) l.marks) (map declaration_view (drop l.declaration-index l.declarations)) ≡ list_all (has_types (listed l.keys) l.marks) (map declaration_view l.declarations)
