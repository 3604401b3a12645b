use Rattle.std.proofs.Common.{map}
use Rattle.cm_wit_reading.specs.Views.{used_name_tree}
use Rattle.cm_wit_tables.specs.DeclaredViews.{declaration_view}
use Rattle.cm_wit_tables.specs.InstanceKeys.{brought_from}
use Rattle.cm_wit_tables.proofs.world_declarations.add_used.Given as goal
use Rattle.cm_lemmas.proofs.Lists.{Makes}

abbrev pub invariant-loop-used : goal.invariant-loop-used
invariant-loop-used l = Makes used_name_tree (λ i. map (brought_from l.list l.from)) declaration_view l.names l.used-index l.initial.out.items l.out.items
