use Rattle.std.proofs.Common.{List, map}
use Rattle.std.specs.List.{AllByRecursion}
use Rattle.cm_types_arena.specs.declared.names.Front.{Front}
use Rattle.cm_wit_reading.specs.Views.{used_name_tree}
use Rattle.cm_wit_tables.specs.Worlds.{used_as}
use Rattle.cm_wit_signature.specs.Fronts.{IsFronted}
use Rattle.cm_wit_signature.specs.Members as spec
use Rattle.cm_wit_signature.specs.MemberViews.{member_view}
use Rattle.cm_wit_signature.proofs.members.add_used.Given as goal
use Rattle.cm_lemmas.proofs.Lists.{Makes}

abbrev pub invariant-loop-used : goal.invariant-loop-used
invariant-loop-used l = record {
  members : Makes used_name_tree (λ i. map (λ u. spec.used (used_as u))) member_view l.names l.used-index l.initial.out.items l.out.items;
  fronted : (fronts : List Front) → AllByRecursion (IsFronted fronts) l.initial.out.items → AllByRecursion (IsFronted fronts) l.out.items;
}
