use Rattle.std.proofs.Common.{◌≡◌, ◌++◌, List, length, map}
use Rattle.std.specs.List.{AllByRecursion}
use Rattle.cm_types_arena.specs.declared.names.Front.{Front}
use Rattle.cm_wit_reading.specs.Views.{resource_func_tree}
use Rattle.cm_wit_signature.specs.Fronts.{IsFronted, resource_fronts}
use Rattle.cm_wit_signature.specs.Members as spec
use Rattle.cm_wit_signature.specs.MemberViews.{member_view}
use Rattle.cm_wit_signature.proofs.members.add_funcs.Given as goal
use Rattle.cm_lemmas.proofs.Lists.{Makes}

abbrev pub invariant-loop-func : goal.invariant-loop-func
invariant-loop-func l = record {
  members : Makes resource_func_tree (λ i. map (spec.of_resource l.resource)) member_view l.funcs l.func-index l.initial.out.items l.out.items;
  fronted : (before : List Front) → length before ≡ l.first → AllByRecursion (IsFronted (before ++ resource_fronts l.resource)) l.initial.out.items → AllByRecursion (IsFronted (before ++ resource_fronts l.resource)) l.out.items;
}
