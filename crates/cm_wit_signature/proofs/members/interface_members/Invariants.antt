use Rattle.std.proofs.Common.{[]}
use Rattle.std.specs.List.{flat_map}
use Rattle.cm_wit_reading.specs.Views.{interface_item_tree}
use Rattle.cm_wit_signature.specs.Fronts.{AreFronted}
use Rattle.cm_wit_signature.specs.Members.{members_of}
use Rattle.cm_wit_signature.specs.MemberViews.{member_view}
use Rattle.cm_wit_signature.proofs.members.interface_members.Given as goal
use Rattle.cm_lemmas.proofs.Lists.{Makes}

abbrev pub invariant-loop-item : goal.invariant-loop-item
invariant-loop-item l = record {
  members : Makes interface_item_tree (λ i. flat_map members_of) member_view l.interface.items.items l.item-index [] l.out.list.items;
  fronted : AreFronted l.out.fronts.items l.out.list.items;
}
