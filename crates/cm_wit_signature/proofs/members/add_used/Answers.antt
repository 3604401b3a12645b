use Rattle.std.proofs.Common.{arith, ℕ, ◌∷◌, List, map, ap, sym}
use Rattle.cm_wit_reading.specs.Trees.{UsedName}
use Rattle.cm_wit_reading.specs.Views.{used_name_tree}
use Rattle.cm_wit_tables.specs.Worlds.{used_as}
use Rattle.cm_wit_signature.specs.Fronts.{IsFronted}
use Rattle.cm_wit_signature.specs.Members as spec
use Rattle.cm_wit_signature.specs.MemberViews.{member_view}
use Rattle.cm_wit_signature.proofs.FrontLaws.{all_grown}
use Rattle.cm_wit_signature.proofs.ItemListLaws.{makes_grown}
use Rattle.cm_wit_signature.proofs.members.add_used.Goals as goal

pub loop-used-preserved : goal.loop-used-preserved
loop-used-preserved c = record {
  members = makes_grown used_name_tree (λ i. map (λ u. spec.used (used_as u))) member_view c.args.names.now c.loop-used.used-index c.args.out.now.items c.loop-used.out.items c.push.new.self.items c.used-item.result _ c.in_ok-push.ensures.items (omega arith) c.used-item.is (λ ys. ap (λ (n : List ℕ). spec.used n ∷ map (λ (u : UsedName). spec.used (used_as u)) ys) (sym c.used_as.ensures)) c.loop-used.invariant.members;
  fronted = λ fronts h. all_grown (IsFronted fronts) c.loop-used.out.items c.push.new.self.items _ c.in_ok-push.ensures.items (c.loop-used.invariant.fronted fronts h) tt;
}
