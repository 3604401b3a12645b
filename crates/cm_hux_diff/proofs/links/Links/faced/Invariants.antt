use Rattle.std.proofs.Common.{◌≡◌, ℕ, map, take}
use Rattle.std.specs.BTreeSet.{contains}
use Rattle.std.specs.List.{list_any}
use Rattle.std.specs.Ordering.{nat_cmp}
use Rattle.cm_hux_diff.specs.Facing.{best_face, is_at}
use Rattle.cm_hux_diff.proofs.links.Links.faced.Given as goal

abbrev pub invariant-loop-name : goal.invariant-loop-name
invariant-loop-name l = (n : ℕ) → contains nat_cmp l.places n ≡ list_any (is_at n) (map (best_face l.self.offers.names.items) (take l.name-index l.self.exports.names.items))
