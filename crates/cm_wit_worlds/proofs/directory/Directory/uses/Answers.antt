use Rattle.std.proofs.Common.{map, List, Option, ℕ, sym, ap, ◌∷◌}
use Rattle.cm_wit_worlds.specs.Interfaces.{use_targets}
use Rattle.cm_wit_worlds.specs.InterfaceViews.{files_of, placed_interface}
use Rattle.cm_wit_worlds.proofs.KeyingLaws.{rests_push}
use Rattle.cm_wit_worlds.proofs.directory.Directory.uses.Goals as goal

pub loop-placed-preserved : goal.loop-placed-preserved
loop-placed-preserved c =
    rw c.in_ok-push.ensures.items (rests_push placed_interface (map (use_targets (files_of c.args.self.now.files.items))) (λ r. r.items) c.args.interfaces.now c.loop-placed.placed-index c.loop-placed.uses.items c.placed-item.result c.in_ok-use_targets.field-0 c.loop-placed-test.true c.placed-item.is (λ ys. ap (λ (l : List (Option ℕ)). l ∷ map (use_targets (files_of c.args.self.now.files.items)) ys) (sym c.in_ok-use_targets.ensures)) c.loop-placed.invariant)
