use Rattle.cm_wit_graph.specs.Walks.{standing}
use Rattle.cm_wit_graph.proofs.StandLaws.{place_stands, place_goes, place_settled}
use Rattle.cm_wit_graph.proofs.walk.Walk.place.Goals as goal

pub returns-clause-stands : goal.returns-clause-stands
returns-clause-stands c = rw c.in_ok-push.ensures.items (place_stands (standing c.args.self.now) c.args.node c.requires.stands c.requires.node c.requires.met c.requires.unplaced)

pub returns-clause-goes : goal.returns-clause-goes
returns-clause-goes c = rw c.in_ok-push.ensures.items (place_goes (standing c.args.self.now) c.args.node c.requires.stands c.requires.node c.requires.met c.requires.unplaced)

pub returns-clause-settled : goal.returns-clause-settled
returns-clause-settled c = rw c.in_ok-push.ensures.items (place_settled (standing c.args.self.now) c.args.node c.requires.stands c.requires.node c.requires.met c.requires.unplaced)
