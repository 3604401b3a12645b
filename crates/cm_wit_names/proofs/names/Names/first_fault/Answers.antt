use Rattle.std.proofs.Common.{map}
use Rattle.cm_wit_names.specs.MentionViews.{mention_view}
use Rattle.cm_wit_names.proofs.FaultLaws.{cycle_of}
use Rattle.cm_wit_names.proofs.names.Names.first_fault.Goals as goal

pub returns : goal.returns
returns c =
    let ms = map mention_view c.args.self.now.mentions.items in
    (c.first_of.ensures ms (record {
      borrow = c.in_ok-borrow.ensures;
      duplicate = c.in_ok-duplicate.ensures;
      unknown = c.in_ok-unknown.ensures;
      cycle = cycle_of ms c.in_ok-graph.graph.edges c.in_ok-cycle.cycle c.in_ok-graph.ensures.edges c.in_ok-cycle.ensures;
    })).is
