use Rattle.std.proofs.Common.{◌∙◌, ap, subst}
use Rattle.cm_abi_model.specs.Denotes.{Denotes}
use Rattle.cm_abi_model.specs.Ways.{way_of}
use Rattle.cm_abi.specs.Lowers.{tuple_in}
use Rattle.cm_abi_model.specs.Taken.{met}
use Rattle.cm_abi_model.specs.HandleLeaves.{owned_in}
use Rattle.cm_abi.proofs.OwnedLaws.{owned_are_taken}
use Rattle.cm_abi.proofs.laws.one_call.Goals as goal

pub returns-clause-lowerable : goal.returns-clause-lowerable
returns-clause-lowerable c = λ giver types given h p bytes lifts on.
    let way = way_of p.way in
    let content = c.content_of_what_is_denoted.ensures.tagged giver way types given (tuple_in p) lifts.denoted in
    let spelled = c.what_is_denoted_can_be_lowered.ensures.tagged giver way types given (tuple_in p) lifts.denoted in
    record {
      layout = on.layout;
      kinds = on.kinds;
      typed = c.what_is_denoted_can_be_lowered.ensures.typed giver way types given (tuple_in p) bytes lifts.denoted;
      spellable = on.spellable;
      stores = on.stores;
      spelled = λ _. rw (on.source, lifts.tagged) spelled;
      small = rw (on.source, lifts.tagged, content) lifts.transferable.small;
    }

pub returns-clause-same : goal.returns-clause-same
returns-clause-same c = λ giver receiver types given received h p lifts denoted v.
    let way = way_of p.way in
    let unique = c.denotations_are_unique.ensures.denoted in (
      λ there. subst (Denotes receiver way types received) (unique giver way types given (tuple_in p) v lifts.denoted there) denoted,
      λ here. subst (Denotes giver way types given) (unique receiver way types received (tuple_in p) v denoted here) lifts.denoted,
    )

pub returns-clause-owned : goal.returns-clause-owned
returns-clause-owned c = λ giver way types given v tags h lifts.
    owned_are_taken giver.table (met giver way types given v) h.owns lifts.owns ∙ ap owned_in (c.handles_that_are_met_are_the_values.ensures.met giver way types given v lifts.denoted)
