use Rattle.std.proofs.Common.{◌∙◌, ap, subst, sym}
use Rattle.cm_abi_model.specs.Denotes.{Denotes}
use Rattle.cm_abi_model.specs.Requests.{CanStore, call_parts}
use Rattle.cm_abi_model.specs.Taken.{met}
use Rattle.cm_abi_model.specs.Taken as taken
use Rattle.cm_abi_model.specs.RecordRequests.{requests_for, tags_of}
use Rattle.cm_abi_model.specs.Telling.{TellAll}
use Rattle.cm_abi_model.specs.CallPlaces.{call_places}
use Rattle.cm_abi.proofs.CopiedLaws.{same_requests}
use Rattle.cm_abi.proofs.ScannedLaws.{handles_shared}
use Rattle.cm_abi.proofs.laws.one_copied_call.Goals as goal

pub returns-clause-copied : goal.returns-clause-copied
returns-clause-copied c = λ giver target way types slots v t s scans spellable stores.
    record {
      spellable = spellable;
      encoding = sym scans.source;
      stores = subst (λ e. CanStore e types) (sym scans.goes_to) stores;
      denoted = scans.lifts.1.denoted;
      starts = call_places giver way types slots v;
      told = subst (λ e. TellAll giver e s.parts.records (call_parts way types v) (call_places giver way types slots v)) (sym scans.goes_to) scans.tells;
      handles = scans.handles;
    }

pub returns-clause-asked : goal.returns-clause-asked
returns-clause-asked c = λ giver target way types slots v t s scans.
    ap (λ e. requests_for e s.parts.target s.parts.records) scans.source
    ∙ (ap (λ e. requests_for giver.encoding e s.parts.records) scans.goes_to
    ∙ (c.records_ask_for_parts.ensures.call giver target s.parts.records way types v (call_places giver way types slots v) scans.tells
    ∙ same_requests giver.encoding target (call_parts way types v) (tags_of s.parts.records) (taken.tags_of (met giver way types slots v)) scans.tagged))

pub returns-clause-same : goal.returns-clause-same
returns-clause-same c = λ giver receiver target way types given received v t s scans denoted u.
    let there = scans.lifts.1.denoted in
    let unique = c.denotations_are_unique.ensures.denoted in (
      λ x. subst (Denotes receiver way types received) (unique giver way types given v u there x) denoted,
      λ x. subst (Denotes giver way types given) (unique receiver way types received v u denoted x) there,
    )

pub returns-clause-shared : goal.returns-clause-shared
returns-clause-shared c = λ giver target way types given v t s bytes scans.
    let there = scans.lifts.1.denoted in
    handles_shared giver.table (met giver way types given v) types v s.owns s.lends (c.what_is_denoted_can_be_lowered.ensures.typed giver way types given v bytes there)
    (c.what_is_met_stands.ensures giver way types given v there) (c.handles_that_are_met_are_the_values.ensures.met giver way types given v there) scans.lifts.1.owns scans.lifts.1.lends
