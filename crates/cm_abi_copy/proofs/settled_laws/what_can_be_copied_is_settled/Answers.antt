use Rattle.cm_abi_copy.proofs.SettledLaws.{settled}
use Rattle.cm_abi_copy.proofs.settled_laws.what_can_be_copied_is_settled.Goals as goal

pub returns : goal.returns
returns c = λ n kinds giver f s answers types v bytes can.
    settled (record {
      typed = c.what_is_denoted_can_be_lowered.ensures.typed;
      counts = c.what_is_denoted_can_be_lowered.ensures.counted;
      placed = c.answers_place_parts.ensures.placed;
      apart = c.answers_place_parts.ensures.apart;
      asks = c.records_ask_for_parts.ensures.parts;
      regions = c.regions_of_records_are_those_of_parts.ensures;
      count = c.all_answers_place_parts.ensures.count;
      places = c.all_answers_place_parts.ensures.places;
      each = c.all_answers_place_parts.ensures.each;
    }) n kinds giver f s answers types v bytes can
