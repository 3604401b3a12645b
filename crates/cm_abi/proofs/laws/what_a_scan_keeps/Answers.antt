use Rattle.std.proofs.Common.{◌≡◌, ◌∙◌, ap, arith, length, map, Some}
use Rattle.std.specs.Option.{option_map}
use Rattle.cm_handles.specs.Handles.{handle_at}
use Rattle.cm_abi_model.specs.Requests.{call_parts, tuple_of}
use Rattle.cm_abi_model.specs.Parts.{handle_count}
use Rattle.cm_abi_model.specs.Taken.{met}
use Rattle.cm_abi_model.specs.HandleLeaves.{borrowed_in, owned_in, stands_for}
use Rattle.cm_abi_model.specs.CallPlaces.{call_places}
use Rattle.cm_abi.proofs.CountLemmas.{handles_counted}
use Rattle.cm_abi.proofs.OwnedLaws.{owned_are_taken}
use Rattle.cm_abi.proofs.ScannedLaws.{borrowed_are_lent, parts_counted}
use Rattle.cm_abi.proofs.laws.what_a_scan_keeps.Goals as goal
use Rattle.cm_abi_model.proofs.TellingLaws.{as_many}

pub returns-clause-owned : goal.returns-clause-owned
returns-clause-owned c = λ giver target way types given v t s scans.
    owned_are_taken giver.table (met giver way types given v) s.owns scans.lifts.1.owns ∙ ap owned_in (c.handles_that_are_met_are_the_values.ensures.met giver way types given v scans.lifts.1.denoted)

pub returns-clause-borrowed : goal.returns-clause-borrowed
returns-clause-borrowed c = λ giver target way types given v t s scans.
    let there = scans.lifts.1.denoted in
    ap (map (λ index. option_map stands_for (handle_at giver.table index))) scans.lifts.1.lends
    ∙ (borrowed_are_lent giver.table (met giver way types given v) (c.what_is_met_stands.ensures giver way types given v there)
    ∙ ap (λ leaves. map Some (borrowed_in leaves)) (c.handles_that_are_met_are_the_values.ensures.met giver way types given v there))

pub returns-clause-kept : goal.returns-clause-kept
returns-clause-kept c = λ giver target way types given v t s bytes scans.
    let typed = c.what_is_denoted_can_be_lowered.ensures.typed giver way types given v bytes scans.lifts.1.denoted in
    let told = as_many giver target s.parts.records (call_parts way types v) (call_places giver way types given v) scans.tells in
    let handles : length s.handles ≡ handle_count v = ap length scans.handles ∙ handles_counted (tuple_of types) v typed in
    omega (arith, told, handles, parts_counted way types v typed)
