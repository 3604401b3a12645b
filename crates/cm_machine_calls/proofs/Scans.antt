-- What a scan promises is what the rules say of a lift.
use Rattle.std.proofs.Common.{◌≡◌, ℕ, List, Some, refl, sym, ap, ◌∙◌}
use Rattle.std.specs.Prelude.{slice_set}
use Rattle.cm_types.specs.declared.core_value.CoreValue.{CoreValue}
use Rattle.cm_types.specs.Values.{Val}
use Rattle.cm_handles.specs.Handles.{Handles}
use Rattle.cm_abi_model.specs.Answered.{all_requests}
use Rattle.cm_abi_model.specs.CallPlaces.{call_places}
use Rattle.cm_abi_model.specs.HandleLeaves.{owned_in}
use Rattle.cm_abi_model.specs.Requests.{requests}
use Rattle.cm_abi_model.specs.Scanned.{Scanned, ScansCall}
use Rattle.cm_abi_model.specs.Taken.{Met, after_met, met, tags_of as tags_met}
use Rattle.cm_abi_model.specs.declared.encoding.StringEncoding.{StringEncoding}
use Rattle.cm_abi_model.specs.Views.{View, Way}
use Rattle.cm_machine_model.specs.declared.frame.Place.{Place}
use Rattle.cm_machine_model.specs.declared.frame.Place.TheVariants as places
use Rattle.cm_machine_model.specs.Passages.{Carries, IsScanned}
use Rattle.cm_machine_model.specs.Plan.{Link, giver_side, receiver_side, types_of}
use Rattle.cm_machine_model.specs.State.{Passage, State, table_at, with_places}
use Rattle.cm_machine_model.specs.Step.{after_lift}
use Rattle.cm_machine_calls.specs.Lifting.{IsSeen, passage_in}
use Rattle.cm_machine_calls.proofs.HandingLaws.{RecordsAsk, all_are}
use Rattle.cm_abi_model.proofs.AnsweringLaws.{none_placed}

pub carried_is : (w : View) (l : Link) (way : Way) (slots : List CoreValue) (v : Val) (table : Handles) (s : Scanned) → w.encoding ≡ (giver_side l way).encoding
    → ScansCall w (receiver_side l way).encoding way (types_of l way) slots v table s → Carries w.memory l way (passage_in slots s) v
carried_is w l way slots v table s source scans = record {
  view = w;
  memory_is = refl;
  encoding_is = source;
  denoted = scans.lifts.1.denoted;
  handles = scans.handles;
  starts = call_places w way (types_of l way) slots v;
  told = scans.tells;
}

pub scanned_is : RecordsAsk → (w : View) (l : Link) (way : Way) (slots : List CoreValue) (table : Handles) (s : Scanned) → w.encoding ≡ (giver_side l way).encoding
    → (seen : IsSeen w l way slots table s) → IsScanned w l way slots seen.v (passage_in slots s)
scanned_is ask w l way slots table s source seen =
    let scans = seen.scans in
    let carried = carried_is w l way slots seen.v table s source scans in
    let target = (receiver_side l way).encoding in
    record {
      slots_are = refl;
      carried = carried;
      asks = sym (all_are ask w.memory l way slots s seen.v (scans.source ∙ source) scans.goes_to carried)
          ∙ seen.asks ∙ ap (λ (e : StringEncoding). requests way (types_of l way) seen.v e target (tags_met (met w way (types_of l way) slots seen.v))) source;
      none_placed = scans.unanswered.places ∙ none_placed (all_requests s.parts);
      none_answered = scans.unanswered.count;
      none_last = scans.unanswered.last;
    }

-- the state after a lift, but for the lends
pub lifted_same : (s : State) (giver place : ℕ) (ms : List Met) (p : Passage) (ts : List Handles) (os : List Place)
    → ts ≡ slice_set s.tables giver (after_met (table_at s.tables giver) ms) → os ≡ with_places (places.Travelling place) (owned_in p.leaves) s.owners
    → ◌≡◌ {A = State} (record s { tables = ts; owners = os; passage = Some p }) (record (after_lift s giver place ms p) { lends = s.lends })
lifted_same s giver place ms p ts os tables owners =
    ap {B = State} (λ (x : List Handles). record s { tables = x; owners = os; passage = Some p }) tables
    ∙ ap {B = State} (λ (x : List Place). record s { tables = slice_set s.tables giver (after_met (table_at s.tables giver) ms); owners = x; passage = Some p }) owners
