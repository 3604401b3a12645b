-- What holds of a link, of its sides and of what goes over it.
use Rattle.std.proofs.Common.{◌≡◌, ◌≢◌, ℕ, ◌<◌, ◌≤◌, true, List, length, None, refl, sym, ap, subst, ◌∙◌, arith}
use Rattle.std.specs.Prelude.{option_map, slice_get, slice_set}
use Rattle.cm_types.specs.declared.core_value.CoreKind.{CoreKind}
use Rattle.cm_types.specs.declared.core_value.CoreValue.{CoreValue}
use Rattle.cm_types.specs.Spellable.{are_spellable}
use Rattle.cm_types.specs.Values.{Val}
use Rattle.cm_handles.specs.Handles.{Handles}
use Rattle.cm_layout.specs.Layouts.{layout_of}
use Rattle.cm_layout.specs.Shapes.{layout_of_fields_at}
use Rattle.cm_abi_lift.specs.declared.passed.Passed.{Passed}
use Rattle.cm_abi_model.specs.Answered.{all_requests, next_of, with_old}
use Rattle.cm_abi_model.specs.Answering.{first_fault, places_of}
use Rattle.cm_abi_model.specs.Denotes.{Denotes}
use Rattle.cm_abi_model.specs.Giving.{after_given, numbers_given}
use Rattle.cm_abi_model.specs.Receives.{call_kinds}
use Rattle.cm_abi_model.specs.Requests.{CanStore, call_parts}
use Rattle.cm_abi_model.specs.Telling.{TellAll}
use Rattle.cm_abi_model.specs.Views.{Way, params, results}
use Rattle.cm_abi_model.specs.Ways.{way_of}
use Rattle.cm_abi_model.specs.declared.encoding.StringEncoding.{StringEncoding}
use Rattle.cm_abi_model.specs.declared.receiver.Receiver.{Receiver}
use Rattle.cm_abi_model.specs.declared.request.Request.{Request}
use Rattle.cm_machine_model.specs.Memories.{memory_at}
use Rattle.cm_machine_model.specs.declared.frame.Call.{Call}
use Rattle.cm_machine_model.specs.declared.frame.Place.{Place}
use Rattle.cm_machine_model.specs.Passages.{asked_for}
use Rattle.cm_machine_model.specs.Plan.{Link, Plan, receiver_side, types_of}
use Rattle.cm_machine_model.specs.Plans.{IsLink}
use Rattle.cm_machine_model.specs.State.{Passage, State, table_at}
use Rattle.cm_machine_model.specs.Step.{after_handing, giver_of, owners_given, receiver_of}
use Rattle.cm_machine_parts.specs.declared.state.State.{State as CodedState}
use Rattle.cm_machine_calls.specs.Going.{CanHand, passage_now}
use Rattle.cm_machine_calls.specs.Handing.{CanCopy}
use Rattle.cm_machine_calls.proofs.HandingLaws.{RecordsAsk, all_are}

-- ---- links

pub spellable : (plan : Plan) (i : ℕ) (l : Link) (way : Way) → IsLink plan i l → are_spellable (types_of l way) ≡ true
spellable plan i l params link = link.params_spellable
spellable plan i l results link = link.results_spellable

pub stored : (plan : Plan) (i : ℕ) (l : Link) (way : Way) → IsLink plan i l → CanStore (receiver_side l way).encoding (types_of l way)
stored plan i l params link = link.params_stored
stored plan i l results link = link.results_stored

pub sides_apart : (plan : Plan) (l : Link) (way : Way) (call : Call) (place : ℕ) → IsLink plan call.caller l → giver_of way l call ≢ (receiver_of way place l call).instance
sides_apart plan l params call place link = λ e. omega (arith, link.earlier, e)
sides_apart plan l results call place link = λ e. omega (arith, link.earlier, e)

pub giver_there : (plan : Plan) (l : Link) (way : Way) (call : Call) → IsLink plan call.caller l → call.caller < length plan → giver_of way l call < length plan
giver_there plan l params call link there = there
giver_there plan l results call link there = omega (arith, link.earlier, there)

pub receiver_there : (plan : Plan) (l : Link) (way : Way) (call : Call) (place : ℕ) → IsLink plan call.caller l → call.caller < length plan
    → (receiver_of way place l call).instance < length plan
receiver_there plan l params call place link there = omega (arith, link.earlier, there)
receiver_there plan l results call place link there = there

pub receiver_place : (way : Way) (place : ℕ) (l : Link) (call : Call) → (receiver_of way place l call).call ≡ place
receiver_place params place l call = refl
receiver_place results place l call = refl

-- ---- kinds

-- ---- handing over

none_next : (rs : List Request) (answers : List ℕ) → slice_get rs (length answers) ≡ None → next_of rs answers ≡ None
none_next rs answers is = ap (option_map (with_old answers)) is

pub handed_same : (s : State) (to : Receiver) (p : Passage) (memory : List ℕ) (ms : List (List ℕ)) (ts : List Handles) (os : List Place)
    → ms ≡ slice_set s.memories to.instance memory → ts ≡ slice_set s.tables to.instance (after_given to (table_at s.tables to.instance) p.leaves)
    → os ≡ owners_given to.instance p.leaves (numbers_given to (table_at s.tables to.instance) p.leaves) s.owners
    → ◌≡◌ {A = State} (record s { memories = ms; tables = ts; owners = os; passage = None }) (after_handing s to p memory)
handed_same s to p memory ms ts os memories tables owners =
    ap {B = State} (λ (x : List (List ℕ)). record s { memories = x; tables = ts; owners = os; passage = None }) memories
    ∙ ap {B = State} (λ (x : List Handles). record s { memories = slice_set s.memories to.instance memory; tables = x; owners = os; passage = None }) tables
    ∙ ap {B = State} (λ (x : List Place). record s {
      memories = slice_set s.memories to.instance memory;
      tables = slice_set s.tables to.instance (after_given to (table_at s.tables to.instance) p.leaves);
      owners = x;
      passage = None;
    }) owners

pub can_copy : RecordsAsk → (plan : Plan) (s : CodedState) (l : Link) (passed : Passed) (call : Call) (v : Val) (answers : List ℕ) (giver : ℕ) (to : Receiver) (kinds : List CoreKind)
    → (h : CanHand plan s l (way_of passed.way) call v answers giver to) → layout_of passed.layout.now ≡ layout_of_fields_at (types_of l (way_of passed.way))
    → passed.slots.now ≡ s.passing.slots → kinds ≡ call_kinds (way_of passed.way) (types_of l (way_of passed.way))
    → CanCopy h.on.under.carried.view (memory_at s.memories giver) (length (memory_at s.memories to.instance)) passed kinds s.passing.scan answers (types_of l (way_of passed.way)) v
can_copy ask plan s l passed call v answers giver to kinds h layout slots kinds_are =
    let way = way_of passed.way in
    let on = h.on in
    let types = types_of l way in
    let scan = s.passing.scan in
    let all : all_requests scan.parts ≡ asked_for l way (passage_now s) v = all_are ask (memory_at s.memories (giver_of way l call)) l way s.passing.slots scan v on.under.encoded.0 on.under.encoded.1 on.under.carried in
    record {
      layout = layout;
      memory = on.under.carried.memory_is ∙ ap (memory_at s.memories) (sym h.giver_is);
      found = record {
        spellable = spellable plan call.caller l way on.under.link;
        encoding = on.under.carried.encoding_is ∙ sym on.under.encoded.0;
        stores = subst (λ (e : StringEncoding). CanStore e types) (sym on.under.encoded.1) (stored plan call.caller l way on.under.link);
        denoted = subst (λ (x : List CoreValue). Denotes on.under.carried.view way types x v) (sym slots) on.under.carried.denoted;
        starts = on.under.carried.starts;
        told = subst (λ (e : StringEncoding). TellAll on.under.carried.view e scan.parts.records (call_parts way types v) on.under.carried.starts) (sym on.under.encoded.1) on.under.carried.told;
        handles = on.under.carried.handles;
      };
      answered = (
        record {
          few = subst (λ (rs : List Request). length answers ≤ length rs) (sym all) on.under.some;
          count = on.under.answered.count;
          places = on.under.answered.places ∙ ap (λ (rs : List Request). places_of rs answers) (sym all);
          last = on.under.answered.last;
        },
        subst (λ (rs : List Request). next_of rs answers ≡ None) (sym all) (none_next (asked_for l way (passage_now s) v) answers h.all),
      );
      fine =
          subst (λ (n : ℕ). first_fault (length (memory_at s.memories n)) (all_requests scan.parts) answers ≡ None) (sym (ap (λ (r : Receiver). r.instance) h.to_is))
          (subst (λ (rs : List Request). first_fault (length (memory_at s.memories (receiver_of way (length on.under.below) l call).instance)) rs answers ≡ None) (sym all) on.under.fine);
      kinds_are = kinds_are;
    }
