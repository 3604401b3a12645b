-- What a copy promises is what the rules say of handing over.
use Rattle.std.proofs.Common.{◌≡◌, ℕ, ◌<◌, ◌≤◌, inl, inr, List, [], length, refl, sym, ap, subst, ◌∙◌, arith}
use Rattle.cm_types.specs.declared.core_value.CoreValue.{CoreValue}
use Rattle.cm_types.specs.Types.{Fields}
use Rattle.cm_types.specs.Values.{Val}
use Rattle.cm_handles.specs.Handles.{Handles, indices_left, no_handles}
use Rattle.cm_abi_model.specs.Answered.{all_requests}
use Rattle.cm_abi_model.specs.Answering.{places_of, regions_of}
use Rattle.cm_abi_model.specs.Copies.{IsFaultOfCopying, IsReceivingIn, given_by, handles_of_values}
use Rattle.cm_abi_model.specs.Giving.{added_count, after_given, numbers_given}
use Rattle.cm_abi_model.specs.Overlap.{AreDisjoint}
use Rattle.cm_abi_model.specs.Receives.{Receives, call_bytes}
use Rattle.cm_abi_model.specs.RecordRequests.{requests_for, tags_of}
use Rattle.cm_abi_model.specs.Requests.{call_parts, requests, stored_charset}
use Rattle.cm_abi_model.specs.Scanned.{Scanned}
use Rattle.cm_abi_model.specs.Stores.{Framed, Given}
use Rattle.cm_abi_model.specs.Telling.{TellAll}
use Rattle.cm_abi_model.specs.Views.{View, Way}
use Rattle.cm_abi_model.specs.declared.encoding.StringEncoding.{StringEncoding}
use Rattle.cm_abi_model.specs.declared.fault.AbiFault.{AbiFault}
use Rattle.cm_abi_model.specs.declared.fault.AbiFault.TheVariants as fault
use Rattle.cm_abi_model.specs.declared.receiver.Receiver.{Receiver}
use Rattle.cm_abi_model.specs.declared.record.PartRecord.{PartRecord}
use Rattle.cm_abi_model.specs.declared.request.Request.{Request}
use Rattle.cm_machine_model.specs.Memories.{memory_at}
use Rattle.cm_machine_model.specs.Passages.{Carries, HasAnswers, asked_for}
use Rattle.cm_machine_model.specs.Plan.{Link, giver_side, receiver_side, types_of}
use Rattle.cm_machine_model.specs.State.{Passage, State, table_at, view_of}
use Rattle.cm_machine_model.specs.Step.{IsHanded, after_handing, given_to, trap_of}
use Rattle.cm_abi_copy.specs.Copies.{IsCopied}
use Rattle.cm_machine_calls.specs.Handing.{StopsHanding}
use Rattle.cm_machine_calls.specs.Lifting.{passage_in}
use Rattle.cm_machine_calls.proofs.Pairs.{at_same}

-- ---- requests

-- records that tell the parts of a call ask for what the call asks for
abbrev pub RecordsAsk : Type 0
RecordsAsk = (w : View) (target : StringEncoding) (rs : List PartRecord) (way : Way) (types : Fields) (v : Val) (places : List ℕ)
    → TellAll w target rs (call_parts way types v) places → requests_for w.encoding target rs ≡ requests way types v w.encoding target (tags_of rs)

pub asked_is : RecordsAsk → (memory : List ℕ) (l : Link) (way : Way) (p : Passage) (v : Val) → Carries memory l way p v
    → requests_for (giver_side l way).encoding (receiver_side l way).encoding p.records ≡ asked_for l way p v
asked_is ask memory l way p v carried =
    let target = (receiver_side l way).encoding in
    subst (λ (e : StringEncoding). requests_for e target p.records ≡ requests way (types_of l way) v e target (tags_of p.records)) carried.encoding_is
    (ask carried.view target p.records way (types_of l way) v carried.starts carried.told)

-- what is kept on the way asks for what the passage asks for
pub all_are : RecordsAsk → (memory : List ℕ) (l : Link) (way : Way) (slots : List CoreValue) (s : Scanned) (v : Val)
    → s.parts.source ≡ (giver_side l way).encoding → s.parts.target ≡ (receiver_side l way).encoding → Carries memory l way (passage_in slots s) v
    → all_requests s.parts ≡ asked_for l way (passage_in slots s) v
all_are ask memory l way slots s v source target carried =
    ap (λ (e : StringEncoding). requests_for e s.parts.target s.parts.records) source
    ∙ ap (λ (e : StringEncoding). requests_for (giver_side l way).encoding e s.parts.records) target
    ∙ asked_is ask memory l way (passage_in slots s) v carried

-- ---- handing over

given_same : (a b c d : List ℕ) (e f : StringEncoding) → a ≡ b → c ≡ d → e ≡ f
    → ◌≡◌ {A = Given} (record { places = a; numbers = c; charset = stored_charset e }) (record { places = b; numbers = d; charset = stored_charset f })
given_same a b c d e f places numbers same =
    ap {B = Given} (λ (x : List ℕ). record { places = x; numbers = c; charset = stored_charset e }) places
    ∙ ap {B = Given} (λ (x : List ℕ). record { places = b; numbers = x; charset = stored_charset e }) numbers
    ∙ ap {B = Given} (λ (x : StringEncoding). record { places = b; numbers = d; charset = stored_charset x }) same

module _ (s : State) (l : Link) (way : Way) (to : Receiver) (slots : List CoreValue) (k : Scanned) (v : Val) (answers : List ℕ)
    (target : k.parts.target ≡ (receiver_side l way).encoding) (all : all_requests k.parts ≡ asked_for l way (passage_in slots k) v)
    (has : HasAnswers (asked_for l way (passage_in slots k) v) answers (passage_in slots k))
    (leaves : k.handles ≡ handles_of_values (types_of l way) v) where
  pub given_is : given_by k.parts answers (types_of l way) v to (table_at s.tables to.instance) ≡ given_to s l way to (passage_in slots k)
  given_is =
      given_same (places_of (all_requests k.parts) answers) k.parts.places (numbers_given to (table_at s.tables to.instance) (handles_of_values (types_of l way) v))
      (numbers_given to (table_at s.tables to.instance) k.handles) k.parts.target (receiver_side l way).encoding
      (ap (λ (rs : List Request). places_of rs answers) all ∙ sym has.places)
      (ap (numbers_given to (table_at s.tables to.instance)) (sym leaves)) target

  module _ (memory : List ℕ) (new : Handles) (values : List CoreValue) (numbers : List ℕ)
      (there : to.instance < length s.tables) (also : to.instance < length s.memories)
      (copied : IsCopied to way (types_of l way) v k.parts answers (memory_at s.memories to.instance) memory (table_at s.tables to.instance) new values numbers) where
    -- the table has the handles of the passage
    pub table_is : new ≡ after_given to (table_at s.tables to.instance) k.handles
    table_is = copied.gives.table ∙ ap (after_given to (table_at s.tables to.instance)) (sym leaves)

    pub numbers_are : numbers ≡ numbers_given to (table_at s.tables to.instance) k.handles
    numbers_are = copied.gives.numbers ∙ ap (numbers_given to (table_at s.tables to.instance)) (sym leaves)

    pub apart_is : AreDisjoint (regions_of (asked_for l way (passage_in slots k) v) answers)
    apart_is = subst (λ (rs : List Request). AreDisjoint (regions_of rs answers)) all copied.apart

    pub room_is : added_count to k.handles ≤ indices_left (table_at s.tables to.instance)
    room_is = omega (arith, copied.gives.left, ap (added_count to) leaves)

    abbrev received_by : View
    received_by = view_of (after_handing s to (passage_in slots k) memory) to.instance (receiver_side l way).encoding to.call

    receiving : IsReceivingIn received_by k.parts.target to memory new
    receiving = record {
      receiver = record {
        instance_is = refl;
        call_is = refl;
        table_is = at_same s.tables to.instance (after_given to (table_at s.tables to.instance) k.handles) no_handles there ∙ sym table_is;
      };
      memory_is = at_same s.memories to.instance memory [] also;
      stored_alike = ap stored_charset (sym target);
    }

    pub handed_is : IsHanded s l way to (passage_in slots k) v memory values
    handed_is = record {
      received = subst (λ (g : Given). Receives received_by way (types_of l way) values g v) given_is (copied.received received_by receiving);
      framed = subst (λ (g : Given). Framed (memory_at s.memories to.instance) memory (call_bytes g way (types_of l way) v)) given_is copied.framed;
    }

  -- ---- a refusal

  pub stopped : (f : AbiFault) → IsFaultOfCopying k.parts answers to (table_at s.tables to.instance) (handles_of_values (types_of l way) v) f
      → StopsHanding s l way to (passage_in slots k) v answers (trap_of f)
  stopped fault.Overlap x = inl ((λ apart. x (subst (λ (rs : List Request). AreDisjoint (regions_of rs answers)) (sym all) apart)), refl)
  stopped fault.TableFull x =
      inr (inl (subst (λ (rs : List Request). AreDisjoint (regions_of rs answers)) all x.0, (λ room. omega (arith, x.1, room, ap (added_count to) leaves)), refl))
  stopped fault.EngineMemory x =
      inr (inr (subst (λ (rs : List Request). AreDisjoint (regions_of rs answers)) all x.0, omega (arith, x.1, ap (added_count to) leaves), (λ none. x.2 (sym leaves ∙ none)), refl))
  stopped f x = absurd x
