-- The rows of a value that is handed over.
use Rattle.std.proofs.Common.{◌≡◌, ℕ, inl, inr, List, ◌∷◌, length, Option, Some, None, refl, sym, subst, ◌∙◌}
use Rattle.std.specs.Prelude.{slice_get}
use Rattle.cm_types.specs.declared.core_value.CoreValue.{CoreValue}
use Rattle.cm_types.specs.Values.{Val}
use Rattle.cm_abi_model.specs.Views.{Way, params, results}
use Rattle.cm_abi_model.specs.declared.receiver.Receiver.{Receiver}
use Rattle.cm_abi_model.specs.declared.request.Request.{Request}
use Rattle.cm_machine_model.specs.declared.event.Event.{Event}
use Rattle.cm_machine_model.specs.declared.event.Event.TheVariants as event
use Rattle.cm_machine_model.specs.declared.event.Trap.{Trap}
use Rattle.cm_machine_model.specs.declared.frame.Call.{Call}
use Rattle.cm_machine_model.specs.declared.frame.Frame.{Frame}
use Rattle.cm_machine_model.specs.declared.frame.Phase.{Phase}
use Rattle.cm_machine_model.specs.declared.frame.Purpose.TheVariants as purpose
use Rattle.cm_machine_model.specs.Passages.{asked_for}
use Rattle.cm_machine_model.specs.Plan.{CoreFunc, Link, Plan, Reaches, lowered}
use Rattle.cm_machine_model.specs.State.{Passage, State, after_trap}
use Rattle.cm_machine_model.specs.Step.{GoesOn, GoesOnBy, HandsOver, IsReceived, receiver_of}
use Rattle.cm_machine_parts.specs.Kept.{IsEncoded, IsEncodedAtTop, IsEncodedIn}
use Rattle.cm_machine_parts.specs.declared.passing.Passing.{Passing}
use Rattle.cm_machine_calls.specs.Going.{phase_of}
use Rattle.cm_machine_calls.specs.Handing.{IsHandedOver, StopsHanding}
use Rattle.cm_machine_calls.proofs.Rows.{traps_here}

hands_by : (s new : State) (l : Link) (way : Way) (to : Receiver) (p : Passage) (v : Val) (answers : List ℕ) (row : List CoreValue → State → Event → State → Type 0) (t : Trap)
    → StopsHanding s l way to p v answers t → new ≡ s → HandsOver s l way to p v (asked_for l way p v) answers row (event.Trapped t) (after_trap new)
hands_by s new l way to p v answers row t (inl x) same = inl (x.0, traps_here s new t _ same x.1)
hands_by s new l way to p v answers row t (inr (inl x)) same = inr (x.0, inl (x.1, traps_here s new t _ same x.2))
hands_by s new l way to p v answers row t (inr (inr x)) same = inr (x.0, inr (x.1, inl (x.2, traps_here s new t _ same x.3)))

pub hands_err : (s new : State) (place : ℕ) (l : Link) (way : Way) (call : Call) (to : Receiver) (p : Passage) (v : Val) (answers : List ℕ) (t : Trap) → to ≡ receiver_of way place l call
    → slice_get (asked_for l way p v) (length answers) ≡ None → StopsHanding s l way to p v answers t → new ≡ s → GoesOn s place l way call p v answers (event.Trapped t) (after_trap new)
hands_err s new place l way call to p v answers t is none stops same =
    subst (λ (o : Option Request). GoesOnBy o s place l way call p v (asked_for l way p v) answers (event.Trapped t) (after_trap new)) (sym none)
    (subst (λ (r : Receiver). HandsOver s l way r p v (asked_for l way p v) answers (IsReceived way place l call p) (event.Trapped t) (after_trap new)) is
    (hands_by s new l way to p v answers (IsReceived way place l call p) t stops same))

pub hands_ok : (s mid new : State) (place : ℕ) (l : Link) (way : Way) (call : Call) (to : Receiver) (p : Passage) (v : Val) (answers : List ℕ) (slots : List CoreValue) (e : Event)
    → to ≡ receiver_of way place l call → slice_get (asked_for l way p v) (length answers) ≡ None → IsHandedOver s mid l way to p v answers slots
    → IsReceived way place l call p slots mid e new → GoesOn s place l way call p v answers e new
hands_ok s mid new place l way call to p v answers slots e is none handed received =
    let here : HandsOver s l way to p v (asked_for l way p v) answers (IsReceived way place l call p) e new =
    inr (handed.apart, inr (handed.room, inr (handed.memory, slots, handed.handed, subst (λ (x : State). IsReceived way place l call p slots x e new) handed.is received))) in
    subst (λ (o : Option Request). GoesOnBy o s place l way call p v (asked_for l way p v) answers e new) (sym none)
    (subst (λ (r : Receiver). HandsOver s l way r p v (asked_for l way p v) answers (IsReceived way place l call p) e new) is here)

-- ---- encodings

one_link : (plan : Plan) (i f : ℕ) (l m : Link) → Reaches plan i f l → Reaches plan i f m → l ≡ m
one_link plan i f l m there also =
    let same : ◌≡◌ {A = Option CoreFunc} (Some (lowered l)) (Some (lowered m)) = sym there ∙ also in
    cc

encoded_in : (way : Way) (l : Link) (p : Passing) → IsEncoded l way p → IsEncodedIn (phase_of way) l p
encoded_in params l p encoded = encoded
encoded_in results l p encoded = encoded

pub encoded_top : (plan : Plan) (p : Passing) (fs below : List Frame) (instance : ℕ) (way : Way) (l : Link) (call : Call) → fs ≡ record { instance = instance; purpose = purpose.Call call } ∷ below
    → Reaches plan call.caller call.func l → call.phase ≡ phase_of way → IsEncoded l way p → IsEncodedAtTop plan p fs
encoded_top plan p fs below instance way l call is reaches phase encoded =
    subst (λ (x : List Frame). IsEncodedAtTop plan p x) (sym is)
    (λ m also. subst (λ (x : Phase). IsEncodedIn x m p) (sym phase) (subst (λ (x : Link). IsEncodedIn (phase_of way) x p) (one_link plan call.caller call.func l m reaches also) (encoded_in way l p encoded)))

-- who receives is the same whichever place the call has
pub same_instance : (way : Way) (m n : ℕ) (l : Link) (call : Call) → (receiver_of way m l call).instance ≡ (receiver_of way n l call).instance
same_instance params m n l call = refl
same_instance results m n l call = refl

pub received_at : (way : Way) (m n : ℕ) (l : Link) (call : Call) (p : Passage) (slots : List CoreValue) (s : State) (e : Event) (new : State) → m ≡ n
    → IsReceived way m l call p slots s e new → IsReceived way n l call p slots s e new
received_at way m n l call p slots s e new is received = subst (λ (k : ℕ). IsReceived way k l call p slots s e new) is received
