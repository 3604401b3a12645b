-- What is lowered into a memory of zeros, once its bytes stand at the start of another one.
use Rattle.std.proofs.Common.{◌≡◌, ℕ, ◌+◌, ◌<◌, ◌≤◌, ◌⊎◌, List, [], ◌∷◌, ◌++◌, length, drop, take, refl, Result, Ok, Err, IfOk, IfErr, OnOk, sym, ap, subst, ◌∙◌, inl, inr, arith}
use Rattle.std.specs.Prelude.{slice_index}
use Rattle.cm_types.specs.declared.core_value.CoreValue.{CoreValue}
use Rattle.cm_types.specs.Types.{Fields}
use Rattle.cm_types.specs.Values.{HasType, Val}
use Rattle.cm_handles.specs.Handles.{Handles, no_handles}
use Rattle.cm_handles.proofs.SoundHandles.{IsSoundHandles-none}
use Rattle.cm_abi_model.specs.declared.encoding.StringEncoding.{StringEncoding}
use Rattle.cm_abi_model.specs.declared.encoding.StringEncoding.TheVariants.{Utf8}
use Rattle.cm_abi_model.specs.Parts.{Part, CasesFit}
use Rattle.cm_abi_model.specs.Later.{IsLater}
use Rattle.cm_abi_model.specs.Receives.{Receives, Serves, Passes, NoneImplemented, call_bytes, leaves_in}
use Rattle.cm_abi_model.specs.Regions.{AllAt, ArePlaced, IsInPart}
use Rattle.cm_abi_model.specs.Requests.{CanStore, call_parts, stored_charset, tuple_of}
use Rattle.cm_abi_model.specs.Denotes.{Denotes}
use Rattle.cm_abi_model.specs.Giving.{after_given}
use Rattle.cm_abi_model.specs.Ways.{way_of}
use Rattle.cm_abi_model.specs.declared.receiver.Receiver.{Receiver}
use Rattle.cm_abi.specs.declared.passing.Passing.{Passing}
use Rattle.cm_abi.specs.Lowers.{CanBeLowered, IsLowered, given_for, tuple_in}
use Rattle.cm_host_values.specs.Sees.{host_of}
use Rattle.cm_host_values.specs.Indexed.{host_types}
use Rattle.cm_host_values.specs.Sees.{Sees}
use Rattle.cm_machine_guests.specs.declared.bump.Bump.{Bump}
use Rattle.cm_abi_model.specs.Taken.{MAX_CONTENT}
use Rattle.cm_host_values.specs.declared.fault.ValuesFault.{ValuesFault}
use Rattle.cm_host_values.specs.declared.fault.ValuesFault.TheVariants as fault
use Rattle.cm_host_values.specs.declared.lowering.Lowered.{Lowered}
use Rattle.cm_host_values.specs.Answers.{HasNoRoom}
use Rattle.cm_host_values.specs.Lowering.{DenoteThere, IsValuesFault, asked_for, content_of}
use Rattle.cm_host_values.specs.Standing.{BeginsWith}
use Rattle.cm_abi_model.specs.Stores.{Given, Holds, Placed}
use Rattle.cm_abi_model.specs.Views.{View, Way}

in_part_below : (e : StringEncoding) (n : ℕ) (g : Given) (k : ℕ) (ps : List Part) (a : ℕ) → ArePlaced e n g k ps → IsInPart e g k ps a → a < n
in_part_below e n g k [] a h i = absurd i
in_part_below e n g k (p ∷ ps) a h (inl i) = omega (arith, h.0.inside, i.1)
in_part_below e n g k (p ∷ ps) a h (inr i) = in_part_below e n g (k + 1) ps a h.1 i

pub all_below : (e : StringEncoding) (n : ℕ) (g : Given) (k : ℕ) (ps : List Part) (bs : List Placed) → ArePlaced e n g k ps → AllAt (IsInPart e g k ps) bs → AllAt (λ a. a < n) bs
all_below e n g k ps [] h i = tt
all_below e n g k ps (b ∷ bs) h i = (in_part_below e n g k ps b.0 h i.0, all_below e n g k ps bs h i.1)

pub holds_too : (small big : List ℕ) (bs : List Placed) → ((a : ℕ) → a < length small → slice_index big a ≡ slice_index small a) → AllAt (λ a. a < length small) bs → Holds small bs → Holds big bs
holds_too small big [] same below h = tt
holds_too small big (b ∷ bs) same below h = (same b.0 below.0 ∙ h.0, holds_too small big bs same below.1 h.1)

take_front : (xs ys : List ℕ) → take (length xs) (xs ++ ys) ≡ xs
take_front [] ys = refl
take_front (x ∷ xs) ys = ap (λ r. x ∷ r) (take_front xs ys)

-- What was lowered for a receiver without handles is denoted in each memory that begins with the
-- bytes.
pub denoted_there : (p : Passing) (types : Fields) (to : Receiver) (answers old new : List ℕ) (before table : Handles) (slots : List CoreValue) (w : View)
    → ((w u : View) (way : Way) (types : Fields) (slots : List CoreValue) (g : Given) (v : Val) → Receives w way types slots g v → IsLater w u (call_bytes g way types v) → Receives u way types slots g v)
    → ((w : View) (way : Way) (types : Fields) (slots : List CoreValue) (g : Given) (v : Val) → Receives w way types slots g v → Serves w way types g v → NoneImplemented w (leaves_in (tuple_of types) v) → Passes w way types slots v)
    → ((way : Way) (types : Fields) (g : Given) (v : Val) (target : StringEncoding) → HasType (tuple_of types) v → g.charset ≡ stored_charset target → AllAt (IsInPart target g 0 (call_parts way types v)) (call_bytes g way types v))
    → CasesFit (tuple_in p) → to.instance ≡ 0 → to.call ≡ 0 → before ≡ no_handles
    → CanBeLowered p types → p.encodings.target ≡ Utf8 → leaves_in (tuple_of types) (tuple_in p) ≡ []
    → IsLowered p types to answers old before new table slots → BeginsWith w new
    → Denotes (host_of w) (way_of p.way) types slots (tuple_in p)
denoted_there p types to answers old new before table slots w stays denoted lies cases instance call begun can target none was_lowered begins =
    let lowered = subst (λ t. IsLowered p types to answers old t new table slots) begun was_lowered in
    let way = way_of p.way in
    let v = tuple_in p in
    let g = given_for p types to no_handles answers in
    let u : View = record { memory = new; table = no_handles; instance = 0; encoding = Utf8; call = 0 } in
    let empty : table ≡ no_handles = lowered.handles.table ∙ ap (after_given to no_handles) none in
    let receives : Receives u way types slots g v = lowered.received u (record { receiver = record { instance_is = sym instance; call_is = sym call; table_is = sym empty }; memory_is = refl; stored_alike = ap stored_charset (sym target) }) in
    let below = all_below Utf8 (length new) g 0 (call_parts way types v) (call_bytes g way types v) receives.placed (lies way types g v Utf8 receives.typed receives.stored_in) in
    let later : IsLater u (host_of w) (call_bytes g way types v) = record {
      instance_is = refl;
      call_is = refl;
      stored_alike = ap stored_charset (sym begins.encoding_is);
      longer = begins.longer;
      stand = holds_too new w.memory (call_bytes g way types v) begins.stand below receives.bytes;
      unlent = λ index h stands unlent. stands;
    } in
    let serves : Serves (host_of w) way types g v = record {
      stores = subst (λ e. CanStore e types) (sym begins.encoding_is) (inl tt);
      memory = begins.small;
      table = IsSoundHandles-none;
      spellable = can.spellable;
      cases = cases;
    } in
    (denoted (host_of w) way types slots g v (stays u (host_of w) way types slots g v receives later) serves (subst (NoneImplemented (host_of w)) (sym none) tt)).denoted

-- what is written back of a whole list is that list
pub written_back : (new old : List ℕ) (n : ℕ) → length new ≡ n → take n (new ++ drop (length new) old) ≡ new
written_back new old n e = subst (λ m. take m (new ++ drop (length new) old) ≡ new) e (take_front new (drop (length new) old))

-- the core values pass on what a host sees as these values
pub passed_on : (r : Result Lowered ValuesFault) (way : Way) (types : Fields) (u : Val) (all : Fields) (w : View) (v : Val)
    → ((w : View) (way : Way) (types : Fields) (slots : List CoreValue) (v u : Val) → Denotes (host_of w) way (host_types types) slots u → Sees w.table (tuple_of types) v u → Denotes w way types slots v)
    → types ≡ host_types all → Sees w.table (tuple_of all) v u → IfOk r (DenoteThere way types u) → IfOk r (λ l. BeginsWith w l.bytes.items → Denotes w way all l.slots.items v)
passed_on (Ok l) way types u all w v law e sees there = λ begins. law w way all l.slots.items v u (subst (λ ts. Denotes (host_of w) way ts l.slots.items u) e (there w begins)) sees
passed_on (Err f) way types u all w v law e sees there = tt

-- what holds anyway holds of what is lowered
pub on_ok : (P : Type 0) (r : Result Lowered ValuesFault) → P → OnOk r P
on_ok P (Ok l) h = h
on_ok P (Err f) h = tt

-- the fault of values that have their types and are within the limit
pub fault_then : (r : Result Lowered ValuesFault) (b : Bump) (way : Way) (types : Fields) (v : Val) → HasType (tuple_of types) v → content_of types v ≤ MAX_CONTENT
    → IfErr r (λ e. (e ≡ fault.Memory) ⊎ ((e ≡ fault.NoRoom) × HasNoRoom b (asked_for way types v))) → IfErr r (IsValuesFault b way types v)
fault_then (Ok l) b way types v typed small h = tt
fault_then (Err e) b way types v typed small (inl is) = subst (IsValuesFault b way types v) (sym is) typed
fault_then (Err e) b way types v typed small (inr is) = subst (IsValuesFault b way types v) (sym is.0) (typed, small, is.1)
