-- What a receiver has, once the places are apart and the handles are given.
use Rattle.std.proofs.Common.{◌≡◌, ℕ, zero, suc, ◌^◌, ◌<◌, ◌≤◌, List, [], ◌∷◌, length, map, take, refl, sym, ap, subst, ◌∙◌, arith}
use Rattle.std.specs.Prelude.{replicate, slice_index}
use Rattle.cm_types.specs.CoreValues.{kind_of}
use Rattle.cm_types.specs.declared.core_value.CoreKind.{CoreKind}
use Rattle.cm_types.specs.declared.core_value.CoreKind.TheVariants as kind
use Rattle.cm_types.specs.declared.core_value.CoreValue.{CoreValue}
use Rattle.cm_types.specs.Types.{Fields}
use Rattle.cm_types.specs.Values.{HasType, Val}
use Rattle.cm_handles.specs.Handles.{Handles, IsSoundHandles}
use Rattle.cm_abi_model.specs.declared.encoding.StringEncoding.{StringEncoding}
use Rattle.cm_abi_model.specs.Receives.{AreNumbers, Receives, Serves, call_bytes, call_kinds, call_numbers}
use Rattle.cm_abi_model.specs.Regions.{AreApart, ArePlaced}
use Rattle.cm_abi_model.specs.Requests.{CanStore, call_parts, stored_charset, tuple_of}
use Rattle.cm_abi_model.specs.Parts.{Part}
use Rattle.cm_abi_model.specs.Stores.{Framed, Given, Holds, IsBeside, Placed, number_of, place_of, poke}
use Rattle.cm_abi_model.specs.Views.{View, Way}
use Rattle.cm_abi_model.specs.Giving.{Gives, numbers_given}
use Rattle.cm_abi_model.specs.declared.receiver.Receiver.{Receiver}
use Rattle.cm_abi_store.specs.Calls.{IsProvided}
use Rattle.cm_abi_store.specs.Kinds.{FitKinds, kind_limit, slot_limit}
use Rattle.cm_abi_model.specs.Answered.{Requesting}
use Rattle.cm_abi_model.specs.Scanned.{Scanned}
use Rattle.cm_abi_model.specs.Ways.{way_of}
use Rattle.cm_abi_running.specs.declared.copier.Copier.{Copier}
use Rattle.cm_abi_copy.specs.PassingOn.{CanBePassedOn}
use Rattle.cm_abi_model.specs.HandleLeaves.{leaves_of}
use Rattle.cm_abi_model.specs.declared.leaf.HandleLeaf.{HandleLeaf as CodedLeaf}
use Rattle.cm_abi_store.specs.Storing.{given_of}
use Rattle.cm_abi_model.specs.Copies.{IsReceivingIn, PartsAreApart, given_by, handles_of_values}
use Rattle.cm_abi_copy.specs.Copies.{FoundCanBeCopied}
use Rattle.cm_abi_copy.specs.Settled.{IsSettled}
use Rattle.cm_abi_copy.specs.declared.found.Found.{Found}
use Rattle.cm_abi_model.proofs.GivingLaws.{numbers_counted}

-- laws, as they are told
abbrev pub StoredLaw : Type 0
StoredLaw = (way : Way) (types : Fields) (g : Given) (v : Val) (target : StringEncoding) (memory : List ℕ) → HasType (tuple_of types) v → g.charset ≡ stored_charset target
    → ArePlaced target (length memory) g 0 (call_parts way types v) → AreApart target g 0 (call_parts way types v)
    → Holds (poke (call_bytes g way types v) memory) (call_bytes g way types v) × Framed memory (poke (call_bytes g way types v) memory) (call_bytes g way types v)

abbrev pub PassedLaw : Type 0
PassedLaw = (way : Way) (types : Fields) (g : Given) (v : Val) (slots : List ℕ) → HasType (tuple_of types) v → length (call_kinds way types) ≤ length slots
    → Holds (poke (call_numbers g way types v) slots) (call_numbers g way types v) × Framed slots (poke (call_numbers g way types v) slots) (call_numbers g way types v)

-- what encodings in which strings are stored alike place alike
abbrev pub PlacedAlike : Type 0
PlacedAlike = (e f : StringEncoding) (n m : ℕ) (g : Given) (k : ℕ) (parts : List Part) → stored_charset e ≡ stored_charset f → n ≤ m → ArePlaced e n g k parts → ArePlaced f m g k parts

abbrev pub ApartAlike : Type 0
ApartAlike = (e f : StringEncoding) (g : Given) (k : ℕ) (parts : List Part) → stored_charset e ≡ stored_charset f → AreApart e g k parts → AreApart f g k parts

abbrev pub FitsLaw : Type 0
FitsLaw = (w : View) (way : Way) (types : Fields) (g : Given) (v : Val) (slots : List ℕ) → HasType (tuple_of types) v → g.charset ≡ stored_charset w.encoding → Serves w way types g v
    → ArePlaced w.encoding (length w.memory) g 0 (call_parts way types v)
    → ((k : ℕ) → place_of g k < 2 ^ 32) → ((h : ℕ) → number_of g h < 2 ^ 32) → FitKinds (call_kinds way types) slots → FitKinds (call_kinds way types) (poke (call_numbers g way types v) slots)

-- what putting numbers into core values promises
abbrev pub Puts : List CoreKind → List ℕ → List CoreValue → Type 0
Puts kinds numbers slots = (puts : List Placed) → Holds numbers puts → ((k : ℕ) → IsBeside k puts → slice_index numbers k ≡ 0) → AreNumbers kinds slots puts

kinds_long : (slots : List CoreValue) → length (map kind_of slots) ≡ length slots
kinds_long [] = refl
kinds_long (x ∷ slots) = ap suc (kinds_long slots)

pub none_told : (leaves : List CodedLeaf) → leaves_of leaves ≡ [] → leaves ≡ []
none_told [] is = refl
none_told (l ∷ leaves) is = absurd (cc)

limit_above : (k : CoreKind) → 0 < kind_limit k
limit_above kind.I32 = omega arith
limit_above kind.I64 = omega arith

zero_fits : (ks : List CoreKind) (i : ℕ) → 0 < slot_limit ks i
zero_fits [] i = omega arith
zero_fits (k ∷ ks) zero = limit_above k
zero_fits (k ∷ ks) (suc i) = zero_fits ks i

zeros_fit : (ks : List CoreKind) (zeros : List ℕ) → ((k : ℕ) → slice_index zeros k ≡ 0) → FitKinds ks zeros
zeros_fit ks zeros none i = subst (λ n. n < slot_limit ks i) (sym (none i)) (zero_fits ks i)

-- ---- slots with 0 in each

zero_at : (n k : ℕ) → ◌≡◌ {A = ℕ} (slice_index (replicate n 0) k) 0
zero_at zero k = refl
zero_at (suc n) zero = refl
zero_at (suc n) (suc k) = zero_at n k

taken_zero : (n m : ℕ) (k : ℕ) → ◌≡◌ {A = ℕ} (slice_index (take n (replicate m 0)) k) 0
taken_zero zero m k = refl
taken_zero (suc n) zero k = refl
taken_zero (suc n) (suc m) zero = refl
taken_zero (suc n) (suc m) (suc k) = taken_zero n m k

pub zeros_taken : (n m : ℕ) (xs : List ℕ) → xs ≡ replicate m 0 → (k : ℕ) → slice_index (take n xs) k ≡ 0
zeros_taken n m xs is k = rw is (taken_zero n m k)

pub taken_long : (n : ℕ) (xs : List ℕ) → n ≤ length xs → length (take n xs) ≡ n
taken_long zero xs le = refl
taken_long (suc n) [] le = absurd (omega (arith, le))
taken_long (suc n) (x ∷ xs) le = ap suc (taken_long n xs (omega (arith, le)))

-- those of the most core values that are passed flat
abbrev pub all_zeros : List ℕ
all_zeros = 0 ∷ 0 ∷ 0 ∷ 0 ∷ 0 ∷ 0 ∷ 0 ∷ 0 ∷ 0 ∷ 0 ∷ 0 ∷ 0 ∷ 0 ∷ 0 ∷ 0 ∷ 0 ∷ []

pub none_there : (n k : ℕ) → slice_index (take n all_zeros) k ≡ 0
none_there n k = zeros_taken n 16 all_zeros refl k

-- what the code copies from is what was found, with what the requests and the handles were given
pub record IsFrom (from : Copier) (f : Found) (p : Requesting) (ns : List ℕ) : Type 0 where
  pub memory : from.memory.now ≡ f.memory.now
  pub encoding : from.encoding ≡ p.source
  pub target : from.target.encoding ≡ p.target
  pub places : from.target.places.now ≡ p.places
  pub numbers : from.target.numbers.now ≡ ns
  pub records : from.records.now ≡ p.records

module _ (n : ℕ) (kinds : List CoreKind) (giver : View) (f : Found) (s : Scanned) (answers : List ℕ) (types : Fields) (v : Val) (to : Receiver) (before after : Handles) (ns : List ℕ)
    (can : FoundCanBeCopied n kinds giver f s answers types v) (settled : IsSettled n (way_of f.passed.way) s.parts answers types v) (given : Gives to before after s.handles ns) where
  abbrev way : Way
  way = way_of f.passed.way

  -- there are as many core values as kinds
  pub as_many : (slots : List CoreValue) → map kind_of slots ≡ kinds → length slots ≡ length (call_kinds (way_of f.passed.way) types)
  as_many slots is = sym (kinds_long slots) ∙ (ap length is ∙ ap length can.kinds_are)

  pub few_slots : (slots : List CoreValue) → map kind_of slots ≡ kinds → length slots ≤ 16
  few_slots slots is = let many = as_many slots is in let few = settled.few in omega (arith, many, few)

  pub gives : Gives to before after (handles_of_values types v) (numbers_given to before (handles_of_values types v))
  gives =
      let here = subst (λ ls. Gives to before after ls ns) can.found.handles given in
      subst (λ ms. Gives to before after (handles_of_values types v) ms) here.numbers here

  pub numbers_are : ns ≡ numbers_given to before (handles_of_values types v)
  numbers_are = (subst (λ ls. Gives to before after ls ns) can.found.handles given).numbers

  pub given_is : (from : Copier) → IsFrom from f s.parts ns → given_of from.target ≡ given_by s.parts answers types v to before
  given_is from is =
      rw (is.places, is.numbers, is.target, settled.places, numbers_are) refl

  stand : ArePlaced s.parts.target n (given_by s.parts answers types v to before) 0 (call_parts (way_of f.passed.way) types v)
  stand = settled.placed (given_by s.parts answers types v to before) (sym settled.places)

  pub provided : (slots : ℕ) → length (call_kinds (way_of f.passed.way) types) ≤ slots → IsProvided (way_of f.passed.way) types v s.parts.target (given_by s.parts answers types v to before) n slots
  provided slots long =
      let places = settled.counted in
      let same = ap length settled.places in
      let handles = settled.handles in
      record {
        typed = settled.typed;
        placed = stand;
        places = omega (arith, places, same);
        numbers = let given = numbers_counted to before (handles_of_values types v) in omega (arith, given, handles);
        slots = long;
      }

  pub passed_on : (from : Copier) (slots : ℕ) → IsFrom from f s.parts ns → length (call_kinds (way_of f.passed.way) types) ≤ slots → CanBePassedOn n slots from f.passed types v
  passed_on from slots is long =
      record {
        layout = can.layout;
        view = giver;
        memory = can.memory ∙ sym is.memory;
        encoding = can.found.encoding ∙ sym is.encoding;
        denoted = can.found.denoted;
        starts = can.found.starts;
        told = rw (is.target, is.records) can.found.told;
        provided =
            subst (λ g. IsProvided (way_of f.passed.way) types v from.target.encoding g n slots) (sym (given_is from is))
            (subst (λ e. IsProvided (way_of f.passed.way) types v e (given_by s.parts answers types v to before) n slots) (sym is.target) (provided slots long));
      }

  pub serves : (w : View) → w.encoding ≡ s.parts.target → length w.memory ≡ n → n < 2 ^ 32 → IsSoundHandles w.table → Serves w (way_of f.passed.way) types (given_by s.parts answers types v to before) v
  serves w encoding long few sound =
      record {
        stores = subst (λ e. CanStore e types) (sym encoding) can.found.stores;
        memory = omega (arith, long, few);
        table = sound;
        spellable = can.found.spellable;
        cases = settled.cases;
      }

  pub fits : FitsLaw → (memory zeros : List ℕ) → length memory ≡ n → n < 2 ^ 32 → IsSoundHandles after → ((k : ℕ) → slice_index zeros k ≡ 0)
      → ((k : ℕ) → place_of (given_by s.parts answers types v to before) k < 2 ^ 32) → ((h : ℕ) → number_of (given_by s.parts answers types v to before) h < 2 ^ 32)
      → (now : List ℕ) → now ≡ poke (call_numbers (given_by s.parts answers types v to before) (way_of f.passed.way) types v) zeros → FitKinds kinds now
  fits law memory zeros long few sound none places numbers now is =
      let w : View = record { memory = memory; table = after; instance = 0; encoding = s.parts.target; call = 0 } in
      rw (can.kinds_are, is) (law w (way_of f.passed.way) types (given_by s.parts answers types v to before) v zeros settled.typed refl (serves w refl long few sound) (rw long stand) places numbers (zeros_fit (call_kinds (way_of f.passed.way) types) zeros none))

  pub are_numbers : PassedLaw → (zeros numbers : List ℕ) (slots : List CoreValue) → ((k : ℕ) → slice_index zeros k ≡ 0) → length (call_kinds (way_of f.passed.way) types) ≤ length zeros
      → numbers ≡ poke (call_numbers (given_by s.parts answers types v to before) (way_of f.passed.way) types v) zeros → Puts kinds numbers slots
      → AreNumbers (call_kinds (way_of f.passed.way) types) slots (call_numbers (given_by s.parts answers types v to before) (way_of f.passed.way) types v)
  are_numbers law zeros numbers slots none long is put =
      let g = given_by s.parts answers types v to before in
      let stays = law (way_of f.passed.way) types g v zeros settled.typed long in
      subst (λ ks. AreNumbers ks slots (call_numbers g (way_of f.passed.way) types v)) can.kinds_are
      (put (call_numbers g (way_of f.passed.way) types v) (rw is stays.0) (λ k beside. ap (λ ns. slice_index ns k) is ∙ (stays.1.others_stay k beside ∙ none k)))

  pub framed : StoredLaw → (old new : List ℕ) → length old ≡ n → PartsAreApart s.parts answers → new ≡ poke (call_bytes (given_by s.parts answers types v to before) (way_of f.passed.way) types v) old
      → Holds new (call_bytes (given_by s.parts answers types v to before) (way_of f.passed.way) types v) × Framed old new (call_bytes (given_by s.parts answers types v to before) (way_of f.passed.way) types v)
  framed law old new long clear is =
      let g = given_by s.parts answers types v to before in
      let stays = law (way_of f.passed.way) types g v s.parts.target old settled.typed refl (rw long stand) (settled.apart g (sym settled.places) clear) in
      (rw is stays.0, rw is stays.1)

  pub received : PlacedAlike → ApartAlike → (w : View) (new : List ℕ) (slots : List CoreValue) → IsReceivingIn w s.parts.target to new after
      → Holds new (call_bytes (given_by s.parts answers types v to before) (way_of f.passed.way) types v)
      → AreNumbers (call_kinds (way_of f.passed.way) types) slots (call_numbers (given_by s.parts answers types v to before) (way_of f.passed.way) types v)
      → Gives to before after (handles_of_values types v) (numbers_given to before (handles_of_values types v))
      → length new ≡ n → PartsAreApart s.parts answers
      → Receives w (way_of f.passed.way) types slots (given_by s.parts answers types v to before) v
  received placed_alike apart_alike w new slots view holds numbers gives long clear =
      let g = given_by s.parts answers types v to before in
      record {
        typed = settled.typed;
        stored_in = sym view.stored_alike;
        numbers = numbers;
        placed = placed_alike s.parts.target w.encoding n (length w.memory) g 0 (call_parts (way_of f.passed.way) types v) (sym view.stored_alike) (omega (arith, long, ap length view.memory_is)) stand;
        apart = apart_alike s.parts.target w.encoding g 0 (call_parts (way_of f.passed.way) types v) (sym view.stored_alike) (settled.apart g (sym settled.places) clear);
        bytes = rw view.memory_is holds;
        handles = gives.stand w g view.receiver refl;
      }

  pub received_serves : (w : View) (old new : List ℕ) → IsReceivingIn w s.parts.target to new after → w.encoding ≡ s.parts.target → length new ≡ length old → length old ≡ n → n < 2 ^ 32 → IsSoundHandles after
      → Serves w (way_of f.passed.way) types (given_by s.parts answers types v to before) v
  received_serves w old new view encoding stays long few sound =
      serves w encoding (ap length view.memory_is ∙ (stays ∙ long)) few (subst IsSoundHandles (sym view.receiver.table_is) sound)
