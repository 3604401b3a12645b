-- What a receiver has, once the answers will do and the handles are given.
use Rattle.std.proofs.Common.{◌≡◌, ℕ, ◌^◌, ◌<◌, ◌≤◌, ◌↔◌, List, length, map, None, refl, sym, ap, subst, ◌∙◌, arith, Bool, true}
use Rattle.std.specs.List.{All}
use Rattle.std.specs.Prelude.{replicate}
use Rattle.cm_types.specs.CoreValues.{kind_of}
use Rattle.cm_types.specs.declared.core_value.CoreValue.{CoreValue}
use Rattle.cm_types.specs.Spellable.{are_spellable}
use Rattle.cm_types.specs.Types.{Fields, Ty}
use Rattle.cm_types.specs.Values.{HasType, Val}
use Rattle.cm_types.specs.ValueTrees.{values_of}
use Rattle.cm_handles.specs.Handles.{Handles, IsSoundHandles}
use Rattle.cm_abi_model.specs.declared.encoding.StringEncoding.{StringEncoding}
use Rattle.cm_abi_model.specs.declared.request.Request.{Request}
use Rattle.cm_abi_model.specs.Numbers.{slot_number}
use Rattle.cm_abi_model.specs.declared.encoding.StringEncoding.TheVariants as encoding
use Rattle.cm_abi_model.specs.Parts.{CasesFit, Part, parts_in}
use Rattle.cm_abi_model.specs.Taken.{MAX_CONTENT}
use Rattle.cm_abi_model.specs.Receives.{AreNumbers, Receives, Serves, call_bytes, call_kinds, call_numbers}
use Rattle.cm_abi_model.specs.Regions.{AreApart, ArePlaced}
use Rattle.cm_abi_model.specs.Requests.{CanStore, IsStored, call_parts, part_requests, stored_charset, tuple_of}
use Rattle.cm_abi_model.specs.Stores.{Framed, Given, Holds, poke}
use Rattle.cm_abi_model.specs.Views.{View, Way}
use Rattle.cm_abi_model.specs.Ways.{way_of}
use Rattle.cm_abi_model.specs.Answering.{AreCounted, HaveScalars, first_fault, places_of, regions_of}
use Rattle.cm_abi_requests.specs.Asking.{content_of_parts}
use Rattle.cm_abi_model.specs.Overlap.{AreDisjoint}
use Rattle.cm_abi_model.specs.Giving.{Gives, numbers_given}
use Rattle.cm_abi_model.specs.declared.receiver.Receiver.{Receiver}
use Rattle.cm_abi_store.specs.Calls.{IsProvided}
use Rattle.cm_abi.specs.Kinds.{AreNumbersOf}
use Rattle.cm_abi.specs.Lowers.{CanBeLowered, IsReceiving, asked_for, given_for, handles_passed, parts_passed, tuple_in}
use Rattle.cm_abi.specs.declared.passing.Passing.{Passing}
use Rattle.cm_abi.proofs.CallLemmas.{call_counted, call_puts, call_scalars}
use Rattle.cm_abi.proofs.CountLemmas.{handles_counted, places_counted}
use Rattle.cm_abi.proofs.PokeLemmas.{PutsIn, are_numbers, poked_fit, zeros_fit}
use Rattle.cm_abi_model.proofs.GivingLaws.{numbers_counted}

-- laws, as they are told
abbrev pub ApartLaw : Type 0
ApartLaw = (source target : StringEncoding) (tags : List Bool) (ps : List Part) (answers : List ℕ) (g : Given) → HaveScalars source tags ps
    → length answers ≡ length (part_requests source target tags ps) → g.places ≡ places_of (part_requests source target tags ps) answers
    → AreDisjoint (regions_of (part_requests source target tags ps) answers) ↔ AreApart target g 0 ps

abbrev pub PlacedLaw : Type 0
PlacedLaw = (source target : StringEncoding) (tags : List Bool) (ps : List Part) (answers : List ℕ) (memory_length : ℕ) (g : Given)
    → HaveScalars source tags ps → AreCounted ps → length answers ≡ length (part_requests source target tags ps)
    → first_fault memory_length (part_requests source target tags ps) answers ≡ None → g.places ≡ places_of (part_requests source target tags ps) answers
    → ArePlaced target memory_length g 0 ps

abbrev pub StaysLaw : Type 0
StaysLaw = (way : Way) (types : Fields) (g : Given) (v : Val) (target : StringEncoding) (memory : List ℕ) → HasType (tuple_of types) v → g.charset ≡ stored_charset target
    → ArePlaced target (length memory) g 0 (call_parts way types v) → AreApart target g 0 (call_parts way types v)
    → Holds (poke (call_bytes g way types v) memory) (call_bytes g way types v) × Framed memory (poke (call_bytes g way types v) memory) (call_bytes g way types v)

-- what encodings in which strings are stored alike place alike
abbrev pub PlacedAlike : Type 0
PlacedAlike = (e f : StringEncoding) (n m : ℕ) (g : Given) (k : ℕ) (parts : List Part) → stored_charset e ≡ stored_charset f → n ≤ m → ArePlaced e n g k parts → ArePlaced f m g k parts

abbrev pub ApartAlike : Type 0
ApartAlike = (e f : StringEncoding) (g : Given) (k : ℕ) (parts : List Part) → stored_charset e ≡ stored_charset f → AreApart e g k parts → AreApart f g k parts

abbrev pub SpelledLaw : Type 0
SpelledLaw = (t : Ty) (u : Val) (source : StringEncoding) (tags : List Bool) → IsStored source → HasType t u → HaveScalars source tags (parts_in t u)

abbrev pub CountedLaw : Type 0
CountedLaw = (ts : Fields) (u : Val) (source : StringEncoding) (tags : List Bool) → are_spellable ts ≡ true → content_of_parts source tags (parts_in (tuple_of ts) u) ≤ MAX_CONTENT → AreCounted (parts_in (tuple_of ts) u)

-- values that can be lowered, with what follows for them
pub record IsReady (p : Passing) (types : Fields) : Type 0 where
  pub kinds : p.kinds.now ≡ call_kinds (way_of p.way) types
  pub typed : HasType (tuple_of types) (tuple_in p)
  pub spellable : are_spellable types ≡ true
  pub cases : CasesFit (tuple_in p)
  pub counted : AreCounted (parts_passed p types)
  pub stores : CanStore p.encodings.target types
  pub spelled : HaveScalars p.encodings.source p.tags.now (parts_passed p types)

spelled_in : SpelledLaw → (e : StringEncoding) (tags : List Bool) (t : Ty) (u : Val) → HasType t u → (e ≡ encoding.Latin1OrUtf16 → HaveScalars e tags (parts_in t u)) → HaveScalars e tags (parts_in t u)
spelled_in law encoding.Utf8 tags t u typed told = law t u encoding.Utf8 tags tt typed
spelled_in law encoding.Utf16 tags t u typed told = law t u encoding.Utf16 tags tt typed
spelled_in law encoding.Latin1OrUtf16 tags t u typed told = told refl

pub ready : (p : Passing) (types : Fields) → SpelledLaw → CountedLaw → CasesFit (tuple_in p) → CanBeLowered p types → IsReady p types
ready p types spelled counted cases can = record {
  kinds = can.kinds;
  typed = can.typed;
  spellable = can.spellable;
  cases = cases;
  counted = counted types (tuple_in p) p.encodings.source p.tags.now can.spellable can.small;
  stores = can.stores;
  spelled = spelled_in spelled p.encodings.source p.tags.now (tuple_of types) (tuple_in p) can.typed can.spelled;
}

module _ (p : Passing) (types : Fields) (to : Receiver) (before after : Handles) (answers : List ℕ) (can : IsReady p types) where
  abbrev g : Given
  g = given_for p types to before answers

  abbrev v : Val
  v = tuple_in p

  abbrev parts_asked : List Part
  parts_asked = call_parts (way_of p.way) types (tuple_in p)

  pub given_is : (places numbers : List ℕ) (rs : List Request) → rs ≡ asked_for p types → places ≡ places_of rs answers → numbers ≡ numbers_given to before (handles_passed p types)
      → ◌≡◌ {A = Given} (record { places = places; numbers = numbers; charset = stored_charset p.encodings.target }) (given_for p types to before answers)
  given_is places numbers rs rs_is places_is numbers_is = rw (places_is, rs_is, numbers_is) refl

  pub placed : (n : ℕ) (rs : List Request) → PlacedLaw → rs ≡ asked_for p types → length answers ≡ length (asked_for p types) → first_fault n rs answers ≡ None
      → ArePlaced p.encodings.target n (given_for p types to before answers) 0 (call_parts (way_of p.way) types (tuple_in p))
  placed n rs law rs_is answered fine =
      law p.encodings.source p.encodings.target p.tags.now (call_parts (way_of p.way) types (tuple_in p)) answers n (given_for p types to before answers)
      (call_scalars p.encodings.source p.tags.now (way_of p.way) types (values_of p.values.now) can.spelled)
      (call_counted (way_of p.way) types (values_of p.values.now) can.counted) answered
      (subst (λ r. first_fault n r answers ≡ None) rs_is fine) refl

  pub apart : (rs : List Request) → ApartLaw → rs ≡ asked_for p types → length answers ≡ length (asked_for p types) → AreDisjoint (regions_of rs answers)
      → AreApart p.encodings.target (given_for p types to before answers) 0 (call_parts (way_of p.way) types (tuple_in p))
  apart rs law rs_is answered disjoint =
      (law p.encodings.source p.encodings.target p.tags.now (call_parts (way_of p.way) types (tuple_in p)) answers (given_for p types to before answers)
      (call_scalars p.encodings.source p.tags.now (way_of p.way) types (values_of p.values.now) can.spelled) answered refl).0
      (subst (λ r. AreDisjoint (regions_of r answers)) rs_is disjoint)

  pub final_slots : (h : Given) (zeros new : List ℕ) → h ≡ given_for p types to before answers → new ≡ poke (call_numbers h (way_of p.way) types (tuple_in p)) zeros
      → zeros ≡ replicate (length p.kinds.now) 0 → new ≡ poke (call_numbers (given_for p types to before answers) (way_of p.way) types (tuple_in p)) (replicate (length p.kinds.now) 0)
  final_slots h zeros new is new_is zeros_are =
      new_is ∙ (ap (λ x. poke (call_numbers x (way_of p.way) types (tuple_in p)) zeros) is
      ∙ ap (λ ns. poke (call_numbers (given_for p types to before answers) (way_of p.way) types (tuple_in p)) ns) zeros_are)

  pub call_stored : (h : Given) (old new : List ℕ) → h ≡ given_for p types to before answers → new ≡ poke (call_bytes h (way_of p.way) types (tuple_in p)) old
      → new ≡ poke (call_bytes (given_for p types to before answers) (way_of p.way) types (tuple_in p)) old
  call_stored h old new is new_is = new_is ∙ ap (λ x. poke (call_bytes x (way_of p.way) types (tuple_in p)) old) is

  pub framed : (old new : List ℕ) → StaysLaw
      → ArePlaced p.encodings.target (length old) (given_for p types to before answers) 0 (call_parts (way_of p.way) types (tuple_in p))
      → AreApart p.encodings.target (given_for p types to before answers) 0 (call_parts (way_of p.way) types (tuple_in p))
      → new ≡ poke (call_bytes (given_for p types to before answers) (way_of p.way) types (tuple_in p)) old
      → Framed old new (call_bytes (given_for p types to before answers) (way_of p.way) types (tuple_in p))
  framed old new law stand clear new_is =
      rw new_is (law (way_of p.way) types (given_for p types to before answers) (tuple_in p) p.encodings.target old can.typed refl stand clear).1

  all_places : length answers ≡ length (asked_for p types) → length (places_of (asked_for p types) answers) ≡ length (call_parts (way_of p.way) types (tuple_in p))
  all_places answered = places_counted p.encodings.source p.encodings.target p.tags.now (call_parts (way_of p.way) types (tuple_in p)) answers answered

  pub provided : (n slots : ℕ) → length answers ≡ length (asked_for p types)
      → ArePlaced p.encodings.target n (given_for p types to before answers) 0 (call_parts (way_of p.way) types (tuple_in p)) → slots ≡ length p.kinds.now
      → IsProvided (way_of p.way) types (tuple_in p) p.encodings.target (given_for p types to before answers) n slots
  provided n slots answered stand long =
      let counted = numbers_counted to before (handles_passed p types) ∙ handles_counted (tuple_of types) (tuple_in p) can.typed in
      record {
        typed = can.typed;
        placed = stand;
        places = omega (arith, all_places answered);
        numbers = omega (arith, counted);
        slots = omega (arith, long, ap length can.kinds);
      }

  pub puts : (n : ℕ) → n < 2 ^ 32 → length answers ≡ length (asked_for p types)
      → ArePlaced p.encodings.target n (given_for p types to before answers) 0 (call_parts (way_of p.way) types (tuple_in p))
      → All (λ m. m < 2 ^ 32) (numbers_given to before (handles_passed p types))
      → (e : ℕ) × PutsIn p.kinds.now 0 e (call_numbers (given_for p types to before answers) (way_of p.way) types (tuple_in p))
  puts n few answered stand small =
      rw can.kinds (call_puts (way_of p.way) types (values_of p.values.now) p.encodings.target n (given_for p types to before answers) refl few can.typed can.cases can.spellable stand
      (all_places answered) small)

  pub slots_fit : (e : ℕ) (slots : List ℕ) → PutsIn p.kinds.now 0 e (call_numbers (given_for p types to before answers) (way_of p.way) types (tuple_in p))
      → slots ≡ poke (call_numbers (given_for p types to before answers) (way_of p.way) types (tuple_in p)) (replicate (length p.kinds.now) 0)
      → AreNumbersOf p.kinds.now slots
  slots_fit e slots put is =
      rw is (poked_fit p.kinds.now 0 e (call_numbers (given_for p types to before answers) (way_of p.way) types (tuple_in p)) (replicate (length p.kinds.now) 0) (zeros_fit p.kinds.now) put)

  pub received : (w : View) (e : ℕ) (old new : List ℕ) (values : List CoreValue)
      → StaysLaw → PlacedAlike → ApartAlike → IsReceiving w p to new after
      → ArePlaced p.encodings.target (length old) (given_for p types to before answers) 0 (call_parts (way_of p.way) types (tuple_in p))
      → AreApart p.encodings.target (given_for p types to before answers) 0 (call_parts (way_of p.way) types (tuple_in p))
      → PutsIn p.kinds.now 0 e (call_numbers (given_for p types to before answers) (way_of p.way) types (tuple_in p))
      → Gives to before after (handles_passed p types) (numbers_given to before (handles_passed p types))
      → length new ≡ length old
      → new ≡ poke (call_bytes (given_for p types to before answers) (way_of p.way) types (tuple_in p)) old
      → map kind_of values ≡ p.kinds.now
      → map slot_number values ≡ poke (call_numbers (given_for p types to before answers) (way_of p.way) types (tuple_in p)) (replicate (length p.kinds.now) 0)
      → Receives w (way_of p.way) types values (given_for p types to before answers) (tuple_in p)
  received w e old new values law placed_alike apart_alike view stand clear put gives long new_is kinds numbers =
      let is = given_for p types to before answers in
      record {
        typed = can.typed;
        stored_in = sym view.stored_alike;
        numbers = subst (λ ks. AreNumbers ks values (call_numbers is (way_of p.way) types (tuple_in p))) can.kinds
            (are_numbers p.kinds.now e (call_numbers is (way_of p.way) types (tuple_in p)) values put kinds numbers);
        placed = placed_alike p.encodings.target w.encoding (length old) (length w.memory) is 0 (call_parts (way_of p.way) types (tuple_in p)) (sym view.stored_alike) (omega (arith, long, ap length view.memory_is)) stand;
        apart = apart_alike p.encodings.target w.encoding is 0 (call_parts (way_of p.way) types (tuple_in p)) (sym view.stored_alike) clear;
        bytes = rw (view.memory_is, new_is) (law (way_of p.way) types is (tuple_in p) p.encodings.target old can.typed refl stand clear).0;
        handles = gives.stand w is view.receiver refl;
      }

  pub served : (w : View) (old new : List ℕ)
      → length old < 2 ^ 32 → IsReceiving w p to new after → w.encoding ≡ p.encodings.target → length new ≡ length old
      → ArePlaced p.encodings.target (length old) (given_for p types to before answers) 0 (call_parts (way_of p.way) types (tuple_in p))
      → IsSoundHandles after
      → Serves w (way_of p.way) types (given_for p types to before answers) (tuple_in p)
  served w old new few view encoding long stand sound =
      let memory_long : length w.memory ≡ length old = ap length view.memory_is ∙ long in
      record {
        stores = subst (λ x. CanStore x types) (sym encoding) can.stores;
        memory = omega (arith, memory_long, few);
        table = subst (λ t. IsSoundHandles t) (sym view.receiver.table_is) sound;
        spellable = can.spellable;
        cases = can.cases;
      }
