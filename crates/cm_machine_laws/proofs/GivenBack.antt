-- Why what a caller gets back is the result, and why it stays while the callee tidies up.
use Rattle.std.proofs.Common.{◌≡◌, ℕ, zero, suc, ◌+◌, ◌-◌, ◌*◌, ◌≤◌, inl, inr, Bool, true}
use Rattle.std.proofs.Common.{false, List, [], ◌∷◌, ◌++◌, length, Option, Some, None, refl, sym, ap}
use Rattle.std.proofs.Common.{subst, ◌∙◌, arith}
use Rattle.std.specs.Prelude.{map, slice_index, slice_set, ◌==◌, if◌then◌else◌}
use Rattle.std.specs.Option.{option_map}
use Rattle.std.proofs.lemmas.Bool.{cases_eq, cases_lt, ltb-false}
use Rattle.std.proofs.lemmas.List.{get_or-set_other, get_or-set_same, length-map}
use Rattle.cm_types.specs.CoreValues.{kind_of}
use Rattle.cm_types.specs.declared.core_value.CoreKind.{CoreKind}
use Rattle.cm_types.specs.declared.core_value.CoreKind.TheVariants as kind
use Rattle.cm_types.specs.declared.core_value.CoreValue.{CoreValue}
use Rattle.cm_types.specs.declared.core_value.CoreValue.TheVariants as core_value
use Rattle.cm_types.specs.Types.{Fields}
use Rattle.cm_types.specs.Values.{Val}
use Rattle.cm_handles.specs.Handles.{Handles, after_unlend, handle_at, with_lends}
use Rattle.cm_handles.specs.declared.handle.Handle.{Handle}
use Rattle.cm_layout.specs.Flattening.{flat_of_fields}
use Rattle.cm_layout.specs.Sizes.{align_of, size_of}
use Rattle.cm_abi_model.specs.declared.encoding.StringEncoding.{StringEncoding}
use Rattle.cm_abi_model.specs.declared.request.Request.{Request}
use Rattle.cm_abi_model.specs.Later.{IsLater, UnlentStay}
use Rattle.cm_abi_model.specs.Numbers.{slot_at}
use Rattle.cm_abi_model.specs.Parts.{element_part, parts_in}
use Rattle.cm_abi_model.specs.Receives.{Receives, SlotsHold, call_bytes, put, slots_of}
use Rattle.cm_abi_model.specs.Requests.{is_spilled, part_requests, requests, tuple_of}
use Rattle.cm_abi_model.specs.Stores.{Given, Holds, place_of}
use Rattle.cm_abi_model.specs.Views.{View, Way, results}
use Rattle.cm_abi_model.specs.Answering.{begins_part, places_of, regions_of}
use Rattle.cm_abi_model.specs.declared.region.Region.{Region}
use Rattle.cm_machine_model.specs.Memories.{memory_at}
use Rattle.cm_machine_model.specs.declared.frame.Lend.{Lend}
use Rattle.cm_machine_model.specs.State.{State, table_at, tables_after_call, tables_after_unlend}
use Rattle.cm_machine_model.specs.State.{view_of}
use Rattle.cm_machine_model.specs.Step.{as_values, first_value}
use Rattle.cm_machine_laws.specs.Entries.{GivesBack}
use Rattle.cm_abi_model.proofs.RequestsLaws.{starts}
use Rattle.cm_machine_model.proofs.StateLaws.{table_same}
use Rattle.cm_handles.proofs.SoundHandles.{within_slots}

-- What is received stays.
abbrev pub ReceivedStays : Type 0
ReceivedStays = (w u : View) (way : Way) (types : Fields) (slots : List CoreValue) (g : Given) (v : Val) → Receives w way types slots g v → IsLater w u (call_bytes g way types v) → Receives u way types slots g v

-- ---- handles that are lent to nobody stand while lends end

unlend_stays : (t : Handles) (k index : ℕ) (h : Handle) → handle_at t index ≡ Some h → h.lends ≡ 0 → handle_at (after_unlend t k) index ≡ Some h
unlend_stays t k index h stands none = elim (cases_eq index k) as (λ r. handle_at (after_unlend t k) index ≡ Some h) [
  | inl same ↦ subst (λ (j : ℕ). handle_at (after_unlend t j) index ≡ Some h) same
      (get_or-set_same t.slots index (option_map (λ x. with_lends (x.lends - 1) x) (handle_at t index)) None (within_slots t index h stands)
      ∙ (ap (λ (o : Option Handle). option_map (λ x. with_lends (x.lends - 1) x) o) stands ∙ ap (λ (n : ℕ). Some (with_lends n h)) (less h.lends none)))
  | inr apart ↦ get_or-set_other t.slots k index (option_map (λ x. with_lends (x.lends - 1) x) (handle_at t k)) None apart ∙ stands
] where
  less : (n : ℕ) → n ≡ 0 → n - 1 ≡ n
  less n e = omega (arith, e)

set_other : (ts : List Handles) (i j : ℕ) (t : Handles) → (j ≡ i → ⊥) → table_at (slice_set ts i t) j ≡ table_at ts j
set_other [] i j t ne = refl
set_other (x ∷ ts) zero zero t ne = absurd (ne refl)
set_other (x ∷ ts) zero (suc j) t ne = refl
set_other (x ∷ ts) (suc i) zero t ne = refl
set_other (x ∷ ts) (suc i) (suc j) t ne = set_other ts i j t (λ e. ne (ap suc e))

set_past : (ts : List Handles) (i : ℕ) (t : Handles) → length ts ≤ i → slice_set ts i t ≡ ts
set_past [] i t le = refl
set_past (x ∷ ts) zero t le = absurd (omega (arith, le))
set_past (x ∷ ts) (suc i) t le = ap (λ (xs : List Handles). x ∷ xs) (set_past ts i t (omega (arith, le)))

one_unlent : (ts : List Handles) (l : Lend) (i : ℕ) → UnlentStay (table_at ts i) (table_at (tables_after_unlend l ts) i)
one_unlent ts l i index h stands none = elim (cases_eq i l.instance) as (λ r. handle_at (table_at (tables_after_unlend l ts) i) index ≡ Some h) [
  | inl same ↦ elim (cases_lt l.instance (length ts)) as (λ r. handle_at (table_at (tables_after_unlend l ts) i) index ≡ Some h) [
    | inl lt ↦ subst (λ (j : ℕ). handle_at (table_at (tables_after_unlend l ts) j) index ≡ Some h) (sym same)
        (subst (λ (t : Handles). handle_at t index ≡ Some h) (sym (table_same ts l.instance (after_unlend (table_at ts l.instance) l.index) lt))
        (unlend_stays (table_at ts l.instance) l.index index h (subst (λ (j : ℕ). handle_at (table_at ts j) index ≡ Some h) same stands) none))
    | inr past ↦ subst (λ (xs : List Handles). handle_at (table_at xs i) index ≡ Some h) (sym (set_past ts l.instance (after_unlend (table_at ts l.instance) l.index) past)) stands
  ]
  | inr ne ↦ subst (λ (t : Handles). handle_at t index ≡ Some h) (sym (set_other ts l.instance i (after_unlend (table_at ts l.instance) l.index) ne)) stands
]

pub call_unlent : (n : ℕ) (ls : List Lend) (ts : List Handles) (i : ℕ) → UnlentStay (table_at ts i) (table_at (tables_after_call n ls ts) i)
call_unlent n [] ts i index h stands none = stands
call_unlent n (l ∷ ls) ts i index h stands none =
    call_unlent n ls (if l.frame == n then tables_after_unlend l ts else ts) i index h (by (l.frame == n)) none where
      by : (b : Bool) → handle_at (table_at (if b then tables_after_unlend l ts else ts) i) index ≡ Some h
      by true = one_unlent ts l i index h stands none
      by false = stands

-- what is received is so once the lends of a call have ended
pub received_after : ReceivedStays → (s new : State) (i : ℕ) (e : StringEncoding) (m n : ℕ) (ls : List Lend) (types : Fields) (slots : List CoreValue) (g : Given) (v : Val)
    → new.memories ≡ s.memories → new.tables ≡ tables_after_call n ls s.tables
    → Receives (view_of s i e m) results types slots g v → Receives (view_of new i e m) results types slots g v
received_after stays s new i e m n ls types slots g v memories tables r =
    stays (view_of s i e m) (view_of new i e m) results types slots g v r (record {
      instance_is = refl;
      call_is = refl;
      stored_alike = refl;
      longer = omega (arith, ap (λ (ms : List (List ℕ)). length (memory_at ms i)) memories);
      stand = subst (λ (ms : List (List ℕ)). Holds (memory_at ms i) (call_bytes g results types v)) (sym memories) r.bytes;
      unlent = subst (λ (ts : List Handles). UnlentStay (table_at s.tables i) (table_at ts i)) (sym tables) (call_unlent n ls s.tables i);
    })

-- ---- core values

one_kind : (slots : List CoreValue) → map kind_of slots ≡ kind.I32 ∷ [] → slots ≡ core_value.I32 (slot_at slots 0) ∷ []
one_kind [] e = absurd (differ e) where
  differ : [] ≡ kind.I32 ∷ [] → ⊥
  differ x = cc (x)
one_kind (core_value.I32 n ∷ []) e = refl
one_kind (core_value.I32 n ∷ d ∷ cs) e = absurd (differ (kind_of d) (map kind_of cs) e) where
  differ : (k : CoreKind) (ks : List CoreKind) → kind.I32 ∷ k ∷ ks ≡ kind.I32 ∷ [] → ⊥
  differ k ks x = cc (x)
one_kind (core_value.I64 n ∷ cs) e = absurd (differ (map kind_of cs) e) where
  differ : (ks : List CoreKind) → kind.I64 ∷ ks ≡ kind.I32 ∷ [] → ⊥
  differ ks x = cc (x)

pub at_most_one : (slots : List CoreValue) → length slots ≤ 1 → as_values (first_value slots) ≡ slots
at_most_one [] le = refl
at_most_one (c ∷ []) le = refl
at_most_one (c ∷ d ∷ cs) le = absurd (omega (arith, le))

first_place : (r : Request) (rs : List Request) (a : ℕ) (answers : List ℕ) → begins_part rs ≡ true → slice_index (places_of (r ∷ rs) (a ∷ answers)) 0 ≡ a
first_place r rs a answers first = by (begins_part rs) first where
  by : (b : Bool) → b ≡ true → slice_index (map (λ (x : Region). x.at) (if b then record { at = a; size = r.size } ∷ regions_of rs answers else regions_of rs answers)) 0 ≡ a
  by true e = refl
  by false e = absurd (differ e) where
    differ : false ≡ true → ⊥
    differ x = cc (x)

-- what the core values of a result give back: nothing where it goes by memory to this place
pub gives_back : (w : View) (types : Fields) (slots : List CoreValue) (g : Given) (v : Val) (source target : StringEncoding) (tags : List Bool) (place : ℕ) (answers : List ℕ)
    → Receives w results types slots g v → g.places ≡ places_of (requests results types v source target tags) ((if is_spilled results types then place ∷ [] else []) ++ answers)
    → GivesBack (is_spilled results types) place slots (as_values (first_value (if is_spilled results types then [] else slots)))
    × (as_values (first_value (if is_spilled results types then [] else slots)) ≡ (if is_spilled results types then [] else slots))
gives_back w types slots g v source target tags place answers r places =
    by (is_spilled results types) refl r.numbers.of_kinds (λ e. first e) where
      at_first : (b : Bool) → b ≡ true → g.places ≡ places_of (part_requests source target tags (if b then element_part 1 (size_of (tuple_of types)) (align_of (tuple_of types)) ∷ parts_in (tuple_of types) v else parts_in (tuple_of types) v)) ((if b then place ∷ [] else []) ++ answers)
          → slice_index g.places 0 ≡ place
      at_first true e p =
          ap (λ (xs : List ℕ). slice_index xs 0) p
          ∙ first_place (record { chained = false; old_size = 0; align = align_of (tuple_of types); size = 1 * size_of (tuple_of types) })
          (part_requests source target tags (parts_in (tuple_of types) v)) place answers (starts source target tags (parts_in (tuple_of types) v))
      at_first false e p = absurd (differ e) where
        differ : false ≡ true → ⊥
        differ x = cc (x)

      first : is_spilled results types ≡ true → slot_at slots 0 ≡ place
      first e = hold (is_spilled results types) e r.numbers.numbers ∙ at_first (is_spilled results types) e places where
        hold : (b : Bool) → b ≡ true → SlotsHold slots (if b then put 0 (place_of g 0) else slots_of g (tuple_of types) v 0 0 0) → slot_at slots 0 ≡ place_of g 0
        hold true e x = x.0
        hold false e x = absurd (differ e) where
          differ : false ≡ true → ⊥
          differ y = cc (y)

      by : (b : Bool) → is_spilled results types ≡ b → map kind_of slots ≡ (if b then kind.I32 ∷ [] else flat_of_fields types) → (is_spilled results types ≡ true → slot_at slots 0 ≡ place)
          → GivesBack b place slots (as_values (first_value (if b then [] else slots))) × (as_values (first_value (if b then [] else slots)) ≡ (if b then [] else slots))
      by true is kinds at = ((one_kind slots kinds ∙ ap (λ (n : ℕ). core_value.I32 n ∷ []) (at is), refl), refl)
      by false is kinds at =
          let few : length slots ≤ 1 = omega (arith, sym (length-map slots kind_of) ∙ ap (λ (ks : List CoreKind). length ks) kinds, ltb-false 1 (length (flat_of_fields types)) is) in
          (at_most_one slots few, at_most_one slots few)
