-- The row of a body's return, judged by the causes of its traps.
use Rattle.std.proofs.Common.{◌≡◌, ℕ, zero, suc, ◌+◌, ◌<◌, ◌≤◌, ◌⊎◌, inl, inr, Bool, true, false, List, [], ◌∷◌, ◌++◌, length, Option, Some, None, refl, sym, ap, subst, ◌∙◌, arith, if◌then◌else◌}
use Rattle.std.specs.Prelude.{slice_get}
use Rattle.std.proofs.Math.Nat.{lt_of_not-le}
use Rattle.std.proofs.lemmas.Option.{none-some, same_Some}
use Rattle.cm_types.specs.declared.core_value.CoreValue.{CoreValue}
use Rattle.cm_types.specs.Types.{Fields}
use Rattle.cm_types.specs.Values.{Val}
use Rattle.cm_handles.specs.Handles.{Handles, indices_left}
use Rattle.cm_layout.specs.Sizes.{align_of, size_of}
use Rattle.cm_abi_model.specs.declared.encoding.StringEncoding.{StringEncoding}
use Rattle.cm_abi_model.specs.declared.fault.AbiFault.{AbiFault}
use Rattle.cm_abi_model.specs.declared.fault.AbiFault.TheVariants as fault
use Rattle.cm_abi_model.specs.declared.receiver.Receiver.{Receiver}
use Rattle.cm_abi_model.specs.declared.record.PartRecord.{PartRecord}
use Rattle.cm_abi_model.specs.declared.region.Region.{Region}
use Rattle.cm_abi_model.specs.declared.request.Request.{Request}
use Rattle.cm_abi_model.specs.Answered.{last_answer}
use Rattle.cm_abi_model.specs.Answering.{answer_fault, begins_part, regions_of}
use Rattle.cm_abi_model.specs.Giving.{added_count}
use Rattle.cm_abi_model.specs.LiftStops.{LiftStops}
use Rattle.cm_abi_model.specs.Overlap.{AreDisjoint}
use Rattle.cm_abi_model.specs.Receives.{HandleLeaf, leaves_in}
use Rattle.cm_abi_model.specs.RecordRequests.{tags_of}
use Rattle.cm_abi_model.specs.Requests.{is_spilled, parts_of, requests, spilled_request, tuple_of}
use Rattle.cm_abi_model.specs.Texts.{IsAligned}
use Rattle.cm_abi_model.specs.Views.{Way, results}
use Rattle.cm_machine_model.specs.declared.event.Event.{Event}
use Rattle.cm_machine_model.specs.declared.event.Event.TheVariants as event
use Rattle.cm_machine_model.specs.declared.event.Trap.{Trap}
use Rattle.cm_machine_model.specs.declared.event.Trap.TheVariants as trap
use Rattle.cm_machine_model.specs.Memories.{memory_at}
use Rattle.cm_machine_model.specs.declared.frame.Call.{Call}
use Rattle.cm_machine_model.specs.declared.frame.Phase.TheVariants as phase
use Rattle.cm_machine_model.specs.Passages.{IsAnswered, IsScanned, as_args, asked_for}
use Rattle.cm_machine_model.specs.Plan.{giver_side, receiver_side, types_of}
use Rattle.cm_machine_model.specs.State.{Passage, State, table_at}
use Rattle.cm_machine_model.specs.Step.{GoesOn, GoesOnBy, PlacesResult, ReturnsIn, ReturnsResult, UnlessNoMemory, UnlessWrong, after_lift_of_result, receiver_of, result_view, top_place, trap_of}
use Rattle.cm_machine_laws.specs.Causes.{BodyCause, PlaceCause, lift_traps}
use Rattle.cm_machine_laws.specs.Doing.{BodyReturn, LoweredCall}
use Rattle.cm_machine_laws.specs.Told.{WasReturned, answered_before, answers_back, is_by_memory, result_place_of, result_receiver, returned_leaves, returned_requests}
use Rattle.cm_machine_laws.proofs.AnswerRows.{FaultIs, IsFine, beyond, fault_is, fine_is, misaligned, received_not, within}
use Rattle.cm_machine_laws.proofs.Judging.{Causing, Judged, check, check_behind, here_behind, memory, next_behind, passes, skip}
use Rattle.cm_machine_laws.proofs.Lifting.{Laws, Only, leaves_want, lifts_judged, parts_want}
use Rattle.cm_machine_laws.proofs.LowerRows.{asks_not, other_table}
use Rattle.cm_lemmas.proofs.Bools.{true_is_not_false}

-- where the tuple goes by memory, its bytes are asked for first
abbrev pub TupleFirst : Type 0
TupleFirst = (way : Way) (types : Fields) (v : Val) (source target : StringEncoding) (tags : List Bool) → is_spilled way types ≡ true
    → slice_get (requests way types v source target tags) 0 ≡ Some (spilled_request types)

-- A call whose body returns now: of this link, by this caller, at the place of the frame on top; the
-- place for its result is the one that it was given.
pub record Returning (s : State) (call : Call) (x : LoweredCall) (values : List CoreValue) : Type 0 where
  pub placed : x.place ≡ top_place s
  pub caller : x.caller ≡ call.caller
  pub apart : call.caller ≡ x.link.instance → ⊥
  pub result_at : is_by_memory x ≡ true → call.result_at ≡ result_place_of x

abbrev pub returned_by : State → LoweredCall → List CoreValue → BodyReturn
returned_by s x values = record { callee = x.link.instance; values = values; state = s }

abbrev pub at_top : State → LoweredCall → LoweredCall
at_top s x = record { caller = x.caller; link = x.link; args = x.args; state = x.state; place = top_place s }

abbrev pub ByBody : State → LoweredCall → List CoreValue → Causing
ByBody s x values t = BodyCause s (at_top s x) (returned_by s x values) t

-- ---- few answers

pub none_of : (rs : List Request) → regions_of rs [] ≡ []
none_of [] = refl
none_of (r ∷ rs) = refl

one_apart : (r : Region) → AreDisjoint (r ∷ [])
one_apart r = (λ a is among. among, tt)

few_apart : (rs : List Request) (a : ℕ) → AreDisjoint (regions_of rs (a ∷ []))
few_apart [] a = tt
few_apart (r ∷ rs) a = by_begin (begins_part rs) where
  by_begin : (b : Bool) → AreDisjoint (if b then record { at = a; size = r.size } ∷ regions_of rs [] else regions_of rs [])
  by_begin true = subst (λ (qs : List Region). AreDisjoint (record { at = a; size = r.size } ∷ qs)) (sym (none_of rs)) (one_apart (record { at = a; size = r.size }))
  by_begin false = subst AreDisjoint (sym (none_of rs)) tt

-- the answers that came before the first event, and that their regions are apart
pub data Before : List ℕ → Type 0 where
  no_answer : Before []
  one_answer : (a : ℕ) → Before (a ∷ [])

pub apart_before : (rs : List Request) (answers : List ℕ) → Before answers → AreDisjoint (regions_of rs answers)
apart_before rs _ no_answer = subst AreDisjoint (sym (none_of rs)) tt
apart_before rs _ (one_answer a) = few_apart rs a

nothing_behind : (xs : List ℕ) → xs ++ [] ≡ xs
nothing_behind [] = refl
nothing_behind (x ∷ xs) = ap (λ (ys : List ℕ). x ∷ ys) (nothing_behind xs)

past : (rs : List Request) (n : ℕ) → slice_get rs n ≡ None → length rs ≤ n
past [] n e = omega arith
past (r ∷ rs) zero e = absurd (none-some r (sym e))
past (r ∷ rs) (suc n) e = more (past rs n e) where
  more : length rs ≤ n → suc (length rs) ≤ suc n
  more le = omega (arith, le)

-- ---- behind the lift

-- what was found of the result
pub record Lifted (s : State) (x : LoweredCall) (values : List CoreValue) (v : Val) (p : Passage) : Type 0 where
  pub returned : WasReturned (at_top s x) (returned_by s x values) v
  pub scanned : IsScanned (result_view s x.link) x.link results values v p

goes_judged : (laws : Laws) (s st : State) (call : Call) (x : LoweredCall) (values : List CoreValue) (of : Returning s call x values) (v : Val) (p q : Passage) → Lifted s x values v p
    → st.tables ≡ (after_lift_of_result s x.link call values v p).tables → asked_for x.link results q v ≡ asked_for x.link results p v → q.leaves ≡ p.leaves
    → (answers : List ℕ) → Before answers → answers ≡ answered_before x → length answers ≤ length (asked_for x.link results p v)
    → (o : Option Request) → slice_get (asked_for x.link results q v) (length answers) ≡ o → (e : Event) (new : State)
    → GoesOnBy o st (top_place s) x.link results call q v (asked_for x.link results q v) answers e new
    → Judged [] (trap.TableFull ∷ []) (ByBody s x values) e
goes_judged laws s st call x values of v p q found tables same_requests same_leaves answers before is_before few (Some r) is e new row =
    passes (trap.TableFull ∷ []) (ByBody s x values) e
    (asks_not (receiver_side x.link results).realloc (receiver_of results (top_place s) x.link call).instance (as_args (last_answer answers) r) st e new row) (none, tt) where
      count : length answers < length (asked_for x.link results p v)
      count = within (asked_for x.link results p v) (length answers) r (subst (λ (rs : List Request). slice_get rs (length answers) ≡ Some r) same_requests is)

      none : ByBody s x values trap.TableFull → ⊥
      none c = both (length answers) (length (asked_for x.link results p v)) (length (returned_requests (at_top s x) (returned_by s x values) c.0)) (length (answers_back (at_top s x) [])) count
          (ap (λ (rs : List Request). length rs) (found.scanned.asks
          ∙ ap (λ (u : Val). returned_requests (at_top s x) (returned_by s x values) u) (laws.denoted (result_view s x.link) results (types_of x.link results) values v c.0 found.returned.denoted c.1.denoted)))
          c.2 (ap (λ (xs : List ℕ). length xs) (nothing_behind (answered_before x) ∙ sym is_before)) where
            both : (a n m b : ℕ) → a < n → n ≡ m → m ≡ b → b ≡ a → ⊥
            both a n m b lt f g h = absurd (omega (arith, lt, f, g, h))
goes_judged laws s st call x values of v p q found tables same_requests same_leaves answers before is_before few None is e new (inl y) =
    absurd (y.0 (apart_before (asked_for x.link results q v) answers before))
goes_judged laws s st call x values of v p q found tables same_requests same_leaves answers before is_before few None is e new (inr y) =
    check_behind st [] (ByBody s x values) e new trap.TableFull full not_full y.1
    (λ le z. memory st [] (ByBody s x values) e new
    (λ some. leaves_want laws (result_view s x.link) results (types_of x.link results) values v found.returned.denoted (λ none. some (leaves_are ∙ none))) z
    (λ w. passes [] (ByBody s x values) e (received_not results (top_place s) x.link call q w.1 _ e new w.3) tt)) where
      leaves_are : q.leaves ≡ leaves_in (tuple_of (types_of x.link results)) v
      leaves_are = same_leaves ∙ found.scanned.carried.handles

      Room : Type 0
      Room = added_count (receiver_of results (top_place s) x.link call) q.leaves ≤ indices_left (table_at st.tables call.caller)

      to : Receiver
      to = result_receiver (at_top s x)

      tables_are : table_at st.tables call.caller ≡ table_at s.tables x.caller
      tables_are = ap (λ (ts : List Handles). table_at ts call.caller) tables ∙ (other_table s.tables x.link.instance call.caller _ of.apart ∙ ap (λ (i : ℕ). table_at s.tables i) (sym of.caller))

      same_to : receiver_of results (top_place s) x.link call ≡ to
      same_to = ap (λ (i : ℕ). record { instance = i; call = top_place s }) (sym of.caller)

      all : length (returned_requests (at_top s x) (returned_by s x values) v) ≡ length (answers_back (at_top s x) [])
      all = both (length (asked_for x.link results p v)) (length answers) (length (returned_requests (at_top s x) (returned_by s x values) v)) (length (answers_back (at_top s x) []))
          (ap (λ (rs : List Request). length rs) (sym found.scanned.asks)) few
          (subst (λ (rs : List Request). length rs ≤ length answers) same_requests (past (asked_for x.link results q v) (length answers) is))
          (ap (λ (xs : List ℕ). length xs) (nothing_behind (answered_before x) ∙ sym is_before)) where
            both : (n a m b : ℕ) → m ≡ n → a ≤ n → n ≤ a → b ≡ a → m ≡ b
            both n a m b e f g h = omega (arith, e, f, g, h)

      full : (Room → ⊥) → ByBody s x values trap.TableFull
      full f = (v, found.returned, all, lt_of_not-le (λ le. f (back le))) where
        back : added_count to (returned_leaves (at_top s x) v) ≤ indices_left (table_at s.tables x.caller) → Room
        back le = subst (λ (t : Handles). added_count (receiver_of results (top_place s) x.link call) q.leaves ≤ indices_left t) (sym tables_are)
            (subst (λ (r : Receiver). added_count r q.leaves ≤ indices_left (table_at s.tables x.caller)) (sym same_to)
            (subst (λ (ls : List HandleLeaf). added_count to ls ≤ indices_left (table_at s.tables x.caller)) (sym leaves_are) le))

      not_full : Room → ByBody s x values trap.TableFull → ⊥
      not_full le c = not_both (added_count to (returned_leaves (at_top s x) v)) (indices_left (table_at s.tables x.caller)) forth
          (subst (λ (u : Val). indices_left (table_at s.tables x.caller) < added_count to (returned_leaves (at_top s x) u))
          (laws.denoted (result_view s x.link) results (types_of x.link results) values c.0 v c.1.denoted found.returned.denoted) c.3) where
            forth : added_count to (returned_leaves (at_top s x) v) ≤ indices_left (table_at s.tables x.caller)
            forth = subst (λ (ls : List HandleLeaf). added_count to ls ≤ indices_left (table_at s.tables x.caller)) leaves_are
                (subst (λ (r : Receiver). added_count r q.leaves ≤ indices_left (table_at s.tables x.caller)) same_to
                (subst (λ (t : Handles). added_count (receiver_of results (top_place s) x.link call) q.leaves ≤ indices_left t) tables_are le))

            not_both : (a b : ℕ) → a ≤ b → b < a → ⊥
            not_both a b f g = absurd (omega (arith, f, g))

-- ---- the place of a result

-- where a value was returned, lifting stops at nothing
no_stop : (laws : Laws) (s : State) (x : LoweredCall) (values : List CoreValue) (v : Val) → WasReturned (at_top s x) (returned_by s x values) v → (t : Trap)
    → (f : AbiFault) × (trap_of f ≡ t) × LiftStops (result_view s x.link) results (types_of x.link results) values f → ⊥
no_stop laws s x values v returned t c = laws.beside (result_view s x.link) results (types_of x.link results) values c.0 v c.2 returned.denoted returned.transferable

abbrev pub Stopped : State → LoweredCall → List CoreValue → Trap → Type 0
Stopped s x values t = (f : AbiFault) × (trap_of f ≡ t) × LiftStops (result_view s x.link) results (types_of x.link results) values f

-- a cause of these is none of the place
abbrev pub ByResult : State → LoweredCall → List CoreValue → Trap → Type 0
ByResult s x values t = Stopped s x values t ⊎ ((v : Val) × WasReturned (at_top s x) (returned_by s x values) v × PlaceCause (at_top s x) (memory_at s.memories x.caller) t)

plain_none : (laws : Laws) (s : State) (x : LoweredCall) (values : List CoreValue) (v : Val) → WasReturned (at_top s x) (returned_by s x values) v → (t : Trap)
    → (PlaceCause (at_top s x) (memory_at s.memories x.caller) t → ⊥) → ByResult s x values t → ⊥
plain_none laws s x values v returned t no_place (inl c) = no_stop laws s x values v returned t c
plain_none laws s x values v returned t no_place (inr c) = no_place c.2

skip_rest : (laws : Laws) (s : State) (x : LoweredCall) (values : List CoreValue) (v : Val) → WasReturned (at_top s x) (returned_by s x values) v → (e : Event)
    → Judged [] (trap.TableFull ∷ []) (ByBody s x values) e
    → Judged [] ((trap.BadChar ∷ trap.BadCase ∷ trap.TooLarge ∷ trap.BadText ∷ trap.NoHandle ∷ trap.WrongResource ∷ trap.StillLent ∷ trap.NotOwned ∷ []) ++ trap.TableFull ∷ []) (ByBody s x values) e
skip_rest laws s x values v returned e j =
    skip (trap.BadChar ∷ trap.BadCase ∷ trap.TooLarge ∷ trap.BadText ∷ trap.NoHandle ∷ trap.WrongResource ∷ trap.StillLent ∷ trap.NotOwned ∷ []) (trap.TableFull ∷ []) (ByBody s x values) e
    (plain_none laws s x values v returned trap.BadChar (λ c. c), (plain_none laws s x values v returned trap.BadCase (λ c. c), (plain_none laws s x values v returned trap.TooLarge (λ c. c), (plain_none laws s x values v returned trap.BadText (λ c. c), (plain_none laws s x values v returned trap.NoHandle (λ c. c), (plain_none laws s x values v returned trap.WrongResource (λ c. c), (plain_none laws s x values v returned trap.StillLent (λ c. c), (plain_none laws s x values v returned trap.NotOwned (λ c. c), tt))))))))
    j

in_place : (b : Bool) (xs : List ℕ) (a : ℕ) → b ≡ true → (if b then a ∷ [] else []) ≡ a ∷ []
in_place b xs a e = ap (λ (c : Bool). if c then a ∷ [] else []) e

places_judged : (laws : Laws) (tuple : TupleFirst) (s : State) (call : Call) (x : LoweredCall) (values : List CoreValue) (of : Returning s call x values) (v : Val) (p : Passage) → Lifted s x values v p
    → (b : Bool) → is_spilled results (types_of x.link results) ≡ b → (e : Event) (new : State) → PlacesResult b (after_lift_of_result s x.link call values v p) x.link call p v e new
    → Judged [] (lift_traps ++ trap.TableFull ∷ []) (ByBody s x values) e
places_judged laws tuple s call x values of v p found false flat e new row =
    next_behind _ (ByBody s x values) e trap.Misaligned (plain_none laws s x values v found.returned trap.Misaligned (λ c. true_is_not_false (is_spilled results (types_of x.link results)) flat c.0))
    (next_behind _ (ByBody s x values) e trap.PointerBounds (plain_none laws s x values v found.returned trap.PointerBounds (λ c. true_is_not_false (is_spilled results (types_of x.link results)) flat c.0))
    (skip_rest laws s x values v found.returned e
    (goes_judged laws s (after_lift_of_result s x.link call values v p) call x values of v p p found refl refl refl [] no_answer (sym none_before) (omega arith)
    (slice_get (asked_for x.link results p v) 0) refl e new row))) where
      none_before : answered_before x ≡ []
      none_before = ap (λ (c : Bool). if c then result_place_of x ∷ [] else []) flat
places_judged laws tuple s call x values of v p found true spilled e new row =
    by_fault (answer_fault (length mem) row.0 call.result_at) refl row.2 where
      mem : List ℕ
      mem = memory_at s.memories call.caller

      request_is : row.0 ≡ spilled_request (types_of x.link results)
      request_is = same_Some row.0 (spilled_request (types_of x.link results)) (sym row.1 ∙ tuple results (types_of x.link results) v x.link.callee.encoding x.link.caller.encoding (tags_of p.records) spilled)

      mem_is : memory_at s.memories x.caller ≡ mem
      mem_is = ap (λ (i : ℕ). memory_at s.memories i) of.caller

      at_is : call.result_at ≡ result_place_of x
      at_is = of.result_at spilled

      aligned_of : IsAligned row.0.align call.result_at → IsAligned (align_of (tuple_of (types_of x.link results))) (result_place_of x)
      aligned_of is = subst (λ (n : ℕ). IsAligned n (result_place_of x)) (ap (λ (r : Request). r.align) request_is) (subst (λ (a : ℕ). IsAligned row.0.align a) at_is is)

      aligned_back : IsAligned (align_of (tuple_of (types_of x.link results))) (result_place_of x) → IsAligned row.0.align call.result_at
      aligned_back is = subst (λ (a : ℕ). IsAligned row.0.align a) (sym at_is) (subst (λ (n : ℕ). IsAligned n (result_place_of x)) (sym (ap (λ (r : Request). r.align) request_is)) is)

      beyond_of : length mem < call.result_at + row.0.size → length (memory_at s.memories x.caller) < result_place_of x + size_of (tuple_of (types_of x.link results))
      beyond_of lt = subst (λ (m : List ℕ). length m < result_place_of x + size_of (tuple_of (types_of x.link results))) (sym mem_is)
          (subst (λ (n : ℕ). length mem < result_place_of x + n) (ap (λ (r : Request). r.size) request_is) (subst (λ (a : ℕ). length mem < a + row.0.size) at_is lt))

      beyond_back : length (memory_at s.memories x.caller) < result_place_of x + size_of (tuple_of (types_of x.link results)) → length mem < call.result_at + row.0.size
      beyond_back lt = subst (λ (a : ℕ). length mem < a + row.0.size) (sym at_is) (subst (λ (n : ℕ). length mem < result_place_of x + n) (sym (ap (λ (r : Request). r.size) request_is))
          (subst (λ (m : List ℕ). length m < result_place_of x + size_of (tuple_of (types_of x.link results))) mem_is lt))

      before_is : call.result_at ∷ [] ≡ answered_before x
      before_is = ap (λ (a : ℕ). a ∷ []) at_is ∙ sym (ap (λ (c : Bool). if c then result_place_of x ∷ [] else []) spilled)

      by_kind : (g : AbiFault) → FaultIs (length mem) row.0 call.result_at g → e ≡ event.Trapped (trap_of g) → Judged [] (lift_traps ++ trap.TableFull ∷ []) (ByBody s x values) e
      by_kind _ (misaligned wrong) eq =
          here_behind _ (ByBody s x values) e trap.Misaligned (inr (v, found.returned, (spilled, λ is. wrong (aligned_back is)))) eq
      by_kind _ (beyond is lt) eq =
          next_behind _ (ByBody s x values) e trap.Misaligned (plain_none laws s x values v found.returned trap.Misaligned (λ c. c.1 (aligned_of is)))
          (here_behind _ (ByBody s x values) e trap.PointerBounds (inr (v, found.returned, (spilled, aligned_of is, beyond_of lt))) eq)

      by_fault : (o : Option AbiFault) → answer_fault (length mem) row.0 call.result_at ≡ o
          → UnlessWrong (after_lift_of_result s x.link call values v p) o (λ e new. (q : Passage) × IsAnswered (asked_for x.link results p v) p call.result_at q
          × GoesOn (record (after_lift_of_result s x.link call values v p) { passage = Some q }) (top_place s) x.link results call q v (call.result_at ∷ []) e new) e new
          → Judged [] (lift_traps ++ trap.TableFull ∷ []) (ByBody s x values) e
      by_fault (Some f) is y = by_kind f (fault_is (length mem) row.0 call.result_at f is) y.0
      by_fault None is y =
          let fine : IsFine (length mem) row.0 call.result_at = fine_is (length mem) row.0 call.result_at is in
          let same : asked_for x.link results y.0 v ≡ asked_for x.link results p v =
          ap (λ (rs : List PartRecord). requests results (types_of x.link results) v (giver_side x.link results).encoding (receiver_side x.link results).encoding (tags_of rs)) y.1.records in
          next_behind _ (ByBody s x values) e trap.Misaligned (plain_none laws s x values v found.returned trap.Misaligned (λ c. c.1 (aligned_of fine.aligned)))
          (next_behind _ (ByBody s x values) e trap.PointerBounds (plain_none laws s x values v found.returned trap.PointerBounds (λ c. fine.inside (beyond_back c.2)))
          (skip_rest laws s x values v found.returned e
          (goes_judged laws s (record (after_lift_of_result s x.link call values v p) { passage = Some y.0 }) call x values of v p y.0 found refl same y.1.leaves
          (call.result_at ∷ []) (one_answer call.result_at) before_is
          (within (asked_for x.link results p v) 0 row.0 row.1)
          (slice_get (asked_for x.link results y.0 v) 1) refl e new y.2)))

-- ---- the whole return

cause_at : (laws : Laws) (s : State) (x : LoweredCall) (values : List CoreValue) (f : AbiFault) → LiftStops (result_view s x.link) results (types_of x.link results) values f → ByBody s x values (trap_of f)
cause_at laws s x values fault.Misaligned stops = inl (fault.Misaligned, refl, stops)
cause_at laws s x values fault.PointerBounds stops = inl (fault.PointerBounds, refl, stops)
cause_at laws s x values fault.BadChar stops = inl (fault.BadChar, refl, stops)
cause_at laws s x values fault.BadCase stops = inl (fault.BadCase, refl, stops)
cause_at laws s x values fault.TooLarge stops = inl (fault.TooLarge, refl, stops)
cause_at laws s x values fault.BadText stops = inl (fault.BadText, refl, stops)
cause_at laws s x values fault.NoHandle stops = inl (fault.NoHandle, refl, stops)
cause_at laws s x values fault.WrongResource stops = inl (fault.WrongResource, refl, stops)
cause_at laws s x values fault.StillLent stops = inl (fault.StillLent, refl, stops)
cause_at laws s x values fault.NotOwned stops = inl (fault.NotOwned, refl, stops)
cause_at laws s x values fault.TableFull stops = absurd (omega (arith, (laws.number (result_view s x.link) results (types_of x.link results) values fault.TableFull stops).1))
cause_at laws s x values fault.Overlap stops = absurd (omega (arith, (laws.number (result_view s x.link) results (types_of x.link results) values fault.Overlap stops).1))
cause_at laws s x values fault.EngineMemory stops = absurd (omega (arith, (laws.number (result_view s x.link) results (types_of x.link results) values fault.EngineMemory stops).1))

other : (laws : Laws) (s : State) (x : LoweredCall) (values : List CoreValue) (f : AbiFault) → LiftStops (result_view s x.link) results (types_of x.link results) values f → (t : Trap)
    → ByResult s x values t → t ≡ trap_of f
other laws s x values f stops t (inl c) = sym c.1 ∙ ap trap_of (laws.one_stop (result_view s x.link) results (types_of x.link results) values c.0 f c.2 stops)
other laws s x values f stops t (inr c) = absurd (laws.beside (result_view s x.link) results (types_of x.link results) values f c.0 stops c.1.denoted c.1.transferable)

only : (laws : Laws) (s : State) (x : LoweredCall) (values : List CoreValue) (f : AbiFault) → LiftStops (result_view s x.link) results (types_of x.link results) values f
    → Only (ByBody s x values) (trap_of f)
only laws s x values f stops = (other laws s x values f stops trap.Misaligned, (other laws s x values f stops trap.PointerBounds, (other laws s x values f stops trap.BadChar, (other laws s x values f stops trap.BadCase, (other laws s x values f stops trap.TooLarge, (other laws s x values f stops trap.BadText, (other laws s x values f stops trap.NoHandle, (other laws s x values f stops trap.WrongResource, (other laws s x values f stops trap.StillLent, (other laws s x values f stops trap.NotOwned, tt))))))))))

returns_judged : (laws : Laws) (tuple : TupleFirst) (s : State) (call : Call) (x : LoweredCall) (values : List CoreValue) (of : Returning s call x values) (e : Event) (new : State)
    → ReturnsResult s x.link call values e new → Judged [] (lift_traps ++ trap.TableFull ∷ []) (ByBody s x values) e
returns_judged laws tuple s call x values of e new row =
    lifts_judged (trap.TableFull ∷ []) (ByBody s x values) laws s (result_view s x.link) x.link results values
    (λ v p. UnlessNoMemory (after_lift_of_result s x.link call values v p) (0 < parts_of results (types_of x.link results) v)
    (PlacesResult (is_spilled results (types_of x.link results)) (after_lift_of_result s x.link call values v p) x.link call p v)) e new
    (λ f stops. (cause_at laws s x values f stops, only laws s x values f stops)) (λ want. want)
    (λ v p denoted transferable scanned rest.
    memory (after_lift_of_result s x.link call values v p) (lift_traps ++ trap.TableFull ∷ []) (ByBody s x values) e new
    (λ some. parts_want laws (result_view s x.link) results (types_of x.link results) values v denoted some) rest
    (λ on. places_judged laws tuple s call x values of v p (record { returned = record { denoted = denoted; transferable = transferable }; scanned = scanned })
    (is_spilled results (types_of x.link results)) refl e new on)) row

pub body_judged : (laws : Laws) (tuple : TupleFirst) (s : State) (call : Call) (x : LoweredCall) (values : List CoreValue) (of : Returning s call x values) (e : Event) (new : State)
    → ReturnsIn phase.Body s x.link call values e new
    → Judged (trap.CoreShape ∷ trap.BorrowsLeft ∷ []) (lift_traps ++ trap.TableFull ∷ []) (ByBody s x values) e
body_judged laws tuple s call x values of e new row =
    check s (trap.BorrowsLeft ∷ []) (lift_traps ++ trap.TableFull ∷ []) (ByBody s x values) e new trap.CoreShape (λ f. f) (λ o f. f o) row
    (λ o a. check s [] (lift_traps ++ trap.TableFull ∷ []) (ByBody s x values) e new trap.BorrowsLeft (λ f. f) (λ none f. f none) a
    (λ none b. returns_judged laws tuple s call x values of e new b))
