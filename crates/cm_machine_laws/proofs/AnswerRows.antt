-- The rows of an allocator's answer, judged by the causes of their traps.
use Rattle.std.proofs.Common.{◌≡◌, ℕ, zero, suc, ◌+◌, ◌%◌, ◌<◌, ◌≤◌, ◌⊎◌, inl, inr, Bool, true, false, not, List, [], ◌∷◌, ◌++◌, length, map, Option, Some, None, refl, sym, ap, subst, ◌∙◌, arith, if◌then◌else◌}
use Rattle.std.specs.Prelude.{slice_get, nat_lt, ◌==◌}
use Rattle.std.proofs.Math.Nat.{lt_of_not-le}
use Rattle.std.proofs.lemmas.Option.{none-some, same_Some}
use Rattle.cm_types.specs.declared.core_value.CoreValue.{CoreValue}
use Rattle.cm_types.specs.Values.{Val}
use Rattle.cm_handles.specs.Handles.{Handles, indices_left}
use Rattle.cm_abi_model.specs.declared.fault.AbiFault.{AbiFault}
use Rattle.cm_abi_model.specs.declared.fault.AbiFault.TheVariants as fault
use Rattle.cm_abi_model.specs.declared.receiver.Receiver.{Receiver}
use Rattle.cm_abi_model.specs.declared.region.Region.{Region}
use Rattle.cm_abi_model.specs.declared.request.Request.{Request}
use Rattle.cm_abi_model.specs.Answered.{last_answer}
use Rattle.cm_abi_model.specs.Answering.{answer_fault, begins_part, places_of, regions_of}
use Rattle.cm_abi_model.specs.Giving.{added_count}
use Rattle.cm_abi_model.specs.Numbers.{slot_at}
use Rattle.cm_abi_model.specs.Overlap.{AreDisjoint}
use Rattle.cm_abi_model.specs.Receives.{HandleLeaf, leaves_in}
use Rattle.cm_abi_model.specs.RecordRequests.{tags_of}
use Rattle.cm_abi_model.specs.Requests.{requests, tuple_of}
use Rattle.cm_abi_model.specs.declared.record.PartRecord.{PartRecord}
use Rattle.cm_abi_model.specs.Texts.{IsAligned}
use Rattle.cm_abi_model.specs.Views.{Way, params, results}
use Rattle.cm_machine_model.specs.declared.event.Event.{Event}
use Rattle.cm_machine_model.specs.declared.event.Event.TheVariants as event
use Rattle.cm_machine_model.specs.declared.event.Trap.{Trap}
use Rattle.cm_machine_model.specs.declared.event.Trap.TheVariants as trap
use Rattle.cm_machine_model.specs.Memories.{memory_at}
use Rattle.cm_machine_model.specs.declared.frame.Call.{Call}
use Rattle.cm_machine_model.specs.Passages.{Carries, HasAnswers, IsAnswered, as_args, asked_for}
use Rattle.cm_machine_model.specs.Plan.{Link, giver_side, receiver_side, types_of}
use Rattle.cm_machine_model.specs.State.{Passage, State, table_at}
use Rattle.cm_machine_model.specs.Step.{Answers, Finishes, GoesOn, GoesOnBy, top_place, IsReceived, UnlessWrong, flat_result, giver_of, receiver_of, trap_of}
use Rattle.cm_machine_laws.proofs.Judging.{Causing, Judged, check, here, memory, next, passes}
use Rattle.cm_machine_laws.proofs.LowerRows.{asks_not, enters_not}
use Rattle.cm_abi_model.proofs.TextsLaws.{aligned as aligned_if, multiple}
use Rattle.cm_lemmas.proofs.Bools.{true_not_false}
use Rattle.cm_lemmas.proofs.Numbers.{less_of}
use Rattle.cm_lemmas.proofs.Lists.{length_push}
use Rattle.cm_abi_model.proofs.FaultLaws.{choice}

-- ---- an answer that will not do

tests_fault : (a b : Bool) (f : AbiFault) → (if not a then Some fault.Misaligned else (if b then Some fault.PointerBounds else None)) ≡ Some f
    → ((f ≡ fault.Misaligned) × (a ≡ false)) ⊎ ((f ≡ fault.PointerBounds) × (a ≡ true) × (b ≡ true))
tests_fault false b f e = inl (sym (same_Some fault.Misaligned f e), refl)
tests_fault true true f e = inr (sym (same_Some fault.PointerBounds f e), refl, refl)
tests_fault true false f e = absurd (none-some f e)

not_lt_nat : (a b : ℕ) → nat_lt a b ≡ false → a < b → ⊥
not_lt_nat a b e lt = grind (arith, e, lt)

pub data FaultIs (n : ℕ) (r : Request) (at : ℕ) : AbiFault → Type 0 where
  misaligned : (IsAligned r.align at → ⊥) → FaultIs n r at fault.Misaligned
  beyond : IsAligned r.align at → n < at + r.size → FaultIs n r at fault.PointerBounds

pub fault_is : (n : ℕ) (r : Request) (at : ℕ) (f : AbiFault) → answer_fault n r at ≡ Some f → FaultIs n r at f
fault_is n r at f e = by_test (tests_fault (at % r.align == 0) (nat_lt n (at + r.size)) f e) where
  by_test : ((f ≡ fault.Misaligned) × ((at % r.align == 0) ≡ false)) ⊎ ((f ≡ fault.PointerBounds) × ((at % r.align == 0) ≡ true) × (nat_lt n (at + r.size) ≡ true)) → FaultIs n r at f
  by_test (inl x) = subst (FaultIs n r at) (sym x.0) (misaligned (λ is. true_not_false (sym (multiple r.align at is) ∙ x.1)))
  by_test (inr x) = subst (FaultIs n r at) (sym x.0) (beyond (aligned_if r.align at x.1) (less_of n (at + r.size) x.2))

pub record IsFine (n : ℕ) (r : Request) (at : ℕ) : Type 0 where
  pub aligned : IsAligned r.align at
  pub inside : n < at + r.size → ⊥

pub fine_is : (n : ℕ) (r : Request) (at : ℕ) → answer_fault n r at ≡ None → IsFine n r at
fine_is n r at e =
    let x = choice (at % r.align == 0) (nat_lt n (at + r.size)) e in
    record { aligned = aligned_if r.align at x.0; inside = not_lt_nat n (at + r.size) x.1 }

-- ---- regions

-- one beginning of answers gives the places and the answer behind them what another gives
one_region : (rs : List Request) (xs ys : List ℕ) → length xs ≡ length ys → places_of rs xs ≡ places_of rs ys → regions_of rs xs ≡ regions_of rs ys
one_region [] xs ys n e = refl
one_region (r ∷ rs) [] [] n e = refl
one_region (r ∷ rs) [] (y ∷ ys) n e = absurd (cc (n))
one_region (r ∷ rs) (x ∷ xs) [] n e = absurd (cc (n))
one_region (r ∷ rs) (x ∷ xs) (y ∷ ys) n e =
    by_begin (λ k. one_region rs xs ys (counts (length xs) (length ys) n) k) (begins_part rs) e where
      tail : List ℕ → List ℕ
      tail [] = []
      tail (z ∷ zs) = zs

      head : List ℕ → ℕ
      head [] = 0
      head (z ∷ zs) = z

      counts : (a b : ℕ) → suc a ≡ suc b → a ≡ b
      counts a b k = omega (arith, k)

      by_begin : (places_of rs xs ≡ places_of rs ys → regions_of rs xs ≡ regions_of rs ys) → (b : Bool)
          → map (λ (q : Region). q.at) (if b then record { at = x; size = r.size } ∷ regions_of rs xs else regions_of rs xs)
          ≡ map (λ (q : Region). q.at) (if b then record { at = y; size = r.size } ∷ regions_of rs ys else regions_of rs ys)
          → (if b then record { at = x; size = r.size } ∷ regions_of rs xs else regions_of rs xs)
          ≡ (if b then record { at = y; size = r.size } ∷ regions_of rs ys else regions_of rs ys)
      by_begin rest true f =
          ap (λ (a : ℕ). record { at = a; size = r.size } ∷ regions_of rs xs) (ap head f)
          ∙ ap (λ (qs : List Region). record { at = y; size = r.size } ∷ qs) (rest (ap tail f))
      by_begin rest false f = rest f

-- ---- what is known of the value on its way

-- so far these requests for it were answered so
pub record Known (s : State) (l : Link) (way : Way) (memory : List ℕ) (rs : List Request) (mine : List ℕ) (v : Val) : Type 0 where
  pub passage : Passage
  pub passage_is : s.passage ≡ Some passage
  pub carried : Carries memory l way passage v
  pub requests_are : asked_for l way passage v ≡ rs
  pub answered : HasAnswers rs mine passage

-- all requests are answered with one more
abbrev pub IsAll : List Request → List ℕ → ℕ → Type 0
IsAll rs mine at = length (mine ++ at ∷ []) ≡ length rs

-- what an answer may trap by, and where it is from
pub record AnswerCauses (s : State) (rs : List Request) (mine : List ℕ) (at : ℕ) (memory : List ℕ) (to : Receiver) (leaves : List HandleLeaf) (values : List CoreValue) (cause : Causing) (shape : Type 0)
    : Type 0 where
  pub shape_if : (shape → ⊥) → cause trap.CoreShape
  pub shape_only : cause trap.CoreShape → shape → ⊥
  pub misaligned_if : (r : Request) → slice_get rs (length mine) ≡ Some r → (IsAligned r.align at → ⊥) → cause trap.Misaligned
  pub misaligned_only : (r : Request) → slice_get rs (length mine) ≡ Some r → cause trap.Misaligned → IsAligned r.align at → ⊥
  pub beyond_if : (r : Request) → slice_get rs (length mine) ≡ Some r → IsAligned r.align at → length memory < at + r.size → cause trap.PointerBounds
  pub beyond_only : (r : Request) → slice_get rs (length mine) ≡ Some r → cause trap.PointerBounds → length memory < at + r.size
  pub overlap_if : IsAll rs mine at → (AreDisjoint (regions_of rs (mine ++ at ∷ [])) → ⊥) → cause trap.Overlap
  pub overlap_only : cause trap.Overlap → IsAll rs mine at × (AreDisjoint (regions_of rs (mine ++ at ∷ [])) → ⊥)
  pub full_if : IsAll rs mine at → indices_left (table_at s.tables to.instance) < added_count to leaves → cause trap.TableFull
  pub full_only : cause trap.TableFull → IsAll rs mine at × (indices_left (table_at s.tables to.instance) < added_count to leaves)
  pub wants : IsAll rs mine at → (leaves ≡ [] → ⊥) → cause trap.EngineMemory

-- ---- the end of a handing over

finishes_not : (o : Option ℕ) (place : ℕ) (l : Link) (call : Call) (p : Passage) (slots : List CoreValue) (s : State) (e : Event) (new : State) → Finishes o place l call p slots s e new
    → (t : Trap) → e ≡ event.Trapped t → ⊥
finishes_not None place l call p slots s e new x t eq = apart (sym x.0 ∙ eq) where
  apart : event.Resume call.caller (flat_result l slots) ≡ event.Trapped t → ⊥
  apart y = cc (y)
finishes_not (Some f) place l call p slots s e new x t eq = apart (sym x.0 ∙ eq) where
  apart : event.PostReturn l.instance f p.slots ≡ event.Trapped t → ⊥
  apart y = cc (y)

pub received_not : (way : Way) (place : ℕ) (l : Link) (call : Call) (p : Passage) (slots : List CoreValue) (s : State) (e : Event) (new : State) → IsReceived way place l call p slots s e new
    → (t : Trap) → e ≡ event.Trapped t → ⊥
received_not params place l call p slots s e new x = enters_not l.instance l.func slots e x.0
received_not results place l call p slots s e new x = finishes_not l.post_return place l call p slots s e new x

-- ---- one more answer

past : (rs : List Request) (n : ℕ) → slice_get rs n ≡ None → length rs ≤ n
past [] n e = omega arith
past (r ∷ rs) zero e = absurd (none-some r (sym e))
past (r ∷ rs) (suc n) e = more (past rs n e) where
  more : length rs ≤ n → suc (length rs) ≤ suc n
  more le = omega (arith, le)

pub within : (rs : List Request) (n : ℕ) (r : Request) → slice_get rs n ≡ Some r → n < length rs
within [] n r e = absurd (none-some r e)
within (x ∷ rs) zero r e = omega arith
within (x ∷ rs) (suc n) r e = more (within rs n r e) where
  more : n < length rs → suc n < suc (length rs)
  more lt = omega (arith, lt)

-- what holds of the state and the passage with the answer
pub record Turned (rs : List Request) (mine answers : List ℕ) (at : ℕ) (l : Link) (way : Way) (v : Val) (q : Passage) (leaves : List HandleLeaf) : Type 0 where
  pub requests_are : asked_for l way q v ≡ rs
  pub count : length answers ≡ length mine
  pub places : places_of rs (answers ++ at ∷ []) ≡ places_of rs (mine ++ at ∷ [])
  pub leaves_are : q.leaves ≡ leaves
  pub before : length mine < length rs

regions_are : (rs : List Request) (mine answers : List ℕ) (at : ℕ) → length answers ≡ length mine → places_of rs (answers ++ at ∷ []) ≡ places_of rs (mine ++ at ∷ [])
    → regions_of rs (answers ++ at ∷ []) ≡ regions_of rs (mine ++ at ∷ [])
regions_are rs mine answers at count places = one_region rs (answers ++ at ∷ []) (mine ++ at ∷ []) (length_push answers at ∙ (ap suc count ∙ sym (length_push mine at))) places

lt_sides : {a b : ℕ} → (a ≤ b → ⊥) → b < a
lt_sides {a} {b} f = lt_of_not-le f

goes_on_judged : (s st : State) (l : Link) (way : Way) (call : Call) (place : ℕ) (v : Val) (q : Passage) (rs : List Request) (mine answers : List ℕ) (at : ℕ) (memory : List ℕ)
    (leaves : List HandleLeaf) (values : List CoreValue) (cause : Causing) (shape : Type 0)
    → AnswerCauses s rs mine at memory (receiver_of way place l call) leaves values cause shape → Turned rs mine answers at l way v q leaves → st.tables ≡ s.tables
    → (o : Option Request) → slice_get (asked_for l way q v) (length (answers ++ at ∷ [])) ≡ o → (e : Event) (new : State)
    → GoesOnBy o st place l way call q v (asked_for l way q v) (answers ++ at ∷ []) e new
    → Judged (trap.Overlap ∷ trap.TableFull ∷ []) [] cause e
goes_on_judged s st l way call place v q rs mine answers at mem leaves values cause shape causes turned tables (Some r) is e new row =
    next (trap.TableFull ∷ []) [] cause e trap.Overlap (λ c. not_all (causes.overlap_only c).0)
    (next [] [] cause e trap.TableFull (λ c. not_all (causes.full_only c).0)
    (passes [] cause e (asks_not (receiver_side l way).realloc (receiver_of way place l call).instance (as_args (last_of (answers ++ at ∷ [])) r) st e new row) tt)) where
      last_of : List ℕ → ℕ
      last_of xs = last_answer xs

      inside : length (answers ++ at ∷ []) < length rs
      inside = within rs (length (answers ++ at ∷ [])) r (subst (λ (xs : List Request). slice_get xs (length (answers ++ at ∷ [])) ≡ Some r) turned.requests_are is)

      not_all : IsAll rs mine at → ⊥
      not_all all = both (length_push answers at) (length_push mine at) turned.count inside all where
        both : {a b c d n : ℕ} → a ≡ suc c → b ≡ suc d → c ≡ d → a < n → b ≡ n → ⊥
        both {a} {b} {c} {d} {n} x y z lt f = absurd (omega (arith, x, y, z, lt, f))
goes_on_judged s st l way call place v q rs mine answers at mem leaves values cause shape causes turned tables None is e new row =
    check st (trap.TableFull ∷ []) [] cause e new trap.Overlap (λ f. causes.overlap_if all (λ d. f (row_is d))) (λ d c. (causes.overlap_only c).1 (mine_is d)) row
    (λ apart a. check st [] [] cause e new trap.TableFull (λ f. causes.full_if all (fewer f)) (λ le c. not_fewer le (causes.full_only c).1) a
    (λ room b. memory st [] cause e new (λ some. causes.wants all (λ none. some (turned.leaves_are ∙ none))) b
    (λ w. passes [] cause e (received_not way place l call q w.1 _ e new w.3) tt))) where
      outside : length rs ≤ length (answers ++ at ∷ [])
      outside = past rs (length (answers ++ at ∷ [])) (subst (λ (xs : List Request). slice_get xs (length (answers ++ at ∷ [])) ≡ None) turned.requests_are is)

      all : IsAll rs mine at
      all = both (length_push answers at) (length_push mine at) turned.count outside turned.before where
        both : {a b c d n : ℕ} → a ≡ suc c → b ≡ suc d → c ≡ d → n ≤ a → d < n → b ≡ n
        both {a} {b} {c} {d} {n} x y z le lt = omega (arith, x, y, z, le, lt)

      same : regions_of (asked_for l way q v) (answers ++ at ∷ []) ≡ regions_of rs (mine ++ at ∷ [])
      same = ap (λ (xs : List Request). regions_of xs (answers ++ at ∷ [])) turned.requests_are ∙ regions_are rs mine answers at turned.count turned.places

      mine_is : AreDisjoint (regions_of (asked_for l way q v) (answers ++ at ∷ [])) → AreDisjoint (regions_of rs (mine ++ at ∷ []))
      mine_is d = subst AreDisjoint same d

      row_is : AreDisjoint (regions_of rs (mine ++ at ∷ [])) → AreDisjoint (regions_of (asked_for l way q v) (answers ++ at ∷ []))
      row_is d = subst AreDisjoint (sym same) d

      fewer : (added_count (receiver_of way place l call) q.leaves ≤ indices_left (table_at st.tables (receiver_of way place l call).instance) → ⊥)
          → indices_left (table_at s.tables (receiver_of way place l call).instance) < added_count (receiver_of way place l call) leaves
      fewer f = lt_sides (subst (λ (ts : List Handles). added_count (receiver_of way place l call) leaves ≤ indices_left (table_at ts (receiver_of way place l call).instance) → ⊥) tables
          (subst (λ (ls : List HandleLeaf). added_count (receiver_of way place l call) ls ≤ indices_left (table_at st.tables (receiver_of way place l call).instance) → ⊥) turned.leaves_are f))

      not_fewer : added_count (receiver_of way place l call) q.leaves ≤ indices_left (table_at st.tables (receiver_of way place l call).instance)
          → indices_left (table_at s.tables (receiver_of way place l call).instance) < added_count (receiver_of way place l call) leaves → ⊥
      not_fewer le lt = not_both (subst (λ (ts : List Handles). added_count (receiver_of way place l call) leaves ≤ indices_left (table_at ts (receiver_of way place l call).instance)) tables
          (subst (λ (ls : List HandleLeaf). added_count (receiver_of way place l call) ls ≤ indices_left (table_at st.tables (receiver_of way place l call).instance)) turned.leaves_are le)) lt where
            not_both : {a b : ℕ} → a ≤ b → b < a → ⊥
            not_both {a} {b} x y = absurd (omega (arith, x, y))

abbrev pub OneCarried : Type 0
OneCarried = (memory : List ℕ) (l : Link) (way : Way) (p : Passage) (v u : Val) → Carries memory l way p v → Carries memory l way p u → v ≡ u

pub answer_judged : (one : OneCarried) (s : State) (l : Link) (way : Way) (call : Call) (values : List CoreValue) (rs : List Request) (mine : List ℕ) (v : Val)
    (cause : Causing) (shape : Type 0)
    → Known s l way (memory_at s.memories (giver_of way l call)) rs mine v
    → AnswerCauses s rs mine (slot_at values 0) (memory_at s.memories (receiver_of way (top_place s) l call).instance) (receiver_of way (top_place s) l call) (leaves_in (tuple_of (types_of l way)) v) values cause shape
    → (e : Event) (new : State) → Answers s l way call values e new
    → Judged (trap.Misaligned ∷ trap.PointerBounds ∷ trap.Overlap ∷ trap.TableFull ∷ []) [] cause e
answer_judged one s l way call values rs mine v cause shape known causes e new x =
    by_fault (answer_fault (length memory_of) x.3 at) refl x.8 where
      at : ℕ
      at = slot_at values 0

      memory_of : List ℕ
      memory_of = memory_at s.memories (receiver_of way (top_place s) l call).instance

      -- the row's passage and value are the known ones
      passage_is : x.0 ≡ known.passage
      passage_is = same_Some x.0 known.passage (sym x.4 ∙ known.passage_is)

      value_is : x.1 ≡ v
      value_is = one (memory_at s.memories (giver_of way l call)) l way known.passage x.1 v (subst (λ (p : Passage). Carries (memory_at s.memories (giver_of way l call)) l way p x.1) passage_is x.5) known.carried

      row_requests : asked_for l way x.0 x.1 ≡ rs
      row_requests = ap (λ (p : Passage). asked_for l way p x.1) passage_is ∙ (ap (λ (u : Val). asked_for l way known.passage u) value_is ∙ known.requests_are)

      count : length x.2 ≡ length mine
      count = sym x.6.count ∙ (ap (λ (p : Passage). p.answered) passage_is ∙ known.answered.count)

      request_is : slice_get rs (length mine) ≡ Some x.3
      request_is = subst (λ (n : ℕ). slice_get rs n ≡ Some x.3) count (subst (λ (qs : List Request). slice_get qs (length x.2) ≡ Some x.3) row_requests x.7)

      mine_before : HasAnswers (asked_for l way x.0 x.1) mine x.0
      mine_before = subst (λ (p : Passage). HasAnswers (asked_for l way x.0 x.1) mine p) (sym passage_is) (subst (λ (qs : List Request). HasAnswers qs mine known.passage) (sym row_requests) known.answered)

      turned : (q : Passage) → IsAnswered (asked_for l way x.0 x.1) x.0 at q → Turned rs mine x.2 at l way x.1 q (leaves_in (tuple_of (types_of l way)) v)
      turned q is = record {
        requests_are = ap (λ (rs : List PartRecord). requests way (types_of l way) x.1 (giver_side l way).encoding (receiver_side l way).encoding (tags_of rs)) is.records ∙ row_requests;
        count = count;
        places = subst (λ (qs : List Request). places_of qs (x.2 ++ at ∷ []) ≡ places_of qs (mine ++ at ∷ [])) row_requests (sym (is.answers x.2 x.6).places ∙ (is.answers mine mine_before).places);
        leaves_are = is.leaves ∙ (x.5.handles ∙ ap (λ (u : Val). leaves_in (tuple_of (types_of l way)) u) value_is);
        before = within rs (length mine) x.3 request_is;
      }

      fine : IsFine (length memory_of) x.3 at → (q : Passage) × IsAnswered (asked_for l way x.0 x.1) x.0 at q × GoesOn (record s { passage = Some q }) (top_place s) l way call q x.1 (x.2 ++ at ∷ []) e new
          → Judged (trap.Misaligned ∷ trap.PointerBounds ∷ trap.Overlap ∷ trap.TableFull ∷ []) [] cause e
      fine is y =
          next (trap.PointerBounds ∷ trap.Overlap ∷ trap.TableFull ∷ []) [] cause e trap.Misaligned (λ c. causes.misaligned_only x.3 request_is c is.aligned)
          (next (trap.Overlap ∷ trap.TableFull ∷ []) [] cause e trap.PointerBounds (λ c. is.inside (causes.beyond_only x.3 request_is c))
          (goes_on_judged s (record s { passage = Some y.0 }) l way call (top_place s) x.1 y.0 rs mine x.2 at memory_of (leaves_in (tuple_of (types_of l way)) v) values cause shape causes (turned y.0 y.1) refl
          (slice_get (asked_for l way y.0 x.1) (length (x.2 ++ at ∷ []))) refl e new y.2))

      by_fault : (o : Option AbiFault) → answer_fault (length memory_of) x.3 at ≡ o → UnlessWrong s o (λ e new. (q : Passage) × IsAnswered (asked_for l way x.0 x.1) x.0 at q × GoesOn (record s { passage = Some q }) (top_place s) l way call q x.1 (x.2 ++ at ∷ []) e new) e new
          → Judged (trap.Misaligned ∷ trap.PointerBounds ∷ trap.Overlap ∷ trap.TableFull ∷ []) [] cause e
      by_fault None is y = fine (fine_is (length memory_of) x.3 at is) y
      by_fault (Some f) is y = by_kind f (fault_is (length memory_of) x.3 at f is) y.0 where
        by_kind : (g : AbiFault) → FaultIs (length memory_of) x.3 at g → e ≡ event.Trapped (trap_of g) → Judged (trap.Misaligned ∷ trap.PointerBounds ∷ trap.Overlap ∷ trap.TableFull ∷ []) [] cause e
        by_kind _ (misaligned wrong) eq = here (trap.PointerBounds ∷ trap.Overlap ∷ trap.TableFull ∷ []) [] cause e trap.Misaligned (causes.misaligned_if x.3 request_is wrong) eq
        by_kind _ (beyond is lt) eq =
            next (trap.PointerBounds ∷ trap.Overlap ∷ trap.TableFull ∷ []) [] cause e trap.Misaligned (λ c. causes.misaligned_only x.3 request_is c is)
            (here (trap.Overlap ∷ trap.TableFull ∷ []) [] cause e trap.PointerBounds (causes.beyond_if x.3 request_is is lt) eq)
