-- What is made of values that core values pass, one after another.
use Rattle.std.proofs.Common.{◌≡◌, ℕ, zero, suc, ◌+◌, ◌-◌, ◌<◌, ◌≤◌, List, [], ◌∷◌, ◌++◌, length, map, drop, get_or, Option, Some, None, Ok, Err, Result, refl, sym, ap, ◌∙◌, arith, IfSome, subst}
use Rattle.cm_types.specs.declared.core_value.CoreValue.{CoreValue}
use Rattle.cm_types.specs.Values.{Val, Vals, no_vals, val, bare, bearing, elements, parts}
use Rattle.cm_handles.specs.Handles.{Handles}
use Rattle.cm_layout.specs.Laid.{Laid, PartsLaid, PayloadsLaid}
use Rattle.cm_layout.specs.Layouts.{part_of, nothings}
use Rattle.cm_layout.specs.Shapes.{LayoutTy, Shape, leaf_shape, string_shape, list_shape, fixed_list_shape, fields_shape, cases_shape, handle_shape, Parts, Payloads, no_parts, part, no_payloads, nothing, carried, parts_from, payloads_from, payload_before}
use Rattle.cm_layout.specs.declared.heads.Head.{Head}
use Rattle.cm_layout.specs.declared.layouts.HandleType.{HandleType}
use Rattle.cm_layout.specs.declared.layouts.Leaf.{Leaf}
use Rattle.cm_layout.specs.declared.layouts.Part.{Part}
use Rattle.cm_abi_model.specs.declared.encoding.StringEncoding.{StringEncoding}
use Rattle.cm_abi_model.specs.declared.fault.AbiFault.TheVariants as fault
use Rattle.cm_abi_model.specs.Numbers.{wrapped_at}
use Rattle.cm_abi_load.specs.declared.stop.Stop.{Stop}
use Rattle.cm_abi_load.specs.Outcomes.{Outcome, State, mapped}
use Rattle.cm_abi_model.specs.declared.record.PartRecord.{PartRecord}
use Rattle.cm_abi_load.specs.Making.{IsRead, KeepsHandles, Makes, StopsMaking, with_last}
use Rattle.cm_abi_load.specs.Reading.{Source, leaf_value, read_at, read_elements, read_handle, read_text}
use Rattle.cm_abi_load.specs.Records.{payload, records_at, records_of_list}
use Rattle.cm_abi_load.specs.Sized.{ArePartsSized, ArePayloadsSized, IsSized, core_size}
use Rattle.cm_abi_lift.specs.FlatReading.{ArePartsFlatReadable, ArePayloadsFlatReadable, IsFlatReadable, IsFlatReadableLayout, read_flat, read_flat_case, read_flat_each, read_flat_parts, read_flat_payload}
use Rattle.cm_abi_lift.specs.FlatRecords.{flat_records, flat_records_each, flat_records_of_case, flat_records_of_cases, flat_records_of_fields, flat_records_of_payload}
use Rattle.cm_abi_load.specs.MakingLaws.{Going, begins, ends, one_stops, read_is, turns}
use Rattle.cm_abi_load.proofs.CaseLemmas.{Agree, agreed}
use Rattle.cm_lemmas.proofs.Lists.{drop_past}
use Rattle.cm_abi_load.proofs.HandleLemmas.{keeps_mapped, keeps_then}
use Rattle.cm_layout.proofs.LayoutsLaws.{parts_next}

-- ---- handles that were met stay met

-- what reading in memory keeps
pub record KeepLaws : Type 0 where
  pub leaf : (k : Leaf) (n : ℕ) (s : State) → KeepsHandles s (leaf_value k n s)
  pub text : (memory : List ℕ) (e : StringEncoding) (at n : ℕ) (s : State) → KeepsHandles s (read_text memory e at n s)
  pub elements : (w : Source) (sh : Shape) (memory : List ℕ) (e : Head) (at n : ℕ) (s : State) → KeepsHandles s (read_elements (read_at w sh) memory e at n s)
  pub handle : (table : Handles) (t : HandleType) (index : ℕ) (s : State) → KeepsHandles s (read_handle table t index s)

abbrev pub Flat : Type 0
Flat = List CoreValue → State → Outcome Val

pub keeps_each : (R : Flat) (width n : ℕ) (slots : List CoreValue) (s : State) → ((xs : List CoreValue) (t : State) → KeepsHandles t (R xs t)) → KeepsHandles s (read_flat_each R width n slots s)
keeps_each R width zero slots s one = omega arith
keeps_each R width (suc n) slots s one =
    keeps_then s (R slots s) (λ r. mapped (λ vs. val r.0 vs) (read_flat_each R width n (drop width slots) r.1)) (one slots s)
    (λ r. keeps_mapped (λ vs. val r.0 vs) r.1 (read_flat_each R width n (drop width slots) r.1) (keeps_each R width n (drop width slots) r.1 one))

module _ (laws : KeepLaws) (w : Source) where
  mutual
    pub keeps_flat : (sh : Shape) (slots : List CoreValue) (s : State) → KeepsHandles s (read_flat w sh slots s)
    keeps_flat (leaf_shape k) slots s = laws.leaf k (wrapped_at (core_size k) slots 0) s
    keeps_flat string_shape slots s = laws.text w.memory w.encoding (wrapped_at 4 slots 0) (wrapped_at 4 slots 1) s
    keeps_flat (list_shape e sh) slots s = keeps_mapped (λ vs. elements vs) s _ (laws.elements w sh w.memory e (wrapped_at 4 slots 0) (wrapped_at 4 slots 1) s)
    keeps_flat (fixed_list_shape e sh n) slots s = keeps_mapped (λ vs. parts vs) s _ (keeps_each (read_flat w sh) e.width n slots s (λ xs t. keeps_flat sh xs t))
    keeps_flat (fields_shape ps) slots s = keeps_mapped (λ vs. parts vs) s _ (keeps_fields ps slots s)
    keeps_flat (cases_shape d o ps) slots s = keeps_case ps (wrapped_at 4 slots 0) (wrapped_at 4 slots 0) (drop 1 slots) s
    keeps_flat (handle_shape h) slots s = laws.handle w.table h (wrapped_at 4 slots 0) s

    pub keeps_fields : (ps : Parts) (slots : List CoreValue) (s : State) → KeepsHandles s (read_flat_parts w ps slots s)
    keeps_fields no_parts slots s = omega arith
    keeps_fields (part o e sh ps) slots s =
        keeps_then s (read_flat w sh slots s) (λ r. mapped (λ vs. val r.0 vs) (read_flat_parts w ps (drop e.width slots) r.1)) (keeps_flat sh slots s)
        (λ r. keeps_mapped (λ vs. val r.0 vs) r.1 (read_flat_parts w ps (drop e.width slots) r.1) (keeps_fields ps (drop e.width slots) r.1))

    keeps_case : (ps : Payloads) (i n : ℕ) (slots : List CoreValue) (s : State) → KeepsHandles s (read_flat_case w ps i n slots s)
    keeps_case no_payloads i n slots s = tt
    keeps_case (nothing ps) i zero slots s = omega arith
    keeps_case (nothing ps) i (suc n) slots s = keeps_case ps i n slots s
    keeps_case (carried e sh ps) i zero slots s = keeps_mapped (λ v. bearing i v) s _ (keeps_flat sh slots s)
    keeps_case (carried e sh ps) i (suc n) slots s = keeps_case ps i n slots s

-- ---- so many values in a row

pub each_begins : {B K : Type 0} (stand : B → Vals → Type 0) (keeps : K → List PartRecord → K → Type 0) (P : Flat) (Q : List CoreValue → Val → List PartRecord) (width count : ℕ) (slots : List CoreValue) (row : B) (old : K) (s : State)
    → stand row no_vals → keeps old [] old
    → Going stand keeps row old old s s (read_flat_each P width count slots s) (read_flat_each P width (count - 0) slots s) (flat_records_each Q width slots) (flat_records_each Q width slots)
each_begins stand keeps P Q width count slots row old s stands none =
    let whole : count - 0 ≡ count = omega arith in
    subst (λ n. Going stand keeps row old old s s (read_flat_each P width count slots s) (read_flat_each P width n slots s) (flat_records_each Q width slots) (flat_records_each Q width slots)) (sym whole)
    (begins stand keeps row old s (read_flat_each P width count slots s) (flat_records_each Q width slots) stands none)

pub each_turns : {A B K : Type 0} (stands : A → Val → Type 0) (stand : B → Vals → Type 0) (keeps : K → List PartRecord → K → Type 0)
    (both : (a b c : K) (rs ss : List PartRecord) → keeps a rs b → keeps b ss c → keeps a (rs ++ ss) c)
    (P : Flat) (Q : List CoreValue → Val → List PartRecord) (width count i : ℕ) (slots rest : List CoreValue) (all : Outcome Vals) (F : Vals → List PartRecord)
    (row pushed : B) (made : A) (old now new : K) (s t u : State)
    → i < count → rest ≡ drop width slots
    → Going stand keeps row old now s t all (read_flat_each P width (count - i) slots t) F (flat_records_each Q width slots)
    → IsRead (P slots t) u (λ v. stands made v × keeps now (Q slots v) new)
    → KeepsHandles t (P slots t)
    → ((vs : Vals) (v : Val) → stand row vs → stands made v → stand pushed (with_last vs v))
    → Going stand keeps pushed old new s u all (read_flat_each P width (count - (i + 1)) rest u) F (flat_records_each Q width rest)
each_turns stands stand keeps both P Q width count i slots rest all F row pushed made old now new s t u lt there far is met push =
    let more : count - i ≡ suc (count - (i + 1)) = omega (arith, lt) in
    let so_far : Going stand keeps row old now s t all (read_flat_each P width (suc (count - (i + 1))) slots t) F (flat_records_each Q width slots) =
    subst (λ n. Going stand keeps row old now s t all (read_flat_each P width n slots t) F (flat_records_each Q width slots)) more far in
    subst (λ z. Going stand keeps pushed old new s u all (read_flat_each P width (count - (i + 1)) z u) F (flat_records_each Q width z)) (sym there)
    (turns stands stand keeps both (Q slots) F (flat_records_each Q width slots) (flat_records_each Q width (drop width slots)) (P slots t) (λ z. read_flat_each P width (count - (i + 1)) (drop width slots) z) all row pushed made old now new s t u (λ v vs. refl) so_far is met push)

pub each_stops : {B K : Type 0} (stand : B → Vals → Type 0) (keeps : K → List PartRecord → K → Type 0) (allocates : Type 0)
    (P : Flat) (Q : List CoreValue → Val → List PartRecord) (width count i : ℕ) (slots : List CoreValue) (all : Outcome Vals) (F : Vals → List PartRecord)
    (row : B) (old now : K) (s t u : State) (e : Stop)
    → i < count
    → Going stand keeps row old now s t all (read_flat_each P width (count - i) slots t) F (flat_records_each Q width slots)
    → ((xs : List CoreValue) (z : State) → KeepsHandles z (P xs z))
    → StopsMaking allocates (Q slots) (P slots t) t u e
    → StopsMaking allocates F all s u e
each_stops stand keeps allocates P Q width count i slots all F row old now s t u e lt far met stops =
    let more : count - i ≡ suc (count - (i + 1)) = omega (arith, lt) in
    let so_far : Going stand keeps row old now s t all (read_flat_each P width (suc (count - (i + 1))) slots t) F (flat_records_each Q width slots) =
    subst (λ n. Going stand keeps row old now s t all (read_flat_each P width n slots t) F (flat_records_each Q width slots)) more far in
    one_stops stand keeps allocates (Q slots) F (flat_records_each Q width slots) (flat_records_each Q width (drop width slots)) (P slots t) (λ z. read_flat_each P width (count - (i + 1)) (drop width slots) z) all row old now s t u e (λ v vs. refl) so_far
    (λ z. keeps_each P width (count - (i + 1)) (drop width slots) z met) stops

pub each_ends : {B K : Type 0} (stand : B → Vals → Type 0) (keeps : K → List PartRecord → K → Type 0)
    (P : Flat) (Q : List CoreValue → Val → List PartRecord) (width count i : ℕ) (slots : List CoreValue) (all : Outcome Vals) (F : Vals → List PartRecord)
    (row : B) (old now : K) (s t : State)
    → count ≤ i
    → Going stand keeps row old now s t all (read_flat_each P width (count - i) slots t) F (flat_records_each Q width slots)
    → IsRead all t (λ vs. stand row vs × keeps old (F vs) now)
each_ends stand keeps P Q width count i slots all F row old now s t past far =
    let none : count - i ≡ 0 = omega (arith, past) in
    ends stand keeps F (flat_records_each Q width slots) all (read_flat_each P width (count - i) slots t) row old now s t far (ap (λ n. read_flat_each P width n slots t) none) refl

-- ---- fields

pub fields_turn : {A B K : Type 0} (stands : A → Val → Type 0) (stand : B → Vals → Type 0) (keeps : K → List PartRecord → K → Type 0)
    (both : (a b c : K) (rs ss : List PartRecord) → keeps a rs b → keeps b ss c → keeps a (rs ++ ss) c) (laws : KeepLaws)
    (w : Source) (target : StringEncoding) (ps : List Part) (i : ℕ) (slots behind : List CoreValue) (p : Part) (all : Outcome Vals) (F : Vals → List PartRecord)
    (row pushed : B) (made : A) (old now new : K) (s t u : State)
    → i < length ps → p ≡ get_or ps i p → behind ≡ drop (part_of p).1.head.width slots
    → Going stand keeps row old now s t all (read_flat_parts w (parts_from (map part_of (drop i ps))) slots t) F (flat_records_of_fields w target (parts_from (map part_of (drop i ps))) slots)
    → IsRead (read_flat w (part_of p).1.shape slots t) u (λ v. stands made v × keeps now (flat_records w target (part_of p).1.shape slots v) new)
    → ((vs : Vals) (v : Val) → stand row vs → stands made v → stand pushed (with_last vs v))
    → Going stand keeps pushed old new s u all (read_flat_parts w (parts_from (map part_of (drop (i + 1) ps))) behind u) F (flat_records_of_fields w target (parts_from (map part_of (drop (i + 1) ps))) behind)
fields_turn stands stand keeps both laws w target ps i slots behind p all F row pushed made old now new s t u lt there place far is push =
    let rest = parts_from (map part_of (drop (i + 1) ps)) in
    let next = drop (part_of p).1.head.width slots in
    let whole = part (part_of p).0 (part_of p).1.head (part_of p).1.shape rest in
    let so_far : Going stand keeps row old now s t all (read_flat_parts w whole slots t) F (flat_records_of_fields w target whole slots) =
    subst (λ z. Going stand keeps row old now s t all (read_flat_parts w z slots t) F (flat_records_of_fields w target z slots)) (parts_next ps i p lt there) far in
    subst (λ z. Going stand keeps pushed old new s u all (read_flat_parts w rest z u) F (flat_records_of_fields w target rest z)) (sym place)
    (turns stands stand keeps both (flat_records w target (part_of p).1.shape slots) F (flat_records_of_fields w target whole slots) (flat_records_of_fields w target rest next) (read_flat w (part_of p).1.shape slots t) (λ z. read_flat_parts w rest next z) all row pushed made old now new s t u (λ v vs. refl) so_far is
    (keeps_flat laws w (part_of p).1.shape slots t) push)

pub fields_stop : {B K : Type 0} (stand : B → Vals → Type 0) (keeps : K → List PartRecord → K → Type 0) (allocates : Type 0) (laws : KeepLaws)
    (w : Source) (target : StringEncoding) (ps : List Part) (i : ℕ) (slots : List CoreValue) (p : Part) (all : Outcome Vals) (F : Vals → List PartRecord)
    (row : B) (old now : K) (s t u : State) (e : Stop)
    → i < length ps → p ≡ get_or ps i p
    → Going stand keeps row old now s t all (read_flat_parts w (parts_from (map part_of (drop i ps))) slots t) F (flat_records_of_fields w target (parts_from (map part_of (drop i ps))) slots)
    → StopsMaking allocates (flat_records w target (part_of p).1.shape slots) (read_flat w (part_of p).1.shape slots t) t u e
    → StopsMaking allocates F all s u e
fields_stop stand keeps allocates laws w target ps i slots p all F row old now s t u e lt there far stops =
    let rest = parts_from (map part_of (drop (i + 1) ps)) in
    let next = drop (part_of p).1.head.width slots in
    let whole = part (part_of p).0 (part_of p).1.head (part_of p).1.shape rest in
    let so_far : Going stand keeps row old now s t all (read_flat_parts w whole slots t) F (flat_records_of_fields w target whole slots) =
    subst (λ z. Going stand keeps row old now s t all (read_flat_parts w z slots t) F (flat_records_of_fields w target z slots)) (parts_next ps i p lt there) far in
    one_stops stand keeps allocates (flat_records w target (part_of p).1.shape slots) F (flat_records_of_fields w target whole slots) (flat_records_of_fields w target rest next) (read_flat w (part_of p).1.shape slots t) (λ z. read_flat_parts w rest next z) all row old now s t u e (λ v vs. refl) so_far
    (λ z. keeps_fields laws w rest next z) stops

pub fields_end : {B K : Type 0} (stand : B → Vals → Type 0) (keeps : K → List PartRecord → K → Type 0)
    (w : Source) (target : StringEncoding) (ps : List Part) (i : ℕ) (slots : List CoreValue) (all : Outcome Vals) (F : Vals → List PartRecord)
    (row : B) (old now : K) (s t : State)
    → length ps ≤ i
    → Going stand keeps row old now s t all (read_flat_parts w (parts_from (map part_of (drop i ps))) slots t) F (flat_records_of_fields w target (parts_from (map part_of (drop i ps))) slots)
    → IsRead all t (λ vs. stand row vs × keeps old (F vs) now)
fields_end stand keeps w target ps i slots all F row old now s t past far =
    let none = drop_past ps i past in
    ends stand keeps F (flat_records_of_fields w target (parts_from (map part_of (drop i ps))) slots) all (read_flat_parts w (parts_from (map part_of (drop i ps))) slots t) row old now s t far
    (rw none refl) (rw none refl)

pub ready_next : (ps : List Part) (i : ℕ) (p : Part) → i < length ps → p ≡ get_or ps i p
    → ArePartsFlatReadable (parts_from (map part_of (drop i ps)))
    → IsFlatReadable (part_of p).1.shape × ArePartsFlatReadable (parts_from (map part_of (drop (i + 1) ps)))
ready_next ps i p lt there all = rw (parts_next ps i p lt there) at all

-- what is laid out, with sized numbers, is ready
mutual
  pub laid_ready : (n : ℕ) (sh : Shape) → Laid n sh → IsSized sh → IsFlatReadable sh
  laid_ready n (leaf_shape k) laid sized = sized
  laid_ready n string_shape laid sized = tt
  laid_ready n (list_shape e sh) laid sized = (laid.1, sized.0, sized.1)
  laid_ready n (fixed_list_shape e sh c) laid sized = laid_ready e.size sh laid.1 sized
  laid_ready n (fields_shape ps) laid sized = parts_ready n 0 ps laid sized
  laid_ready n (cases_shape d o ps) laid sized = payloads_ready n o ps laid.2 sized.2
  laid_ready n (handle_shape h) laid sized = tt

  parts_ready : (n end : ℕ) (ps : Parts) → PartsLaid n end ps → ArePartsSized ps → ArePartsFlatReadable ps
  parts_ready n end no_parts laid sized = tt
  parts_ready n end (part o e sh ps) laid sized = (laid_ready e.size sh laid.2 sized.0, parts_ready n (o + e.size) ps laid.3 sized.1)

  payloads_ready : (n o : ℕ) (ps : Payloads) → PayloadsLaid n o ps → ArePayloadsSized ps → ArePayloadsFlatReadable ps
  payloads_ready n o no_payloads laid sized = tt
  payloads_ready n o (nothing ps) laid sized = payloads_ready n o ps laid sized
  payloads_ready n o (carried e sh ps) laid sized = (laid_ready e.size sh laid.1 sized.0, payloads_ready n o ps laid.2 sized.1)

-- ---- cases

before_zero : (w : Source) (o : Option LayoutTy) (ps : Payloads) (i : ℕ) (slots : List CoreValue) (s : State) → read_flat_case w (payload_before o ps) i zero slots s ≡ read_flat_payload w o i slots s
before_zero w None ps i slots s = refl
before_zero w (Some l) ps i slots s = refl

before_suc : (w : Source) (o : Option LayoutTy) (ps : Payloads) (i n : ℕ) (slots : List CoreValue) (s : State) → read_flat_case w (payload_before o ps) i (suc n) slots s ≡ read_flat_case w ps i n slots s
before_suc w None ps i n slots s = refl
before_suc w (Some l) ps i n slots s = refl

pub case_there : {X : Type 0} (f : X → Option LayoutTy) (w : Source) (xs : List X) (i n : ℕ) (slots : List CoreValue) (s : State) (x : X) → n < length xs → x ≡ get_or xs n x
    → read_flat_case w (payloads_from (map f xs)) i n slots s ≡ read_flat_payload w (f x) i slots s
case_there f w [] i n slots s x lt is = absurd (omega arith)
case_there f w (y ∷ xs) i zero slots s x lt is = before_zero w (f y) (payloads_from (map f xs)) i slots s ∙ ap (λ z. read_flat_payload w (f z) i slots s) (sym is)
case_there f w (y ∷ xs) i (suc n) slots s x lt is = before_suc w (f y) (payloads_from (map f xs)) i n slots s ∙ case_there f w xs i n slots s x (omega arith) is

pub case_past : {X : Type 0} (f : X → Option LayoutTy) (w : Source) (xs : List X) (i n : ℕ) (slots : List CoreValue) (s : State) → length xs ≤ n
    → read_flat_case w (payloads_from (map f xs)) i n slots s ≡ Err (fault.BadCase, s)
case_past f w [] i n slots s past = refl
case_past f w (y ∷ xs) i zero slots s past = absurd (omega arith)
case_past f w (y ∷ xs) i (suc n) slots s past = before_suc w (f y) (payloads_from (map f xs)) i n slots s ∙ case_past f w xs i n slots s (omega arith)

ready_before : (o : Option LayoutTy) (ps : Payloads) → ArePayloadsFlatReadable (payload_before o ps) → IfSome o IsFlatReadableLayout × ArePayloadsFlatReadable ps
ready_before None ps all = (tt, all)
ready_before (Some l) ps all = all

pub case_ready : {X : Type 0} (f : X → Option LayoutTy) (xs : List X) (n : ℕ) (x : X) → n < length xs → x ≡ get_or xs n x
    → ArePayloadsFlatReadable (payloads_from (map f xs)) → IfSome (f x) IsFlatReadableLayout
case_ready f [] n x lt is all = absurd (omega arith)
case_ready f (y ∷ xs) zero x lt is all = subst (λ z. IfSome (f z) IsFlatReadableLayout) (sym is) (ready_before (f y) (payloads_from (map f xs)) all).0
case_ready f (y ∷ xs) (suc n) x lt is all = case_ready f xs n x (omega arith) is (ready_before (f y) (payloads_from (map f xs)) all).1

-- enums
pub enum_there : (w : Source) (count i n : ℕ) (slots : List CoreValue) (s : State) → n < count → read_flat_case w (nothings count) i n slots s ≡ Ok (bare i, s)
enum_there w zero i n slots s lt = absurd (omega arith)
enum_there w (suc count) i zero slots s lt = refl
enum_there w (suc count) i (suc n) slots s lt = enum_there w count i n slots s (omega arith)

pub enum_past : (w : Source) (count i n : ℕ) (slots : List CoreValue) (s : State) → count ≤ n → read_flat_case w (nothings count) i n slots s ≡ Err (fault.BadCase, s)
enum_past w zero i n slots s past = refl
enum_past w (suc count) i zero slots s past = absurd (omega arith)
enum_past w (suc count) i (suc n) slots s past = enum_past w count i n slots s (omega arith)

-- ---- their records

kept_zero : (w : Source) (t : StringEncoding) (o : Option LayoutTy) (ps : Payloads) (slots : List CoreValue) (v : Option Val) → flat_records_of_case w t (payload_before o ps) zero slots v ≡ flat_records_of_payload w t o slots v
kept_zero w t None ps slots v = refl
kept_zero w t (Some l) ps slots None = refl
kept_zero w t (Some l) ps slots (Some v) = refl

kept_suc : (w : Source) (t : StringEncoding) (o : Option LayoutTy) (ps : Payloads) (n : ℕ) (slots : List CoreValue) (v : Option Val) → flat_records_of_case w t (payload_before o ps) (suc n) slots v ≡ flat_records_of_case w t ps n slots v
kept_suc w t None ps n slots v = refl
kept_suc w t (Some l) ps n slots v = refl

case_kept : {X : Type 0} (f : X → Option LayoutTy) (w : Source) (t : StringEncoding) (xs : List X) (n : ℕ) (slots : List CoreValue) (v : Option Val) (x : X) → n < length xs → x ≡ get_or xs n x
    → flat_records_of_case w t (payloads_from (map f xs)) n slots v ≡ flat_records_of_payload w t (f x) slots v
case_kept f w t [] n slots v x lt is = absurd (omega arith)
case_kept f w t (y ∷ xs) zero slots v x lt is = kept_zero w t (f y) (payloads_from (map f xs)) slots v ∙ ap (λ z. flat_records_of_payload w t (f z) slots v) (sym is)
case_kept f w t (y ∷ xs) (suc n) slots v x lt is = kept_suc w t (f y) (payloads_from (map f xs)) n slots v ∙ case_kept f w t xs n slots v x (omega arith) is

pub none_kept : (w : Source) (t : StringEncoding) (count i : ℕ) (slots : List CoreValue) (v : Option Val) → flat_records_of_case w t (nothings count) i slots v ≡ []
none_kept w t zero i slots v = refl
none_kept w t (suc count) zero slots v = refl
none_kept w t (suc count) (suc i) slots v = none_kept w t count i slots v

agree_carried : (w : Source) (t : StringEncoding) (l : LayoutTy) (ps : Payloads) (n : ℕ) (slots : List CoreValue) (r : Outcome Val)
    → ((v : Option Val) → flat_records_of_case w t ps n slots v ≡ flat_records_of_payload w t (Some l) slots v)
    → Agree (λ v. flat_records_of_payload w t (Some l) slots (payload v)) (flat_records_of_cases w t ps slots) (mapped (λ v. bearing n v) r)
agree_carried w t l ps n slots (Ok y) same = sym (same (Some y.0))
agree_carried w t l ps n slots (Err e) same = tt

agree_case : (w : Source) (t : StringEncoding) (o : Option LayoutTy) (ps : Payloads) (n : ℕ) (slots : List CoreValue) (s : State)
    → ((v : Option Val) → flat_records_of_case w t ps n slots v ≡ flat_records_of_payload w t o slots v)
    → Agree (λ v. flat_records_of_payload w t o slots (payload v)) (flat_records_of_cases w t ps slots) (read_flat_payload w o n slots s)
agree_case w t None ps n slots s same = sym (same None)
agree_case w t (Some l) ps n slots s same = agree_carried w t l ps n slots (read_flat w l.shape slots s) same

pub case_made : {A K X : Type 0} (stands : A → Val → Type 0) (keeps : K → List PartRecord → K → Type 0) (allocates : Type 0)
    (f : X → Option LayoutTy) (w : Source) (target : StringEncoding) (xs : List X) (n : ℕ) (slots : List CoreValue) (x : X) (old new : K) (s t : State) (result : Result A Stop)
    → n < length xs → x ≡ get_or xs n x
    → Makes stands keeps allocates (λ v. flat_records_of_payload w target (f x) slots (payload v)) (read_flat_payload w (f x) n slots s) old new s t result
    → Makes stands keeps allocates (flat_records_of_cases w target (payloads_from (map f xs)) slots) (read_flat_case w (payloads_from (map f xs)) n n slots s) old new s t result
case_made stands keeps allocates f w target xs n slots x old new s t result lt is made =
    subst (λ r. Makes stands keeps allocates (flat_records_of_cases w target (payloads_from (map f xs)) slots) r old new s t result) (sym (case_there f w xs n n slots s x lt is))
    (agreed stands keeps allocates (λ v. flat_records_of_payload w target (f x) slots (payload v)) (flat_records_of_cases w target (payloads_from (map f xs)) slots) (read_flat_payload w (f x) n slots s) old new s t result
    (agree_case w target (f x) (payloads_from (map f xs)) n slots s (λ v. case_kept f w target xs n slots v x lt is)) made)

pub enum_made : {A K : Type 0} (stands : A → Val → Type 0) (keeps : K → List PartRecord → K → Type 0) (w : Source) (target : StringEncoding) (count i : ℕ) (slots : List CoreValue) (made : A) (kept : K) (s : State)
    → i < count → stands made (bare i) → keeps kept [] kept
    → IsRead (read_flat_case w (nothings count) i i slots s) s (λ v. stands made v × keeps kept (flat_records_of_cases w target (nothings count) slots v) kept)
enum_made stands keeps w target count i slots made kept s lt is none =
    read_is (read_flat_case w (nothings count) i i slots s) (bare i) s (λ v. stands made v × keeps kept (flat_records_of_cases w target (nothings count) slots v) kept) (enum_there w count i i slots s lt)
    (is, subst (λ rs. keeps kept rs kept) (sym (none_kept w target count i slots None)) none)

-- ---- where core values say what is there

pub enum_placed : {A K : Type 0} (stands : A → Val → Type 0) (keeps : K → List PartRecord → K → Type 0) (allocates : Type 0) (w : Source) (target : StringEncoding) (d count i : ℕ) (slots : List CoreValue) (old new : K) (s t : State) (result : Result A Stop)
    → i ≡ wrapped_at 4 slots 0
    → Makes stands keeps allocates (flat_records_of_cases w target (nothings count) (drop 1 slots)) (read_flat_case w (nothings count) i i (drop 1 slots) s) old new s t result
    → Makes stands keeps allocates (flat_records w target (cases_shape d d (nothings count)) slots) (read_flat w (cases_shape d d (nothings count)) slots s) old new s t result
enum_placed stands keeps allocates w target d count i slots old new s t result is made =
    subst (λ j. Makes stands keeps allocates (flat_records_of_cases w target (nothings count) (drop 1 slots)) (read_flat_case w (nothings count) j j (drop 1 slots) s) old new s t result) is made

pub list_placed : {A K : Type 0} (stands : A → Val → Type 0) (keeps : K → List PartRecord → K → Type 0) (allocates : Type 0) (w : Source) (target : StringEncoding) (h : Head) (sh : Shape) (at n : ℕ) (slots : List CoreValue) (old new : K) (s t : State) (result : Result A Stop)
    → at ≡ wrapped_at 4 slots 0 → n ≡ wrapped_at 4 slots 1
    → Makes stands keeps allocates (records_of_list (records_at w target sh) h at n) (mapped elements (read_elements (read_at w sh) w.memory h at n s)) old new s t result
    → Makes stands keeps allocates (flat_records w target (list_shape h sh) slots) (read_flat w (list_shape h sh) slots s) old new s t result
list_placed stands keeps allocates w target h sh at n slots old new s t result first second made =
    subst (λ z. Makes stands keeps allocates (records_of_list (records_at w target sh) h z (wrapped_at 4 slots 1)) (mapped elements (read_elements (read_at w sh) w.memory h z (wrapped_at 4 slots 1) s)) old new s t result) first
    (subst (λ z. Makes stands keeps allocates (records_of_list (records_at w target sh) h at z) (mapped elements (read_elements (read_at w sh) w.memory h at z s)) old new s t result) second made)
