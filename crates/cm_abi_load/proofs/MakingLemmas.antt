-- What is made of values that stand in a memory one after another.
use Rattle.std.proofs.Common.{◌≡◌, ℕ, suc, ◌+◌, ◌*◌, ◌-◌, ◌<◌, ◌≤◌, inr, List, [], ◌++◌, length, map, drop, get_or, Ok, Err, refl, sym, ap, subst, arith}
use Rattle.cm_types.specs.Values.{Val, Vals, no_vals}
use Rattle.cm_layout.specs.Layouts.{part_of}
use Rattle.cm_layout.specs.Shapes.{part, parts_from}
use Rattle.cm_layout.specs.declared.layouts.Part.{Part}
use Rattle.cm_abi_model.specs.declared.encoding.StringEncoding.{StringEncoding}
use Rattle.cm_abi_load.specs.declared.stop.Stop.{Stop}
use Rattle.cm_abi_load.specs.declared.stop.Stop.TheVariants as stop
use Rattle.cm_abi_load.specs.Outcomes.{Outcome, State, Stops}
use Rattle.cm_abi_model.specs.declared.record.PartRecord.{PartRecord}
use Rattle.cm_abi_load.specs.Making.{HasMore, IsRead, KeepsHandles, StopsMaking, with_last}
use Rattle.cm_abi_load.specs.MakingLaws.{Going, begins, ends, one_stops, turns}
use Rattle.cm_abi_load.specs.Reading.{Source, read_at, read_each, read_parts}
use Rattle.cm_abi_load.specs.Records.{records_at, records_each, records_of_fields}
use Rattle.cm_abi_load.proofs.HandleLemmas.{keeps_at, keeps_each, keeps_parts}
use Rattle.cm_lemmas.proofs.Lists.{drop_past}
use Rattle.cm_layout.proofs.LayoutsLaws.{parts_next}

-- ---- stops

pub stops_wanted : {V : Type 0} (allocates : Type 0) (R : V → List PartRecord) (r : Outcome V) (s t : State) (e : Stop) → Stops e t r → HasMore R s r → StopsMaking allocates R r s t e
stops_wanted allocates R r s t stop.Memory is more = inr more
stops_wanted allocates R r s t (stop.Fault f) is more = is

pub memory_wanted : {V : Type 0} (allocates : Type 0) (R : V → List PartRecord) (r : Outcome V) (s t : State) (e : Stop) → e ≡ stop.Memory → HasMore R s r → StopsMaking allocates R r s t e
memory_wanted allocates R r s t stop.Memory is more = inr more
memory_wanted allocates R r s t (stop.Fault f) is more = absurd (cc)

-- ---- what is made of what was made

pub read_so : {V : Type 0} (r : Outcome V) (t : State) (P Q : V → Type 0) → ((v : V) → P v → Q v) → IsRead r t P → IsRead r t Q
read_so (Ok x) t P Q more is = (is.0, more x.0 is.1)
read_so (Err e) t P Q more is = absurd is

-- ---- so many values in a row

pub each_begins : {B K : Type 0} (stand : B → Vals → Type 0) (keeps : K → List PartRecord → K → Type 0) (P : ℕ → State → Outcome Val) (Q : ℕ → Val → List PartRecord) (size count at : ℕ) (row : B) (old : K) (s : State)
    → stand row no_vals → keeps old [] old
    → (at ≡ at + 0 * size) × Going stand keeps row old old s s (read_each P size count at s) (read_each P size (count - 0) at s) (records_each Q size at) (records_each Q size at)
each_begins stand keeps P Q size count at row old s stands none =
    let whole : count - 0 ≡ count = omega arith in (
      omega arith,
      subst (λ n. Going stand keeps row old old s s (read_each P size count at s) (read_each P size n at s) (records_each Q size at) (records_each Q size at)) (sym whole)
          (begins stand keeps row old s (read_each P size count at s) (records_each Q size at) stands none),
    )

pub each_turns : {A B K : Type 0} (stands : A → Val → Type 0) (stand : B → Vals → Type 0) (keeps : K → List PartRecord → K → Type 0)
    (both : (a b c : K) (rs ss : List PartRecord) → keeps a rs b → keeps b ss c → keeps a (rs ++ ss) c)
    (P : ℕ → State → Outcome Val) (Q : ℕ → Val → List PartRecord) (size count i p q : ℕ) (all : Outcome Vals) (F : Vals → List PartRecord)
    (row pushed : B) (made : A) (old now new : K) (s t u : State)
    → i < count → q ≡ p + size
    → Going stand keeps row old now s t all (read_each P size (count - i) p t) F (records_each Q size p)
    → IsRead (P p t) u (λ v. stands made v × keeps now (Q p v) new)
    → KeepsHandles t (P p t)
    → ((vs : Vals) (v : Val) → stand row vs → stands made v → stand pushed (with_last vs v))
    → Going stand keeps pushed old new s u all (read_each P size (count - (i + 1)) q u) F (records_each Q size q)
each_turns stands stand keeps both P Q size count i p q all F row pushed made old now new s t u lt there far is met push =
    let more : count - i ≡ suc (count - (i + 1)) = omega (arith, lt) in
    let so_far : Going stand keeps row old now s t all (read_each P size (suc (count - (i + 1))) p t) F (records_each Q size p) =
    subst (λ n. Going stand keeps row old now s t all (read_each P size n p t) F (records_each Q size p)) more far in
    subst (λ z. Going stand keeps pushed old new s u all (read_each P size (count - (i + 1)) z u) F (records_each Q size z)) (sym there)
    (turns stands stand keeps both (Q p) F (records_each Q size p) (records_each Q size (p + size)) (P p t) (λ z. read_each P size (count - (i + 1)) (p + size) z) all row pushed made old now new s t u (λ v vs. refl) so_far is met push)

pub each_stops : {B K : Type 0} (stand : B → Vals → Type 0) (keeps : K → List PartRecord → K → Type 0) (allocates : Type 0)
    (P : ℕ → State → Outcome Val) (Q : ℕ → Val → List PartRecord) (size count i p : ℕ) (all : Outcome Vals) (F : Vals → List PartRecord)
    (row : B) (old now : K) (s t u : State) (e : Stop)
    → i < count
    → Going stand keeps row old now s t all (read_each P size (count - i) p t) F (records_each Q size p)
    → ((q : ℕ) (z : State) → KeepsHandles z (P q z))
    → StopsMaking allocates (Q p) (P p t) t u e
    → StopsMaking allocates F all s u e
each_stops stand keeps allocates P Q size count i p all F row old now s t u e lt far met stops =
    let more : count - i ≡ suc (count - (i + 1)) = omega (arith, lt) in
    let so_far : Going stand keeps row old now s t all (read_each P size (suc (count - (i + 1))) p t) F (records_each Q size p) =
    subst (λ n. Going stand keeps row old now s t all (read_each P size n p t) F (records_each Q size p)) more far in
    one_stops stand keeps allocates (Q p) F (records_each Q size p) (records_each Q size (p + size)) (P p t) (λ z. read_each P size (count - (i + 1)) (p + size) z) all row old now s t u e (λ v vs. refl) so_far
    (λ z. keeps_each P size (count - (i + 1)) (p + size) z met) stops

pub each_ends : {B K : Type 0} (stand : B → Vals → Type 0) (keeps : K → List PartRecord → K → Type 0)
    (P : ℕ → State → Outcome Val) (Q : ℕ → Val → List PartRecord) (size count i p : ℕ) (all : Outcome Vals) (F : Vals → List PartRecord)
    (row : B) (old now : K) (s t : State)
    → count ≤ i
    → Going stand keeps row old now s t all (read_each P size (count - i) p t) F (records_each Q size p)
    → IsRead all t (λ vs. stand row vs × keeps old (F vs) now)
each_ends stand keeps P Q size count i p all F row old now s t past far =
    let none : count - i ≡ 0 = omega (arith, past) in
    ends stand keeps F (records_each Q size p) all (read_each P size (count - i) p t) row old now s t far (ap (λ n. read_each P size n p t) none) refl

-- ---- fields

pub fields_turn : {A B K : Type 0} (stands : A → Val → Type 0) (stand : B → Vals → Type 0) (keeps : K → List PartRecord → K → Type 0)
    (both : (a b c : K) (rs ss : List PartRecord) → keeps a rs b → keeps b ss c → keeps a (rs ++ ss) c)
    (w : Source) (target : StringEncoding) (ps : List Part) (i at : ℕ) (p : Part) (all : Outcome Vals) (F : Vals → List PartRecord)
    (row pushed : B) (made : A) (old now new : K) (s t u : State)
    → i < length ps → p ≡ get_or ps i p
    → Going stand keeps row old now s t all (read_parts w (parts_from (map part_of (drop i ps))) at t) F (records_of_fields w target (parts_from (map part_of (drop i ps))) at)
    → IsRead (read_at w (part_of p).1.shape (at + (part_of p).0) t) u (λ v. stands made v × keeps now (records_at w target (part_of p).1.shape (at + (part_of p).0) v) new)
    → ((vs : Vals) (v : Val) → stand row vs → stands made v → stand pushed (with_last vs v))
    → Going stand keeps pushed old new s u all (read_parts w (parts_from (map part_of (drop (i + 1) ps))) at u) F (records_of_fields w target (parts_from (map part_of (drop (i + 1) ps))) at)
fields_turn stands stand keeps both w target ps i at p all F row pushed made old now new s t u lt there far is push =
    let rest = parts_from (map part_of (drop (i + 1) ps)) in
    let whole = part (part_of p).0 (part_of p).1.head (part_of p).1.shape rest in
    let so_far : Going stand keeps row old now s t all (read_parts w whole at t) F (records_of_fields w target whole at) =
    subst (λ z. Going stand keeps row old now s t all (read_parts w z at t) F (records_of_fields w target z at)) (parts_next ps i p lt there) far in
    turns stands stand keeps both (records_at w target (part_of p).1.shape (at + (part_of p).0)) F (records_of_fields w target whole at) (records_of_fields w target rest at) (read_at w (part_of p).1.shape (at + (part_of p).0) t) (λ z. read_parts w rest at z) all row pushed made old now new s t u (λ v vs. refl) so_far is
    (keeps_at w (part_of p).1.shape (at + (part_of p).0) t) push

pub fields_stop : {B K : Type 0} (stand : B → Vals → Type 0) (keeps : K → List PartRecord → K → Type 0) (allocates : Type 0)
    (w : Source) (target : StringEncoding) (ps : List Part) (i at : ℕ) (p : Part) (all : Outcome Vals) (F : Vals → List PartRecord)
    (row : B) (old now : K) (s t u : State) (e : Stop)
    → i < length ps → p ≡ get_or ps i p
    → Going stand keeps row old now s t all (read_parts w (parts_from (map part_of (drop i ps))) at t) F (records_of_fields w target (parts_from (map part_of (drop i ps))) at)
    → StopsMaking allocates (records_at w target (part_of p).1.shape (at + (part_of p).0)) (read_at w (part_of p).1.shape (at + (part_of p).0) t) t u e
    → StopsMaking allocates F all s u e
fields_stop stand keeps allocates w target ps i at p all F row old now s t u e lt there far stops =
    let rest = parts_from (map part_of (drop (i + 1) ps)) in
    let whole = part (part_of p).0 (part_of p).1.head (part_of p).1.shape rest in
    let so_far : Going stand keeps row old now s t all (read_parts w whole at t) F (records_of_fields w target whole at) =
    subst (λ z. Going stand keeps row old now s t all (read_parts w z at t) F (records_of_fields w target z at)) (parts_next ps i p lt there) far in
    one_stops stand keeps allocates (records_at w target (part_of p).1.shape (at + (part_of p).0)) F (records_of_fields w target whole at) (records_of_fields w target rest at) (read_at w (part_of p).1.shape (at + (part_of p).0) t) (λ z. read_parts w rest at z) all row old now s t u e (λ v vs. refl) so_far
    (λ z. keeps_parts w rest at z) stops

pub fields_end : {B K : Type 0} (stand : B → Vals → Type 0) (keeps : K → List PartRecord → K → Type 0)
    (w : Source) (target : StringEncoding) (ps : List Part) (i at : ℕ) (all : Outcome Vals) (F : Vals → List PartRecord)
    (row : B) (old now : K) (s t : State)
    → length ps ≤ i
    → Going stand keeps row old now s t all (read_parts w (parts_from (map part_of (drop i ps))) at t) F (records_of_fields w target (parts_from (map part_of (drop i ps))) at)
    → IsRead all t (λ vs. stand row vs × keeps old (F vs) now)
fields_end stand keeps w target ps i at all F row old now s t past far =
    let none = drop_past ps i past in
    ends stand keeps F (records_of_fields w target (parts_from (map part_of (drop i ps))) at) all (read_parts w (parts_from (map part_of (drop i ps))) at t) row old now s t far
    (rw none refl) (rw none refl)
