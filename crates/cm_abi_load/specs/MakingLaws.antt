-- What is made of values that are read one after another, whatever they are read from.
use Rattle.std.proofs.Common.{◌≡◌, ◌+◌, ◌<◌, ◌≤◌, inl, inr, List, [], ◌++◌, length, Ok, Err, refl}
use Rattle.std.proofs.Common.{sym, ap, subst, ◌∙◌, arith, append-nil, append_assoc}
use Rattle.std.proofs.lemmas.List.{length-append}
use Rattle.cm_types.specs.Values.{Val, Vals, no_vals, val}
use Rattle.cm_abi_load.specs.declared.stop.Stop.{Stop}
use Rattle.cm_abi_load.specs.declared.stop.Stop.TheVariants as stop
use Rattle.cm_abi_load.specs.Outcomes.{Outcome, State, mapped, ◌>>=◌}
use Rattle.cm_abi_model.specs.declared.record.PartRecord.{PartRecord}
use Rattle.cm_abi_load.specs.Making.{HasMore, IsRead, KeepsHandles, StopsMaking, with_last}

-- ---- values behind values

abbrev pub joined : Vals → Vals → Vals
joined no_vals vs = vs
joined (val u us) vs = val u (joined us vs)

joined_last : (us : Vals) (v : Val) (vs : Vals)
    → joined (with_last us v) vs ≡ joined us (val v vs)
joined_last no_vals v vs = refl
joined_last (val u us) v vs = ap (val u) (joined_last us v vs)

joined_none : (us : Vals) → joined us no_vals ≡ us
joined_none no_vals = refl
joined_none (val u us) = ap (val u) (joined_none us)

abbrev read_ok : {A : Type 0} → A → State → Outcome A
read_ok a s = Ok (a, s)

regroup : (us : Vals) (v : Val) (r : Outcome Vals)
    → mapped (joined (with_last us v)) r ≡ mapped (joined us) (mapped (λ vs. val v vs) r)
regroup us v (Ok y) = ap (λ (vs : Vals). read_ok vs y.1) (joined_last us v y.0)
regroup us v (Err e) = refl

mapped_none : (r : Outcome Vals) → mapped (joined no_vals) r ≡ r
mapped_none (Ok x) = refl
mapped_none (Err e) = refl

-- ---- stops

pub no_room : {V : Type 0} (allocates : Type 0) (R : V → List PartRecord) (r : Outcome V)
    (s t : State) (e : Stop)
    → e ≡ stop.Memory → allocates → StopsMaking allocates R r s t e
no_room allocates R r s t stop.Memory is all = inl all
no_room allocates R r s t (stop.Fault f) is all = absurd (cc)

more_mapped : {U V : Type 0} (f : U → V) (R : V → List PartRecord) (s : State) (r : Outcome U)
    → HasMore (λ u. R (f u)) s r → HasMore R s (mapped f r)
more_mapped f R s (Ok x) more = more
more_mapped f R s (Err e) more = tt

mapped_err : {U V : Type 0} (f : U → V) (r : Outcome U) (x : _) → r ≡ Err x → mapped f r ≡ Err x
mapped_err f r x is = rw is refl

pub stops_of : {U V : Type 0} (allocates : Type 0) (f : U → V) (R : V → List PartRecord)
    (r : Outcome U) (s t : State) (e : Stop)
    → StopsMaking allocates (λ u. R (f u)) r s t e → StopsMaking allocates R (mapped f r) s t e
stops_of allocates f R r s t stop.Memory (inl all) = inl all
stops_of allocates f R r s t stop.Memory (inr more) = inr (more_mapped f R s r more)
stops_of allocates f R r s t (stop.Fault x) is = mapped_err f r (x, t) is

-- ---- what is made of what was made

pub read_of : {U V : Type 0} (f : U → V) (r : Outcome U) (t : State) (P : U → Type 0)
    (Q : V → Type 0)
    → ((u : U) → P u → Q (f u)) → IsRead r t P → IsRead (mapped f r) t Q
read_of f (Ok x) t P Q more is = (is.0, more x.0 is.1)
read_of f (Err e) t P Q more is = absurd is

-- a value that is read
pub read_is : {V : Type 0} (r : Outcome V) (v : V) (t : State) (P : V → Type 0)
    → r ≡ Ok (v, t) → P v → IsRead r t P
read_is r v t P is holds = rw is (refl, holds)

-- ---- values one after another

-- A walk over values in a row, on its way: what was made stands for those in front, what was kept
-- tells their records, and what is still to be read, behind them, makes up the whole.
pub record Going {B K : Type 0} (stand : B → Vals → Type 0)
    (keeps : K → List PartRecord → K → Type 0) (row : B) (old now : K) (s t : State)
    (all rest : Outcome Vals) (F G : Vals → List PartRecord) : Type 0 where
  pub front : Vals
  pub stands : stand row front
  pub told : List PartRecord
  pub kept : keeps old told now
  pub read : mapped (joined front) rest ≡ all
  pub records : (vs : Vals) → F (joined front vs) ≡ told ++ G vs
  pub met : length s.handles ≤ length t.handles

pub begins : {B K : Type 0} (stand : B → Vals → Type 0) (keeps : K → List PartRecord → K → Type 0)
    (row : B) (old : K) (s : State) (all : Outcome Vals) (F : Vals → List PartRecord)
    → stand row no_vals → keeps old [] old
    → Going stand keeps row old old s s all all F F
begins stand keeps row old s all F stands none = record {
  front = no_vals;
  stands = stands;
  told = [];
  kept = none;
  read = mapped_none all;
  records = λ vs. refl;
  met = omega arith;
}

abbrev pub then_others : Outcome Val → (State → Outcome Vals) → Outcome Vals
then_others one others = one >>= λ x. mapped (λ vs. val x.0 vs) (others x.1)

-- one value more
pub turns : {A B K : Type 0} (stands : A → Val → Type 0) (stand : B → Vals → Type 0)
    (keeps : K → List PartRecord → K → Type 0)
    (both : (a b c : K) (rs ss : List PartRecord) → keeps a rs b → keeps b ss c
    → keeps a (rs ++ ss) c)
    (R : Val → List PartRecord) (F G H : Vals → List PartRecord) (one : Outcome Val)
    (others : State → Outcome Vals) (all : Outcome Vals)
    (row pushed : B) (made : A) (old now new : K) (s t u : State)
    → ((v : Val) (vs : Vals) → G (val v vs) ≡ R v ++ H vs)
    → Going stand keeps row old now s t all (then_others one others) F G
    → IsRead one u (λ v. stands made v × keeps now (R v) new)
    → KeepsHandles t one
    → ((vs : Vals) (v : Val) → stand row vs → stands made v → stand pushed (with_last vs v))
    → Going stand keeps pushed old new s u all (others u) F H
turns stands stand keeps both R F G H (Ok x) others all row pushed made old now new s t u
    split far is met push =
    let there : mapped (joined (with_last far.front x.0)) (others u) ≡ all =
    regroup far.front x.0 (others u)
    ∙ (ap (λ z. mapped (joined far.front) (mapped (λ vs. val x.0 vs) (others z))) (sym is.0)
    ∙ far.read) in
    let handles : length x.1.handles ≡ length u.handles =
    ap (λ (z : State). length z.handles) is.0 in
    record {
      front = with_last far.front x.0;
      stands = push far.front x.0 far.stands is.1.0;
      told = far.told ++ R x.0;
      kept = both old now new far.told (R x.0) far.kept is.1.1;
      read = there;
      records = λ vs. ap F (joined_last far.front x.0 vs)
          ∙ (far.records (val x.0 vs) ∙ (ap (λ z. far.told ++ z) (split x.0 vs)
          ∙ sym (append_assoc far.told (R x.0) (H vs))));
      met = omega (arith, far.met, met, handles);
    }
turns stands stand keeps both R F G H (Err e) others all row pushed made old now new s t u
    split far is met push = absurd is

more_behind : (R : Val → List PartRecord) (F G H : Vals → List PartRecord) (front : Vals)
    (told : List PartRecord) (x : Val × State) (r : Outcome Vals) (s t : State)
    → ((v : Val) (vs : Vals) → G (val v vs) ≡ R v ++ H vs)
    → ((vs : Vals) → F (joined front vs) ≡ told ++ G vs)
    → length s.handles ≤ length t.handles
    → length t.handles < length (R x.0) + length x.1.handles → KeepsHandles x.1 r
    → HasMore F s (mapped (joined front) (mapped (λ vs. val x.0 vs) r))
more_behind R F G H front told x (Ok y) s t split records met more keeps =
    let behind : length (G (val x.0 y.0)) ≡ length (R x.0) + length (H y.0) =
    ap length (split x.0 y.0) ∙ length-append (R x.0) (H y.0) in
    let whole : length (F (joined front (val x.0 y.0)))
    ≡ length told + (length (R x.0) + length (H y.0)) =
    ap length (records (val x.0 y.0))
    ∙ (length-append told (G (val x.0 y.0)) ∙ ap (λ z. length told + z) behind) in
    omega (arith, whole, met, more, keeps)
more_behind R F G H front told x (Err e) s t split records met more keeps = tt

more_all : (R : Val → List PartRecord) (F G H : Vals → List PartRecord) (front : Vals)
    (told : List PartRecord) (one : Outcome Val) (others : State → Outcome Vals) (s t : State)
    → ((v : Val) (vs : Vals) → G (val v vs) ≡ R v ++ H vs)
    → ((vs : Vals) → F (joined front vs) ≡ told ++ G vs)
    → length s.handles ≤ length t.handles → HasMore R t one
    → ((z : State) → KeepsHandles z (others z))
    → HasMore F s (mapped (joined front) (then_others one others))
more_all R F G H front told (Ok x) others s t split records met more keeps =
    more_behind R F G H front told x (others x.1) s t split records met more (keeps x.1)
more_all R F G H front told (Err e) others s t split records met more keeps = tt

-- one value that is not made
pub one_stops : {B K : Type 0} (stand : B → Vals → Type 0)
    (keeps : K → List PartRecord → K → Type 0) (allocates : Type 0)
    (R : Val → List PartRecord) (F G H : Vals → List PartRecord) (one : Outcome Val)
    (others : State → Outcome Vals) (all : Outcome Vals)
    (row : B) (old now : K) (s t u : State) (e : Stop)
    → ((v : Val) (vs : Vals) → G (val v vs) ≡ R v ++ H vs)
    → Going stand keeps row old now s t all (then_others one others) F G
    → ((z : State) → KeepsHandles z (others z))
    → StopsMaking allocates R one t u e
    → StopsMaking allocates F all s u e
one_stops stand keeps allocates R F G H one others all row old now s t u stop.Memory
    split far met (inl can) = inl can
one_stops stand keeps allocates R F G H one others all row old now s t u stop.Memory
    split far met (inr more) =
    inr (subst (λ z. HasMore F s z) far.read
    (more_all R F G H far.front far.told one others s t split far.records far.met more met))
one_stops stand keeps allocates R F G H one others all row old now s t u (stop.Fault f)
    split far met is =
    let stopped : mapped (joined far.front) (then_others one others) ≡ Err (f, u) = rw is refl in
    sym far.read ∙ stopped

-- none is left
pub ends : {B K : Type 0} (stand : B → Vals → Type 0) (keeps : K → List PartRecord → K → Type 0)
    (F G : Vals → List PartRecord) (all rest : Outcome Vals) (row : B) (old now : K) (s t : State)
    → Going stand keeps row old now s t all rest F G → rest ≡ Ok (no_vals, t) → G no_vals ≡ []
    → IsRead all t (λ vs. stand row vs × keeps old (F vs) now)
ends stand keeps F G all rest row old now s t far none empty =
    let total : all ≡ Ok (far.front, t) =
    sym far.read ∙ (ap (λ z. mapped (joined far.front) z) none
    ∙ ap (λ (vs : Vals). read_ok vs t) (joined_none far.front)) in
    let told : F far.front ≡ far.told =
    ap F (sym (joined_none far.front))
    ∙ (far.records no_vals ∙ (ap (λ z. far.told ++ z) empty ∙ append-nil far.told)) in
    read_is all far.front t (λ vs. stand row vs × keeps old (F vs) now) total
    (far.stands, subst (λ z. keeps old z now) (sym told) far.kept)
