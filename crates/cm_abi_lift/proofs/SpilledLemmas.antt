-- What is made of a value at a pointer, of which its own bytes are the first part.
use Rattle.std.proofs.Common.{◌≡◌, ℕ, ◌+◌, ◌%◌, ◌≤◌, inl, inr, List, [], ◌∷◌, ◌++◌, length}
use Rattle.std.proofs.Common.{Ok, Err, Result, ap, subst, arith, refl, le-ltb}
use Rattle.std.specs.Prelude.{◌==◌, true}
use Rattle.cm_types.specs.Values.{Val}
use Rattle.cm_layout.specs.Shapes.{LayoutTy}
use Rattle.cm_abi_model.specs.declared.encoding.StringEncoding.{StringEncoding}
use Rattle.cm_abi_load.specs.declared.stop.Stop.{Stop}
use Rattle.cm_abi_load.specs.declared.stop.Stop.TheVariants as stop
use Rattle.cm_abi_load.specs.Making.{HasMore, IsRead, Makes, StopsMaking}
use Rattle.cm_abi_load.specs.Outcomes.{Outcome, State}
use Rattle.cm_abi_load.specs.Reading.{Source, read_at}
use Rattle.cm_abi_load.specs.Records.{element_record, records_at}
use Rattle.cm_abi_model.specs.declared.record.PartRecord.{PartRecord}
use Rattle.cm_abi_lift.specs.FlatReading.{read_spilled}
use Rattle.cm_abi_lift.specs.FlatRecords.{spilled_records}

-- ---- one record more, in front

read_behind : {A K : Type 0} (stands : A → Val → Type 0) (keeps : K → List PartRecord → K → Type 0)
    → ((a b c : K) (rs ss : List PartRecord) → keeps a rs b → keeps b ss c → keeps a (rs ++ ss) c)
    → (x : PartRecord) (R : Val → List PartRecord) (r : Outcome Val) (made : A) (old mid new : K)
    (t : State) → keeps old (x ∷ []) mid
    → IsRead r t (λ v. stands made v × keeps mid (R v) new)
    → IsRead r t (λ v. stands made v × keeps old (x ∷ R v) new)
read_behind stands keeps both x R (Ok y) made old mid new t first is =
    (is.0, (is.1.0, both old mid new (x ∷ []) (R y.0) first is.1.1))
read_behind stands keeps both x R (Err e) made old mid new t first is = absurd is

more_behind : (x : PartRecord) (R : Val → List PartRecord) (s : State) (r : Outcome Val)
    → HasMore R s r → HasMore (λ v. x ∷ R v) s r
more_behind x R s (Ok y) more = omega (arith, more)
more_behind x R s (Err e) more = tt

stops_behind : (allocates : Type 0) (x : PartRecord) (R : Val → List PartRecord) (r : Outcome Val)
    (s t : State) (e : Stop)
    → StopsMaking allocates R r s t e → StopsMaking allocates (λ v. x ∷ R v) r s t e
stops_behind allocates x R r s t stop.Memory (inl all) = inl all
stops_behind allocates x R r s t stop.Memory (inr more) = inr (more_behind x R s r more)
stops_behind allocates x R r s t (stop.Fault f) is = is

makes_behind : {A K : Type 0} (stands : A → Val → Type 0) (keeps : K → List PartRecord → K → Type 0)
    (allocates : Type 0)
    → ((a b c : K) (rs ss : List PartRecord) → keeps a rs b → keeps b ss c → keeps a (rs ++ ss) c)
    → (x : PartRecord) (R : Val → List PartRecord) (r : Outcome Val) (old mid new : K)
    (s t : State) (result : Result A Stop) → keeps old (x ∷ []) mid
    → Makes stands keeps allocates R r mid new s t result
    → Makes stands keeps allocates (λ v. x ∷ R v) r old new s t result
makes_behind stands keeps allocates both x R r old mid new s t (Ok made) first is =
    read_behind stands keeps both x R r made old mid new t first is
makes_behind stands keeps allocates both x R r old mid new s t (Err e) first is =
    stops_behind allocates x R r s t e is

-- ---- at a pointer that is aligned and in bounds

there : (w : Source) (l : LayoutTy) (at : ℕ) (s : State)
    → at % l.head.align ≡ 0 → at + l.head.size ≤ length w.memory
    → read_at w l.shape at s ≡ read_spilled w l at s
unfolding read_spilled
there w l at s aligned inside =
    let even : (at % l.head.align == 0) ≡ true = ap (λ n. n == 0) aligned in
    rw (even, le-ltb (length w.memory) (at + l.head.size) inside) refl

pub spilled_makes : {A K : Type 0} (stands : A → Val → Type 0)
    (keeps : K → List PartRecord → K → Type 0) (allocates : Type 0)
    → ((a b c : K) (rs ss : List PartRecord) → keeps a rs b → keeps b ss c → keeps a (rs ++ ss) c)
    → (w : Source) (target : StringEncoding) (l : LayoutTy) (at : ℕ) (old mid new : K)
    (s t : State) (result : Result A Stop)
    → at % l.head.align ≡ 0 → at + l.head.size ≤ length w.memory
    → keeps old (element_record l.head at 1 ∷ []) mid
    → Makes stands keeps allocates (records_at w target l.shape at) (read_at w l.shape at s) mid
    new s t result
    → Makes stands keeps allocates (spilled_records w target l at) (read_spilled w l at s) old
    new s t result
spilled_makes stands keeps allocates both w target l at old mid new s t result aligned inside first is =
    subst (λ r. Makes stands keeps allocates (spilled_records w target l at) r old new s t result)
    (there w l at s aligned inside)
    (makes_behind stands keeps allocates both (element_record l.head at 1) (records_at w target l.shape at) (read_at w l.shape at s) old mid new s t result first is)
