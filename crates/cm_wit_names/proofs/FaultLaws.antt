-- The first fault of all.
use Rattle.std.proofs.Common.{◌≡◌, ℕ, ◌+◌, ◌<◌, ◌≤◌, ◌⊎◌, inl, inr, List, take, Option, Some, None, sym, ap, subst, arith}
use Rattle.std.proofs.lemmas.Bool.{cases_eq}
use Rattle.cm_wit_tokens.specs.declared.fault.WitReason.{WitReason}
use Rattle.cm_wit_tokens.specs.declared.fault.WitReason.TheVariants as reason
use Rattle.cm_wit_graph.specs.Graphs.{Edges, IsFirstOnCycle, ReachesItself}
use Rattle.cm_wit_names.specs.Mentions.{Mention}
use Rattle.cm_wit_names.specs.Known.{IsAt, edges}
use Rattle.cm_wit_names.specs.Rules.{HasFault, IsFirstFault, IsLeast, IsTaken, IsUnknown, LeadsToBorrow, Precedes}
use Rattle.cm_wit_names.specs.Firsts.{Firsts, IsFirst, IsLesser, NotBehind}
use Rattle.cm_lemmas.proofs.Options.{none_number, some_number}

-- ---- what stands before a place

-- nothing below a number
abbrev pub NoneBelow : (ℕ → Type 0) → ℕ → Type 0
NoneBelow P n = (k : ℕ) → k < n → P k → ⊥

least_below : (P : ℕ → Type 0) (o : Option ℕ) (n : ℕ) → IsLeast P o → NotBehind n o → NoneBelow P n
least_below P None n h le k lt p = h k p
least_below P (Some q) n h le k lt p = h.1 k (omega (arith, lt, le)) p

least_at : (P : ℕ → Type 0) (o : Option ℕ) (n : ℕ) → IsLeast P o → o ≡ Some n → P n
least_at P None n h e = absurd (none_number n e)
least_at P (Some q) n h e = subst P (some_number q n e) h.0

other_behind : (o : Option ℕ) (n : ℕ) → NotBehind n o → (o ≡ Some n → ⊥) → NotBehind (n + 1) o
other_behind None n le isnt = tt
other_behind (Some q) n le isnt = elim (cases_eq q n) [
  | inl e ↦ absurd (isnt (ap Some e))
  | inr d ↦ omega (arith, le, d)
]

lesser_behind : (a b c : Option ℕ) (n : ℕ) → IsLesser a b c → NotBehind n c → NotBehind n a × NotBehind n b
lesser_behind a b None n h le = (subst (NotBehind n) (sym h.0) tt, subst (NotBehind n) (sym h.1) tt)
lesser_behind a b (Some p) n h le = (behind_more a h.0, behind_more b h.1)
  where
    behind_more : (o : Option ℕ) → NotBehind p o → NotBehind n o
    behind_more None q = tt
    behind_more (Some x) q = omega (arith, q, le)

-- ---- the order of faults

pub borrow_first : (ms : List Mention) (p : ℕ) → IsLeast (λ n. IsAt ms n (LeadsToBorrow ms)) (Some p) → IsFirstFault ms (Some (p, reason.Unexpected))
borrow_first ms p h = (h.0, first)
  where
    first : (n : ℕ) (r : WitReason) → HasFault ms n r → Precedes n r p reason.Unexpected → ⊥
    first n reason.BadToken f q = f
    first n reason.Unexpected f q = h.1 n q f
    first n reason.Duplicate f q = q
    first n reason.UnknownName f q = q
    first n reason.Cycle f q = q
    first n reason.Unsupported f q = f
    first n reason.TooDeep f q = f
    first n reason.Memory f q = f

precedes_same : (P : ℕ → Type 0) (n p x y : ℕ) → NoneBelow P p → y ≤ x → P n → (n < p) ⊎ ((n ≡ p) × (x < y)) → ⊥
precedes_same P n p x y none le f q = elim q [
  | inl lt ↦ none n lt f
  | inr e ↦ omega (arith, e.1, le)
]

precedes_other : (P : ℕ → Type 0) (n p x y : ℕ) → NoneBelow P (p + 1) → P n → (n < p) ⊎ ((n ≡ p) × (x < y)) → ⊥
precedes_other P n p x y none f q = elim q [
  | inl lt ↦ none n (omega (arith, lt)) f
  | inr e ↦ none n (omega (arith, e.0)) f
]

pub duplicate_first : (ms : List Mention) (p : ℕ) → IsLeast (λ n. IsAt ms n (LeadsToBorrow ms)) None → NoneBelow (λ n. HasFault ms n reason.Duplicate) p → NoneBelow (λ n. HasFault ms n reason.UnknownName) p → NoneBelow (λ n. HasFault ms n reason.Cycle) p → HasFault ms p reason.Duplicate → IsFirstFault ms (Some (p, reason.Duplicate))
duplicate_first ms p b d u c here = (here, first)
  where
    first : (n : ℕ) (r : WitReason) → HasFault ms n r → Precedes n r p reason.Duplicate → ⊥
    first n reason.BadToken f q = f
    first n reason.Unexpected f q = b n f
    first n reason.Duplicate f q = precedes_same (λ (k : ℕ). HasFault ms k reason.Duplicate) n p 3 3 d (omega arith) f q
    first n reason.UnknownName f q = precedes_same (λ (k : ℕ). HasFault ms k reason.UnknownName) n p 4 3 u (omega arith) f q
    first n reason.Cycle f q = precedes_same (λ (k : ℕ). HasFault ms k reason.Cycle) n p 5 3 c (omega arith) f q
    first n reason.Unsupported f q = f
    first n reason.TooDeep f q = f
    first n reason.Memory f q = f

pub unknown_first : (ms : List Mention) (p : ℕ) → IsLeast (λ n. IsAt ms n (LeadsToBorrow ms)) None → NoneBelow (λ n. HasFault ms n reason.Duplicate) (p + 1) → NoneBelow (λ n. HasFault ms n reason.UnknownName) p → NoneBelow (λ n. HasFault ms n reason.Cycle) p → HasFault ms p reason.UnknownName → IsFirstFault ms (Some (p, reason.UnknownName))
unknown_first ms p b d u c here = (here, first)
  where
    first : (n : ℕ) (r : WitReason) → HasFault ms n r → Precedes n r p reason.UnknownName → ⊥
    first n reason.BadToken f q = f
    first n reason.Unexpected f q = b n f
    first n reason.Duplicate f q = precedes_other (λ (k : ℕ). HasFault ms k reason.Duplicate) n p 3 4 d f q
    first n reason.UnknownName f q = precedes_same (λ (k : ℕ). HasFault ms k reason.UnknownName) n p 4 4 u (omega arith) f q
    first n reason.Cycle f q = precedes_same (λ (k : ℕ). HasFault ms k reason.Cycle) n p 5 4 c (omega arith) f q
    first n reason.Unsupported f q = f
    first n reason.TooDeep f q = f
    first n reason.Memory f q = f

pub cycle_first : (ms : List Mention) (p : ℕ) → IsLeast (λ n. IsAt ms n (LeadsToBorrow ms)) None → NoneBelow (λ n. HasFault ms n reason.Duplicate) (p + 1) → NoneBelow (λ n. HasFault ms n reason.UnknownName) (p + 1) → NoneBelow (λ n. HasFault ms n reason.Cycle) p → HasFault ms p reason.Cycle → IsFirstFault ms (Some (p, reason.Cycle))
cycle_first ms p b d u c here = (here, first)
  where
    first : (n : ℕ) (r : WitReason) → HasFault ms n r → Precedes n r p reason.Cycle → ⊥
    first n reason.BadToken f q = f
    first n reason.Unexpected f q = b n f
    first n reason.Duplicate f q = precedes_other (λ (k : ℕ). HasFault ms k reason.Duplicate) n p 3 5 d f q
    first n reason.UnknownName f q = precedes_other (λ (k : ℕ). HasFault ms k reason.UnknownName) n p 4 5 u f q
    first n reason.Cycle f q = precedes_same (λ (k : ℕ). HasFault ms k reason.Cycle) n p 5 5 c (omega arith) f q
    first n reason.Unsupported f q = f
    first n reason.TooDeep f q = f
    first n reason.Memory f q = f

no_fault : (ms : List Mention) → IsLeast (λ n. IsAt ms n (LeadsToBorrow ms)) None → ((n : ℕ) → HasFault ms n reason.Duplicate → ⊥) → ((n : ℕ) → HasFault ms n reason.UnknownName → ⊥) → ((n : ℕ) → HasFault ms n reason.Cycle → ⊥) → IsFirstFault ms None
no_fault ms b d u c = none
  where
    none : (n : ℕ) (r : WitReason) → HasFault ms n r → ⊥
    none n reason.BadToken f = f
    none n reason.Unexpected f = b n f
    none n reason.Duplicate f = d n f
    none n reason.UnknownName f = u n f
    none n reason.Cycle f = c n f
    none n reason.Unsupported f = f
    none n reason.TooDeep f = f
    none n reason.Memory f = f

-- ---- what was found of each reason

some_one : (u c rest : Option ℕ) (p : ℕ) → IsLesser u c rest → rest ≡ Some p → (u ≡ Some p) ⊎ (c ≡ Some p)
some_one u c None p h e = absurd (none_number p e)
some_one u c (Some q) p h e = subst (λ (x : ℕ). (u ≡ Some x) ⊎ (c ≡ Some x)) (some_number q p e) h.2

pub cycle_of : (ms : List Mention) (es : Edges) (c : Option ℕ) → es ≡ edges ms → IsFirstOnCycle es c → IsLeast (λ n. ReachesItself (edges ms) n) c
cycle_of ms es None e h = λ n r. h n (subst (λ (x : Edges). ReachesItself x n) (sym e) r)
cycle_of ms es (Some p) e h = (subst (λ (x : Edges). ReachesItself x p) e h.0, λ k lt r. h.1 k lt (subst (λ (x : Edges). ReachesItself x k) (sym e) r))

pub borrow_found : (ms : List Mention) (b d u c : Option ℕ) (p : ℕ) → b ≡ Some p → Firsts ms b d u c → IsFirst ms (Some (p, reason.Unexpected))
borrow_found ms b d u c p e f = record {
  is = borrow_first ms p (subst (λ (o : Option ℕ). IsLeast (λ n. IsAt ms n (LeadsToBorrow ms)) o) e f.borrow);
}

no_borrow : (ms : List Mention) (b d u c : Option ℕ) → b ≡ None → Firsts ms b d u c → IsLeast (λ n. IsAt ms n (LeadsToBorrow ms)) None
no_borrow ms b d u c e f = subst (λ (o : Option ℕ). IsLeast (λ n. IsAt ms n (LeadsToBorrow ms)) o) e f.borrow

pub none_found : (ms : List Mention) (b d u c rest first : Option ℕ) → b ≡ None → IsLesser u c rest → IsLesser d rest first → first ≡ None → Firsts ms b d u c → IsFirst ms None
none_found ms b d u c rest first nb later least e f =
    let both = subst (λ (o : Option ℕ). IsLesser d rest o) e least in
    let others = subst (λ (o : Option ℕ). IsLesser u c o) both.1 later in
    record {
      is = no_fault ms (no_borrow ms b d u c nb f)
          (subst (λ (o : Option ℕ). IsLeast (λ n. IsAt ms n (IsTaken (take n ms))) o) both.0 f.duplicate)
          (subst (λ (o : Option ℕ). IsLeast (λ n. IsAt ms n (λ m. IsUnknown ms m.refers)) o) others.0 f.unknown)
          (subst (λ (o : Option ℕ). IsLeast (λ n. ReachesItself (edges ms) n) o) others.1 f.cycle);
    }

-- a place is behind none of the three
pub record Leads (d u c : Option ℕ) (p : ℕ) : Type 0 where
  pub duplicate : NotBehind p d
  pub unknown : NotBehind p u
  pub cycle : NotBehind p c
  pub one : (d ≡ Some p) ⊎ ((u ≡ Some p) ⊎ (c ≡ Some p))

leads : (d u c rest first : Option ℕ) (p : ℕ) → IsLesser u c rest → IsLesser d rest first → first ≡ Some p → Leads d u c p
leads d u c rest first p later least e =
    let both = subst (λ (o : Option ℕ). IsLesser d rest o) e least in
    let others = lesser_behind u c rest p later both.1 in
    record {
      duplicate = both.0;
      unknown = others.0;
      cycle = others.1;
      one = elim both.2 [ inl q ↦ inl q | inr q ↦ inr (some_one u c rest p later q) ];
    }

pub duplicate_found : (ms : List Mention) (b d u c rest first : Option ℕ) (p : ℕ) → b ≡ None → IsLesser u c rest → IsLesser d rest first → first ≡ Some p → d ≡ Some p → Firsts ms b d u c → IsFirst ms (Some (p, reason.Duplicate))
duplicate_found ms b d u c rest first p nb later least e q f =
    let l = leads d u c rest first p later least e in
    record {
      is = duplicate_first ms p (no_borrow ms b d u c nb f)
          (least_below (λ (n : ℕ). IsAt ms n (IsTaken (take n ms))) d p f.duplicate l.duplicate)
          (least_below (λ (n : ℕ). IsAt ms n (λ m. IsUnknown ms m.refers)) u p f.unknown l.unknown)
          (least_below (λ (n : ℕ). ReachesItself (edges ms) n) c p f.cycle l.cycle)
          (least_at (λ (n : ℕ). IsAt ms n (IsTaken (take n ms))) d p f.duplicate q);
    }

pub unknown_found : (ms : List Mention) (b d u c rest first : Option ℕ) (p : ℕ) → b ≡ None → IsLesser u c rest → IsLesser d rest first → first ≡ Some p → (d ≡ Some p → ⊥) → u ≡ Some p → Firsts ms b d u c → IsFirst ms (Some (p, reason.UnknownName))
unknown_found ms b d u c rest first p nb later least e isnt q f =
    let l = leads d u c rest first p later least e in
    record {
      is = unknown_first ms p (no_borrow ms b d u c nb f)
          (least_below (λ (n : ℕ). IsAt ms n (IsTaken (take n ms))) d (p + 1) f.duplicate (other_behind d p l.duplicate isnt))
          (least_below (λ (n : ℕ). IsAt ms n (λ m. IsUnknown ms m.refers)) u p f.unknown l.unknown)
          (least_below (λ (n : ℕ). ReachesItself (edges ms) n) c p f.cycle l.cycle)
          (least_at (λ (n : ℕ). IsAt ms n (λ m. IsUnknown ms m.refers)) u p f.unknown q);
    }

third : (d u c : Option ℕ) (p : ℕ) → Leads d u c p → (d ≡ Some p → ⊥) → (u ≡ Some p → ⊥) → c ≡ Some p
third d u c p l isnt not_unknown = elim l.one [
  | inl q ↦ absurd (isnt q)
  | inr r ↦ elim r [ inl q ↦ absurd (not_unknown q) | inr q ↦ q ]
]

pub cycle_found : (ms : List Mention) (b d u c rest first : Option ℕ) (p : ℕ) → b ≡ None → IsLesser u c rest → IsLesser d rest first → first ≡ Some p → (d ≡ Some p → ⊥) → (u ≡ Some p → ⊥) → Firsts ms b d u c → IsFirst ms (Some (p, reason.Cycle))
cycle_found ms b d u c rest first p nb later least e isnt not_unknown f =
    let l = leads d u c rest first p later least e in
    record {
      is = cycle_first ms p (no_borrow ms b d u c nb f)
          (least_below (λ (n : ℕ). IsAt ms n (IsTaken (take n ms))) d (p + 1) f.duplicate (other_behind d p l.duplicate isnt))
          (least_below (λ (n : ℕ). IsAt ms n (λ m. IsUnknown ms m.refers)) u (p + 1) f.unknown (other_behind u p l.unknown not_unknown))
          (least_below (λ (n : ℕ). ReachesItself (edges ms) n) c p f.cycle l.cycle)
          (least_at (λ (n : ℕ). ReachesItself (edges ms) n) c p f.cycle (third d u c p l isnt not_unknown));
    }

pub ruleset fault_laws = (borrow_found, none_found, duplicate_found, unknown_found, cycle_found)
