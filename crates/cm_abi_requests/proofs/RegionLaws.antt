-- Regions in the order of their addresses.
use Rattle.std.proofs.Common.{◌≡◌, ℕ, zero, suc, ◌+◌, ◌<◌, ◌≤◌, Bool, true, List, [], ◌∷◌, length, drop, arith, refl, sym, get_or, add-one, drop-cons, inl, inr, ◌⊎◌, ◌&&◌, leb, ltb}
use Rattle.std.specs.Prelude.{if◌then◌else◌}
use Rattle.std.specs.List.{sum_by}
use Rattle.std.specs.List.Sorted.{IsNonDecreasingBy, IsPermutation}
use Rattle.std.proofs.lemmas.Bool.{and_parts, and_from, cases_Bool, le-leb, leb-true, lt-ltb, ltb-true}
use Rattle.std.proofs.lemmas.List.Sorted.{sum_by-IsPermutation}
use Rattle.std.proofs.lemmas.List.Sums.{sum_by-cons}
use Rattle.cm_abi_model.specs.Regions.{IsIn}
use Rattle.cm_abi_model.specs.Overlap.{AreDisjoint, IsInOne}
use Rattle.cm_abi_model.specs.declared.region.Region.{Region}

-- ---- in whatever order

-- how often an address is in a region
abbrev is_in : ℕ → Region → Bool
is_in a r = leb r.at a && ltb a (r.at + r.size)

abbrev held : ℕ → Region → ℕ
held a r = if is_in a r then 1 else 0

is_in_from : (a : ℕ) (r : Region) → IsIn r.at r.size a → held a r ≡ 1
is_in_from a r h =
    let there : is_in a r ≡ true = and_from (leb r.at a) (ltb a (r.at + r.size)) (le-leb r.at a h.0) (lt-ltb a (r.at + r.size) h.1) in
    rw there refl

is_in_to : (a : ℕ) (r : Region) → 0 < held a r → IsIn r.at r.size a
is_in_to a r h =
    elim (cases_Bool (is_in a r)) [
      | inl is ↦ let both = and_parts (leb r.at a) (ltb a (r.at + r.size)) is in (leb-true r.at a both.0, ltb-true a (r.at + r.size) both.1)
      | inr other ↦ absurd (let none : held a r ≡ 0 = rw other refl in omega (arith, none))
    ]

one_from : (a : ℕ) (rs : List Region) → IsInOne rs a → 0 < sum_by (held a) rs
one_from a [] h = absurd h
one_from a (r ∷ rs) h =
    elim h [
      | inl here ↦ omega (arith, is_in_from a r here, sum_by-cons (held a) r rs)
      | inr later ↦ omega (arith, one_from a rs later, sum_by-cons (held a) r rs)
    ]

one_to : (a : ℕ) (rs : List Region) → 0 < sum_by (held a) rs → IsInOne rs a
one_to a [] h = absurd (omega arith)
one_to a (r ∷ rs) h =
    elim (cases_Bool (is_in a r)) [
      | inl is ↦ inl (is_in_to a r (rw is (omega arith)))
      | inr other ↦ inr (one_to a rs (let none : held a r ≡ 0 = rw other refl in omega (arith, none, sum_by-cons (held a) r rs)))
    ]

disjoint_to : (rs : List Region) → AreDisjoint rs → (a : ℕ) → sum_by (held a) rs ≤ 1
disjoint_to [] h a = omega arith
disjoint_to (r ∷ rs) h a =
    let rest = disjoint_to rs h.1 a in
    let all = sum_by-cons (held a) r rs in
    elim (cases_Bool (is_in a r)) [
      | inl is ↦
          let one : held a r ≡ 1 = rw is refl in
          let none : (0 < sum_by (held a) rs) → ⊥ = λ some. h.0 a (is_in_to a r (rw is (omega arith))) (one_to a rs some) in
          omega (arith, one, none, all)
      | inr other ↦ let none : held a r ≡ 0 = rw other refl in omega (arith, none, rest, all)
    ]

disjoint_from : (rs : List Region) → ((a : ℕ) → sum_by (held a) rs ≤ 1) → AreDisjoint rs
disjoint_from [] h = tt
disjoint_from (r ∷ rs) h = (
  (λ a here later.
      let one = is_in_from a r here in
      let more = one_from a rs later in
      let most = h a in
      let all = sum_by-cons (held a) r rs in
      absurd (omega (arith, one, more, most, all))),
  disjoint_from rs (λ a. let most = h a in let all = sum_by-cons (held a) r rs in omega (arith, most, all)),
)

-- regions are disjoint in any order
pub disjoint_moved : (rs qs : List Region) → IsPermutation rs qs → AreDisjoint qs → AreDisjoint rs
disjoint_moved rs qs p h = disjoint_from rs (λ a. let most = disjoint_to qs h a in let same = sum_by-IsPermutation (held a) rs qs p in omega (arith, most, same))

pub disjoint_back : (rs qs : List Region) → IsPermutation rs qs → AreDisjoint rs → AreDisjoint qs
disjoint_back rs qs p h = disjoint_from qs (λ a. let most = disjoint_to rs h a in let same = sum_by-IsPermutation (held a) rs qs p in omega (arith, most, same))

-- ---- in the order of their addresses

-- no region begins below this end, but empty ones
abbrev pub AreAbove : ℕ → List Region → Type 0
AreAbove end [] = Unit {0}
AreAbove end (r ∷ rs) = ((0 < r.size) → end ≤ r.at) × AreAbove end rs

above_less : (low high : ℕ) (rs : List Region) → low ≤ high → AreAbove high rs → AreAbove low rs
above_less low high [] le h = tt
above_less low high (r ∷ rs) le h = ((λ some. let at = h.0 some in omega (arith, at, le)), above_less low high rs le h.1)

none_below : (end : ℕ) (rs : List Region) (a : ℕ) → AreAbove end rs → IsInOne rs a → end ≤ a
none_below end [] a h is = absurd is
none_below end (r ∷ rs) a h is =
    elim is [
      | inl here ↦ let low = h.0 (omega (arith, here.0, here.1)) in omega (arith, low, here.0)
      | inr later ↦ none_below end rs a h.1 later
    ]

pub above_none : (rs : List Region) → AreAbove 0 rs
above_none [] = tt
above_none (r ∷ rs) = ((λ some. omega arith), above_none rs)

-- a region in front that begins at the end or behind it
pub one_more : (end : ℕ) (r : Region) (rs : List Region) → end ≤ r.at → AreAbove (r.at + r.size) rs × AreDisjoint rs → AreAbove end (r ∷ rs) × AreDisjoint (r ∷ rs)
one_more end r rs le h = (
  ((λ some. le), above_less end (r.at + r.size) rs (omega arith) h.0),
  ((λ a here later. let low = none_below (r.at + r.size) rs a h.0 later in absurd (omega (arith, low, here.1))), h.1),
)

-- an empty one in front
pub one_empty : (end : ℕ) (r : Region) (rs : List Region) → r.size ≡ 0 → AreAbove end rs × AreDisjoint rs → AreAbove end (r ∷ rs) × AreDisjoint (r ∷ rs)
one_empty end r rs none h =
    (((λ some. absurd (omega (arith, some, none))), h.0), ((λ a here later. absurd (omega (arith, here.0, here.1, none))), h.1))

pub next_region : (rs : List Region) (i : ℕ) (d : Region) → i < length rs → drop i rs ≡ get_or rs i d ∷ drop (i + 1) rs
next_region rs i d lt = rw (add-one, drop-cons rs i d lt) refl

-- what stands there is the same whatever would stand past the end
get_or_any : (rs : List Region) (i : ℕ) (d e : Region) → i < length rs → get_or rs i d ≡ get_or rs i e
get_or_any [] i d e lt = absurd (omega arith)
get_or_any (r ∷ rs) zero d e lt = refl
get_or_any (r ∷ rs) (suc i) d e lt = get_or_any rs i d e (omega arith)

-- an address in two of them
in_one : (rs : List Region) (i a : ℕ) (d : Region) → i < length rs → IsIn (get_or rs i d).at (get_or rs i d).size a → IsInOne rs a
in_one [] i a d lt here = absurd (omega arith)
in_one (r ∷ rs) zero a d lt here = inl here
in_one (r ∷ rs) (suc i) a d lt here = inr (in_one rs i a d (omega arith) here)

pub in_two : (rs : List Region) (j i a : ℕ) (d : Region) → j < i → i < length rs → IsIn (get_or rs j d).at (get_or rs j d).size a → IsIn (get_or rs i d).at (get_or rs i d).size a → AreDisjoint rs → ⊥
in_two [] j i a d lt within first second h = absurd (omega arith)
in_two (r ∷ rs) j zero a d lt within first second h = absurd (omega arith)
in_two (r ∷ rs) zero (suc i) a d lt within first second h = h.0 a first (in_one rs i a d (omega arith) second)
in_two (r ∷ rs) (suc j) (suc i) a d lt within first second h = in_two rs j i a d (omega arith) (omega arith) first second h.1

-- some region before this one ends at the end
abbrev pub EndsBefore : ℕ → ℕ → List Region → Type 0
EndsBefore end i rs = (end ≡ 0) ⊎ ((j : ℕ) × (j < i) × ((d : Region) → (get_or rs j d).at + (get_or rs j d).size ≡ end))

-- one that begins below that end meets it
pub meets : (rs : List Region) (end i : ℕ) (d : Region) → IsNonDecreasingBy (λ (r : Region). r.at) rs → EndsBefore end i rs → i < length rs → 0 < (get_or rs i d).size → (get_or rs i d).at < end → AreDisjoint rs → ⊥
meets rs end i d up before lt some low h =
    elim before [
      | inl none ↦ omega (arith, none, low)
      | inr one ↦
          let first = up one.0 i d (omega (arith, one.1)) lt in
          let ends = one.2 d in
          in_two rs one.0 i (get_or rs i d).at d one.1 lt (omega (arith, first), omega (arith, ends, low)) (omega arith, omega (arith, some)) h
    ]

pub ends_later : (rs : List Region) (end i : ℕ) → EndsBefore end i rs → EndsBefore end (i + 1) rs
ends_later rs end i before =
    elim before [
      | inl none ↦ inl none
      | inr one ↦ inr (one.0, omega (arith, one.1), one.2)
    ]

-- ---- one region after another

-- where what is left is disjoint and above the end, all are disjoint; some region ends at the end
abbrev pub SoFar : List Region → ℕ → ℕ → Type 0
SoFar rs end i = (AreAbove end (drop i rs) × AreDisjoint (drop i rs) → AreDisjoint rs) × EndsBefore end i rs

pub past_one : (rs : List Region) (end behind i : ℕ) (d : Region) → i < length rs → end ≤ (get_or rs i d).at
    → behind ≡ (get_or rs i d).at + (get_or rs i d).size → SoFar rs end i → SoFar rs behind (i + 1)
past_one rs end behind i d lt low is so =
    let next = next_region rs i d lt in (
      (λ rest. so.0 (rw next (one_more end (get_or rs i d) (drop (i + 1) rs) low (rw is at rest)))),
      inr (i, omega arith, (λ e. rw (get_or_any rs i e d lt) (sym is))),
    )

pub past_empty : (rs : List Region) (end behind i : ℕ) (d : Region) → i < length rs → (get_or rs i d).size ≤ 0
    → behind ≡ end → SoFar rs end i → SoFar rs behind (i + 1)
past_empty rs end behind i d lt none is so =
    let next = next_region rs i d lt in
    let same : (get_or rs i d).size ≡ 0 = omega (arith, none) in
    rw is ((λ rest. so.0 (rw next (one_empty end (get_or rs i d) (drop (i + 1) rs) same rest))), ends_later rs end i so.1)
