-- Resources in ranges, and the range of a number.
use Rattle.std.proofs.Common.{◌≡◌, ◌∙◌, ◌⊎◌, inl, inr, map, ℕ, zero, suc, ◌+◌, ◌-◌, ◌<◌, ◌≤◌, Bool, true, false, List, [], ◌∷◌, ◌++◌, length, get_or, Option, Some, None, refl, sym, ap, arith, slice_get, length-append, append_assoc}
use Rattle.std.proofs.lemmas.Bool.{cases_lt, le-leb, lt-leb}
use Rattle.std.specs.List.{AllWithin}
use Rattle.std.specs.List.Sorted.{IsNonDecreasingBy}
use Rattle.std.specs.Option.{option_or, option_and_then}
use Rattle.std.specs.Prelude.{nat_le, if◌then◌else◌}
use Rattle.std.proofs.lemmas.Option.{slice_get_past}
use Rattle.cm_validate_model.specs.Definitions.{ResourceDef}
use Rattle.cm_validate_items.specs.declared.ranges.Range.{Range}
use Rattle.cm_validate_items.specs.Ranges.{begun, source_defs, range_defs, starts_from}
use Rattle.cm_lemmas.proofs.Lists.{both_cons, get_left}

-- ---- the range that begins last at or before a number

-- the one in front of a place
abbrev pub before : List Range → ℕ → Option Range
before xs zero = None
before xs (suc k) = slice_get xs k

there : (xs : List Range) (k : ℕ) → k < length xs → (x : Range) × (slice_get xs k ≡ Some x)
there [] k h = absurd (omega (arith, h))
there (x ∷ xs) zero h = (x, refl)
there (x ∷ xs) (suc k) h = there xs k (omega (arith, h))

pub begun_at : (xs : List Range) (n i : ℕ) → i ≤ length xs
    → AllWithin (λ r. nat_le r.first n ≡ true) xs 0 i → AllWithin (λ r. nat_le r.first n ≡ false) xs i (length xs)
    → begun xs n ≡ before xs i
begun_at [] n zero le held failed = refl
begun_at [] n (suc i) le held failed = absurd (omega (arith, le))
begun_at (r ∷ rs) n zero le held failed =
    let rest : begun rs n ≡ None = begun_at rs n zero (omega arith) (λ k d a b. absurd (omega (arith, b))) (λ k d a b. failed (suc k) d (omega arith) (omega (arith, b))) in
    let fails : nat_le r.first n ≡ false = failed 0 r (omega arith) (omega arith) in
    rw (rest, fails) refl
begun_at (r ∷ rs) n (suc zero) le held failed =
    let rest : begun rs n ≡ None = begun_at rs n zero (omega arith) (λ k d a b. absurd (omega (arith, b))) (λ k d a b. failed (suc k) d (omega (arith, a)) (omega (arith, b))) in
    let holds : nat_le r.first n ≡ true = held 0 r (omega arith) (omega arith) in
    rw (rest, holds) refl
begun_at (r ∷ rs) n (suc (suc j)) le held failed =
    let rest : begun rs n ≡ slice_get rs j = begun_at rs n (suc j) (omega (arith, le)) (λ k d a b. held (suc k) d (omega arith) (omega (arith, b))) (λ k d a b. failed (suc k) d (omega (arith, a)) (omega (arith, b))) in
    let x = there rs j (omega (arith, le)) in
    ap (λ o. option_or o (if nat_le r.first n then Some r else None)) (rest ∙ x.1) ∙ sym x.1

-- ---- ranges follow one another

-- from one number on to another
abbrev pub FollowFrom : ℕ → List Range → ℕ → Type 0
FollowFrom next [] end = next ≡ end
FollowFrom next (r ∷ rs) end = (r.first ≡ next) × FollowFrom (next + length (source_defs r.source)) rs end

heads : (x y : ℕ) (xs ys : List ℕ) → x ∷ xs ≡ y ∷ ys → x ≡ y
heads x y xs ys e = cc

tails : (x y : ℕ) (xs ys : List ℕ) → x ∷ xs ≡ y ∷ ys → xs ≡ ys
tails x y xs ys e = cc

pub follows : (rs : List Range) (next end : ℕ) → map (λ (r : Range). r.first) rs ≡ starts_from next rs → end ≡ next + length (range_defs rs) → FollowFrom next rs end
follows [] next end e f = omega (arith, f)
follows (r ∷ rs) next end e f =
    let more = length-append (source_defs r.source) (range_defs rs) in (
      heads r.first next (map (λ (x : Range). x.first) rs) (starts_from (next + length (source_defs r.source)) rs) e,
      follows rs (next + length (source_defs r.source)) end (tails r.first next (map (λ (x : Range). x.first) rs) (starts_from (next + length (source_defs r.source)) rs) e) (omega (arith, more, f)),
    )

pub starts : (rs : List Range) (next end : ℕ) → FollowFrom next rs end → map (λ (r : Range). r.first) rs ≡ starts_from next rs
starts [] next end f = refl
starts (r ∷ rs) next end f = both_cons r.first next (map (λ (x : Range). x.first) rs) (starts_from (next + length (source_defs r.source)) rs) f.0 (starts rs (next + length (source_defs r.source)) end f.1)

first_from : (rs : List Range) (next end : ℕ) → FollowFrom next rs end → (i : ℕ) (d : Range) → i < length rs → next ≤ (get_or rs i d).first
first_from [] next end f i d lt = absurd (omega (arith, lt))
first_from (r ∷ rs) next end f zero d lt = omega (arith, f.0)
first_from (r ∷ rs) next end f (suc i) d lt = let rest = first_from rs (next + length (source_defs r.source)) end f.1 i d (omega (arith, lt)) in omega (arith, rest)

pub follow_sorted : (rs : List Range) (next end : ℕ) → FollowFrom next rs end → IsNonDecreasingBy (λ (r : Range). r.first) rs
follow_sorted [] next end f i j d le lt = absurd (omega (arith, lt))
follow_sorted (r ∷ rs) next end f zero zero d le lt = omega arith
follow_sorted (r ∷ rs) next end f zero (suc j) d le lt = let rest = first_from rs (next + length (source_defs r.source)) end f.1 j d (omega (arith, lt)) in omega (arith, rest, f.0)
follow_sorted (r ∷ rs) next end f (suc i) zero d le lt = absurd (omega (arith, le))
follow_sorted (r ∷ rs) next end f (suc i) (suc j) d le lt = follow_sorted rs (next + length (source_defs r.source)) end f.1 i j d (omega (arith, le)) (omega (arith, lt))

pub counted : (rs : List Range) (next end : ℕ) → FollowFrom next rs end → end ≡ next + length (range_defs rs)
counted [] next end f = omega (arith, f)
counted (r ∷ rs) next end f =
    let rest = counted rs (next + length (source_defs r.source)) end f.1 in
    let both = length-append (source_defs r.source) (range_defs rs) in
    omega (arith, rest, both)

pub one_more : (rs : List Range) (next end : ℕ) (r : Range) (after : ℕ) → FollowFrom next rs end → r.first ≡ end → after ≡ end + length (source_defs r.source) → FollowFrom next (rs ++ r ∷ []) after
one_more [] next end r after f e g = (omega (arith, e, f), omega (arith, g, f))
one_more (x ∷ xs) next end r after f e g = (f.0, one_more xs (next + length (source_defs x.source)) end r after f.1 e g)

pub defs_more : (rs : List Range) (r : Range) → range_defs (rs ++ r ∷ []) ≡ range_defs rs ++ source_defs r.source
defs_more [] r = append_nil (source_defs r.source)
  where
    append_nil : (ys : List ResourceDef) → ys ++ [] ≡ ys
    append_nil [] = refl
    append_nil (y ∷ ys) = ap (λ zs. y ∷ zs) (append_nil ys)
defs_more (x ∷ xs) r = ap (λ ys. source_defs x.source ++ ys) (defs_more xs r) ∙ sym (append_assoc (source_defs x.source) (range_defs xs) (source_defs r.source))

-- ---- a number in them

pub get_right : {A : Type 0} (xs ys : List A) (n k : ℕ) → n ≡ length xs + k → slice_get (xs ++ ys) n ≡ slice_get ys k
get_right [] ys n k e = let same : n ≡ k = omega (arith, e) in ap (slice_get ys) same
get_right (x ∷ xs) ys zero k e = absurd (omega (arith, e))
get_right (x ∷ xs) ys (suc n) k e = get_right xs ys n k (omega (arith, e))

none_begun : (rs : List Range) (next end n : ℕ) → FollowFrom next rs end → n < next → begun rs n ≡ None
none_begun [] next end n f lt = refl
none_begun (r ∷ rs) next end n f lt =
    let rest : begun rs n ≡ None = none_begun rs (next + length (source_defs r.source)) end n f.1 (omega arith) in
    let fails : nat_le r.first n ≡ false = lt-leb r.first n (omega (arith, f.0)) in
    rw (rest, fails) refl

some_begun : (rs : List Range) (next end n : ℕ) → FollowFrom next rs end → next ≤ n → (rs ≡ []) ⊎ ((r : Range) × (begun rs n ≡ Some r))
some_begun [] next end n f le = inl refl
some_begun (r ∷ rs) next end n f le = inr (here (begun rs n) refl)
  where
    here : (o : Option Range) → begun rs n ≡ o → (x : Range) × (option_or (begun rs n) (if nat_le r.first n then Some r else None) ≡ Some x)
    here None e = let holds : nat_le r.first n ≡ true = le-leb r.first n (omega (arith, f.0)) in (r, rw (e, holds) refl)
    here (Some x) e = (x, rw e refl)

-- the resource of a number, in the range that begins last at or before it
abbrev pub in_range : ℕ → Range → Option ResourceDef
in_range n r = slice_get (source_defs r.source) (n - r.first)

pub found_in : (rs : List Range) (next end n : ℕ) → FollowFrom next rs end → next ≤ n → slice_get (range_defs rs) (n - next) ≡ option_and_then (in_range n) (begun rs n)
found_in [] next end n f le = refl
found_in (r ∷ rs) next end n f le = elim (cases_lt n (next + length (source_defs r.source))) [
  | inl lt ↦
      let none : begun rs n ≡ None = none_begun rs (next + length (source_defs r.source)) end n f.1 lt in
      let holds : nat_le r.first n ≡ true = le-leb r.first n (omega (arith, f.0)) in
      let same : n - next ≡ n - r.first = omega (arith, f.0) in
      get_left (source_defs r.source) (range_defs rs) (n - next) (omega arith)
      ∙ ap (slice_get (source_defs r.source)) same
      ∙ sym (rw (none, holds) refl)
  | inr past ↦
      let rest : slice_get (range_defs rs) (n - (next + length (source_defs r.source))) ≡ option_and_then (in_range n) (begun rs n) = found_in rs (next + length (source_defs r.source)) end n f.1 past in
      get_right (source_defs r.source) (range_defs rs) (n - next) (n - (next + length (source_defs r.source))) (omega arith)
      ∙ later rest past (some_begun rs (next + length (source_defs r.source)) end n f.1 past)
]
  where
    later : slice_get (range_defs rs) (n - (next + length (source_defs r.source))) ≡ option_and_then (in_range n) (begun rs n) → next + length (source_defs r.source) ≤ n
        → (rs ≡ []) ⊎ ((x : Range) × (begun rs n ≡ Some x))
        → slice_get (range_defs rs) (n - (next + length (source_defs r.source))) ≡ option_and_then (in_range n) (option_or (begun rs n) (if nat_le r.first n then Some r else None))
    later rest past (inl none) =
        let holds : nat_le r.first n ≡ true = le-leb r.first n (omega (arith, f.0)) in
        let gone : in_range n r ≡ None = slice_get_past (source_defs r.source) (n - r.first) (omega (arith, f.0)) in
        rw (none, holds) (sym gone)
    later rest past (inr some) = rest ∙ ap (option_and_then (in_range n)) some.1 ∙ sym (ap (λ o. option_and_then (in_range n) (option_or o (if nat_le r.first n then Some r else None))) some.1)

pub got : (rs : List Range) (end n : ℕ) (o : Option Range) → FollowFrom 0 rs end → begun rs n ≡ o → slice_get (range_defs rs) n ≡ option_and_then (in_range n) o
got rs end n o f e =
    let zero_off : n ≡ n - 0 = omega arith in
    ap (slice_get (range_defs rs)) zero_off ∙ found_in rs 0 end n f (omega arith) ∙ ap (option_and_then (in_range n)) e

pub begun_before : (rs : List Range) (n : ℕ) (r : Range) → begun rs n ≡ Some r → nat_le r.first n ≡ true
begun_before [] n r e = absurd cc
begun_before (x ∷ xs) n r e = here (begun xs n) (nat_le x.first n) refl refl (begun_before xs n r) e
  where
    some_is : (a b : Range) → Some a ≡ Some b → a ≡ b
    some_is a b f = cc

    here : (o : Option Range) (b : Bool) → begun xs n ≡ o → nat_le x.first n ≡ b → (begun xs n ≡ Some r → nat_le r.first n ≡ true) → option_or o (if b then Some x else None) ≡ Some r → nat_le r.first n ≡ true
    here (Some y) b f g rest h = rest (f ∙ h)
    here None true f g rest h = ap (λ (v : Range). nat_le v.first n) (sym (some_is x r h)) ∙ g
    here None false f g rest h = absurd cc
