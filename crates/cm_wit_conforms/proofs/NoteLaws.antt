-- Pairs that are noted in any order: each resource has the least number of those that meet it.
use Rattle.std.proofs.Common.{◌≡◌, nat_le, ℕ, suc, ◌+◌, ◌-◌, ◌<◌, ◌≤◌, Bool, true, false, if◌then◌else◌, List, [], ◌∷◌, ◌++◌, ◌⊎◌, length, inl, inr, Option, Some, None, refl, sym, ap, ◌∙◌, arith}
use Rattle.std.specs.List.{position_from, slice_get}
use Rattle.std.proofs.lemmas.Bool.{cases_Bool}
use Rattle.std.proofs.lemmas.Bool.Decides.{nat_tests}
use Rattle.std.proofs.lemmas.Option.{slice_get_within}
use Rattle.cm_types.specs.declared.resource.ResourceId.{ResourceId}
use Rattle.cm_wit_conforms.specs.Known.{StandsIn}
use Rattle.cm_wit_conforms.specs.Comparisons.{Comparison, nothing, two_sorts, two_funcs, two_types, two_resources, Entry}
use Rattle.cm_wit_conforms.specs.Conformance.{have_pair, meets_have, meets_world, world_pair}
use Rattle.cm_wit_conforms.specs.Pairs.{HasPairs, HaveBoth, NoteBoth, Notes, lesser, pair_in}
use Rattle.cm_wit_conforms.specs.Walks.{is_found}
use Rattle.cm_wit_conforms.specs.declared.pairs.BothPairs.{BothPairs}
use Rattle.cm_wit_conforms.specs.declared.pairs.Pairs.{Pairs}
use Rattle.cm_wit_conforms.proofs.SearchLaws.{first_found, found_behind, found_still, get_back, none_found}
use Rattle.cm_lemmas.proofs.Lists.{get_front, get_left}

-- ---- the lesser of two

le_true : (a b : ℕ) → a ≤ b → (nat_le a b) ≡ true
le_true a b le = grind (arith, nat_tests)

pub lesser_kept : (o : Option ℕ) (b : Bool) (n m : ℕ) → o ≡ Some n → n ≤ m → lesser o (if b then Some m else None) ≡ Some n
lesser_kept None b n m e le = absurd cc
lesser_kept (Some a) false n m e le = e
lesser_kept (Some a) true n m e le =
    let same : a ≡ n = (let f : Some a ≡ Some n → a ≡ n = λ e. cc in f e) in
    ap (λ (t : Bool). let o : Option ℕ = Some (if t then a else m) in o) (le_true a m (omega (arith, le, same))) ∙ e

-- the lesser is one of the two
lesser_of : (o : Option ℕ) (b : Bool) (m n : ℕ) → lesser o (if b then Some m else None) ≡ Some n → (o ≡ Some n) ⊎ ((b ≡ true) × (n ≡ m))
lesser_of None true m n e = inr (refl, (let f : Some m ≡ Some n → n ≡ m = λ e. cc in f e))
lesser_of None false m n e = absurd cc
lesser_of (Some a) false m n e = inl e
lesser_of (Some a) true m n e = elim (cases_Bool (nat_le a m)) [
  | inl y ↦ inl (sym (ap (λ (t : Bool). let o : Option ℕ = Some (if t then a else m) in o) y) ∙ e)
  | inr fails ↦ inr (refl, (let f : Some m ≡ Some n → n ≡ m = λ e. cc in f (sym (ap (λ (t : Bool). let o : Option ℕ = Some (if t then a else m) in o) fails) ∙ e)))
]

-- and at most each of them
lesser_low : (o : Option ℕ) (b : Bool) (m n : ℕ) → o ≡ Some n → (k : ℕ) × (lesser o (if b then Some m else None) ≡ Some k) × (k ≤ n)
lesser_low None b m n e = absurd cc
lesser_low (Some a) false m n e = (a, refl, (let f : Some a ≡ Some n → a ≡ n = λ e. cc in let is : a ≡ n = f e in omega (arith, is)))
lesser_low (Some a) true m n e =
    let is : a ≡ n = (let f : Some a ≡ Some n → a ≡ n = λ e. cc in f e) in
    elim (cases_Bool (nat_le a m)) [
      | inl y ↦ (a, ap (λ (t : Bool). let o : Option ℕ = Some (if t then a else m) in o) y, omega (arith, is))
      | inr fails ↦ (m, ap (λ (t : Bool). let o : Option ℕ = Some (if t then a else m) in o) fails, (let gt : m < a = grind (arith, nat_tests, fails) in omega (arith, is, gt)))
    ]

lesser_here : (o : Option ℕ) (b : Bool) (m : ℕ) → b ≡ true → (k : ℕ) × (lesser o (if b then Some m else None) ≡ Some k) × (k ≤ m)
lesser_here None true m e = (m, refl, omega arith)
lesser_here (Some a) true m e = elim (cases_Bool (nat_le a m)) [
  | inl y ↦ (a, ap (λ (t : Bool). let o : Option ℕ = Some (if t then a else m) in o) y, (let le : a ≤ m = grind (arith, nat_tests, y) in le))
  | inr fails ↦ (m, ap (λ (t : Bool). let o : Option ℕ = Some (if t then a else m) in o) fails, omega arith)
]
lesser_here o false m e = absurd cc

-- ---- one more behind all

pub lesser_one : {E : Type 0} (t : E → Bool) (xs : List E) (x : E) → position_from t 0 (xs ++ x ∷ []) ≡ lesser (position_from t 0 xs) (if t x then Some (length xs) else None)
lesser_one {E} t xs x = by_found (position_from t 0 xs) refl
  where
    by_found : (o : Option ℕ) → position_from t 0 xs ≡ o → position_from t 0 (xs ++ x ∷ []) ≡ lesser (position_from t 0 xs) (if t x then Some (length xs) else None)
    by_found None is = found_behind t 0 xs (x ∷ []) is ∙ ap (λ (k : ℕ). let o : Option ℕ = if t x then Some k else None in o) (omega arith) ∙ sym (ap (λ (o : Option ℕ). lesser o (if t x then Some (length xs) else None)) is)
    by_found (Some n) is =
        let f = first_found t 0 xs n is in
        let lt : f.0 < length xs = slice_get_within xs f.0 f.2.entry f.2.here in
        found_still t 0 xs (x ∷ []) n is ∙ sym (lesser_kept (position_from t 0 xs) (t x) n (length xs) is (omega (arith, f.1, lt)))

-- ---- places in any order

module _ {E : Type 0} (meets : ResourceId → E → Bool) (es added : List E) (places : List ℕ) where
  -- Of the places as many were noted.
  pub record Noting (i : ℕ) (pairs : Pairs) : Type 0 where
    pub sound : (r : ResourceId) (n : ℕ) → pair_in pairs r ≡ Some n → (e : E) × (slice_get (es ++ added) n ≡ Some e) × (meets r e ≡ true)
    pub kept : (r : ResourceId) (n : ℕ) → position_from (meets r) 0 es ≡ Some n → pair_in pairs r ≡ Some n
    pub low : (r : ResourceId) (k p : ℕ) (e : E) → k < i → slice_get places k ≡ Some p → slice_get added p ≡ Some e → meets r e ≡ true → (m : ℕ) × (pair_in pairs r ≡ Some m) × (m ≤ length es + p)

  pub noting_start : (pairs : Pairs) → HasPairs (λ r. position_from (meets r) 0 es) pairs → Noting 0 pairs
  noting_start pairs has = record {
    sound = λ r n is.
        let f = first_found (meets r) 0 es n (sym (has r) ∙ is) in
        let at : f.0 ≡ n = omega (arith, f.1) in
        (f.2.entry, ap (slice_get (es ++ added)) (sym at) ∙ get_front es added f.0 f.2.entry f.2.here, f.2.passes);
    kept = λ r n is. has r ∙ is;
    low = λ r k p e lt at here met. absurd (omega (arith, lt));
  }

  before : (k i : ℕ) → k < i + 1 → (k < i) ⊎ (k ≡ i)
  before k i lt = elim (cases_Bool (nat_le k i)) [
    | inl y ↦ elim (cases_Bool (nat_le i k)) [
      | inl z ↦ (let a : k ≤ i = grind (arith, nat_tests, y) in let b : i ≤ k = grind (arith, nat_tests, z) in inr (omega (arith, a, b)))
      | inr z ↦ (let b : k < i = grind (arith, nat_tests, z) in inl b)
    ]
    | inr fails ↦ (let gt : i < k = grind (arith, nat_tests, fails) in absurd (omega (arith, lt, gt)))
  ]

  one_of : (p q : ℕ) → Some p ≡ Some q → p ≡ q
  one_of p q h = cc

  one_entry : (x y : E) → Some x ≡ Some y → x ≡ y
  one_entry x y h = cc

  -- a place behind all is passed over
  pub noting_none : (i p : ℕ) (pairs : Pairs) → slice_get places i ≡ Some p → slice_get added p ≡ None → Noting i pairs → Noting (i + 1) pairs
  noting_none i p pairs at none n = record {
    sound = n.sound;
    kept = n.kept;
    low = λ r k q e lt here is met. elim (before k i lt) [
      | inl less ↦ n.low r k q e less here is met
      | inr same ↦ absurd (none_some e (sym none ∙ ap (slice_get added) (one_place p q (sym at ∙ (ap (slice_get places) (sym same) ∙ here))) ∙ is))
    ];
  }
    where
      none_some : (e : E) → (let o : Option E = None in o) ≡ Some e → ⊥
      none_some e h = cc

      one_place : (p q : ℕ) → Some p ≡ Some q → p ≡ q
      one_place p q h = cc

  pub noting_one : (i p : ℕ) (x : E) (old new : Pairs) → slice_get places i ≡ Some p → slice_get added p ≡ Some x → Notes (λ r. meets r x) old new (length es + p) → Noting i old → Noting (i + 1) new
  noting_one i p x old new at here noted n = record {
    sound = λ r k is. elim (lesser_of (pair_in old r) (meets r x) (length es + p) k (sym (noted r) ∙ is)) [
      | inl was ↦ n.sound r k was
      | inr now ↦ (x, ap (slice_get (es ++ added)) now.1 ∙ (get_back es added p (length es + p) refl ∙ here), now.0)
    ];
    kept = λ r k is.
        let f = first_found (meets r) 0 es k is in
        let lt : f.0 < length es = slice_get_within es f.0 f.2.entry f.2.here in
        noted r ∙ lesser_kept (pair_in old r) (meets r x) k (length es + p) (n.kept r k is) (omega (arith, f.1, lt));
    low = λ r k q e lt there is met. elim (before k i lt) [
      | inl less ↦
          let l = n.low r k q e less there is met in
          let g = lesser_low (pair_in old r) (meets r x) (length es + p) l.0 l.1 in
          (g.0, noted r ∙ g.1, omega (arith, g.2, l.2))
      | inr same ↦
          let place : p ≡ q = one_of p q (sym at ∙ (ap (slice_get places) (sym same) ∙ there)) in
          let entry : e ≡ x = one_entry e x (sym is ∙ (ap (slice_get added) (sym place) ∙ here)) in
          let g = lesser_here (pair_in old r) (meets r x) (length es + p) (sym (ap (meets r) entry) ∙ met) in
          (g.0, noted r ∙ g.1, omega (arith, g.2, place))
    ];
  }

  -- All that meet a resource are among the places.
  pub noting_end : (i : ℕ) (pairs : Pairs) → length places ≤ i → ((r : ResourceId) (p : ℕ) (e : E) → slice_get added p ≡ Some e → meets r e ≡ true → StandsIn p places) → Noting i pairs → HasPairs (λ r. position_from (meets r) 0 (es ++ added)) pairs
  noting_end i pairs le cover n r = by_found (position_from (meets r) 0 (es ++ added)) refl
    where
      no_pair : (o : Option ℕ) → pair_in pairs r ≡ o → position_from (meets r) 0 (es ++ added) ≡ None → pair_in pairs r ≡ None
      no_pair None is none = is
      no_pair (Some k) is none =
          let s = n.sound r k is in
          absurd (none_found (meets r) 0 (es ++ added) none k s.0 s.1 s.2)

      -- what is found among the first stays
      early : (k : ℕ) → position_from (meets r) 0 (es ++ added) ≡ Some k → (o : Option ℕ) → position_from (meets r) 0 es ≡ o → (e : E) → slice_get es k ≡ Some e → meets r e ≡ true → pair_in pairs r ≡ Some k
      early k is None none e here met = absurd (none_found (meets r) 0 es none k e here met)
      early k is (Some j) found e here met =
          let same : Some j ≡ Some k = sym (found_still (meets r) 0 es added j found) ∙ is in
          n.kept r j found ∙ same

      late : (k p : ℕ) → position_from (meets r) 0 (es ++ added) ≡ Some k → k ≡ length es + p → (e : E) → slice_get added p ≡ Some e → meets r e ≡ true → pair_in pairs r ≡ Some k
      late k p is at e here met =
          let c = cover r p e here met in
          let lt : c.0 < i = (let in_places : c.0 < length places = slice_get_within places c.0 p c.1 in omega (arith, in_places, le)) in
          let l = n.low r c.0 p e lt c.1 here met in
          let s = n.sound r l.0 l.1 in
          let f = first_found (meets r) 0 (es ++ added) k is in
          let least : f.0 ≤ l.0 = f.2.least l.0 s.0 s.1 s.2 in
          let same : l.0 ≡ k = omega (arith, least, f.1, l.2, at) in
          l.1 ∙ ap (λ (m : ℕ). let o : Option ℕ = Some m in o) same

      by_place : (k : ℕ) → position_from (meets r) 0 (es ++ added) ≡ Some k → (b : Bool) → (nat_le (suc k) (length es)) ≡ b → pair_in pairs r ≡ Some k
      by_place k is true le =
          let f = first_found (meets r) 0 (es ++ added) k is in
          let lt : k < length es = grind (arith, nat_tests, le) in
          let at : f.0 ≡ k = omega (arith, f.1) in
          early k is (position_from (meets r) 0 es) refl f.2.entry (sym (get_left es added k lt) ∙ (ap (slice_get (es ++ added)) (sym at) ∙ f.2.here)) f.2.passes
      by_place k is false fails =
          let f = first_found (meets r) 0 (es ++ added) k is in
          let ge : length es ≤ k = grind (arith, nat_tests, fails) in
          let at : f.0 ≡ length es + (k - length es) = omega (arith, f.1, ge) in
          late k (k - length es) is (omega (arith, ge)) f.2.entry (sym (get_back es added (k - length es) (length es + (k - length es)) refl) ∙ (ap (slice_get (es ++ added)) (sym at) ∙ f.2.here)) f.2.passes

      by_found : (o : Option ℕ) → position_from (meets r) 0 (es ++ added) ≡ o → pair_in pairs r ≡ position_from (meets r) 0 (es ++ added)
      by_found None is = no_pair (pair_in pairs r) refl is ∙ sym is
      by_found (Some k) is = by_place k is (nat_le (suc k) (length es)) refl ∙ sym is

-- ---- both sides

pub both_one : (es : List Entry) (e : Entry) (old new : BothPairs) (count : ℕ) → HaveBoth es old → count ≡ length es → NoteBoth e.what old new count → HaveBoth (es ++ e ∷ []) new
both_one es e old new count has at noted = record {
  have = λ r.
      noted.have r
      ∙ (ap (λ (o : Option ℕ). lesser o (if meets_world r e.what then Some count else None)) (has.have r)
      ∙ (ap (λ (n : ℕ). lesser (have_pair es r) (if meets_world r e.what then Some n else None)) at
      ∙ sym (lesser_one (λ (x : Entry). meets_world r x.what) es e)));
  world = λ r.
      noted.world r
      ∙ (ap (λ (o : Option ℕ). lesser o (if meets_have r e.what then Some count else None)) (has.world r)
      ∙ (ap (λ (n : ℕ). lesser (world_pair es r) (if meets_have r e.what then Some n else None)) at
      ∙ sym (lesser_one (λ (x : Entry). meets_have r x.what) es e)));
}

pub record BothNoting (es added : List Entry) (places : List ℕ) (i : ℕ) (pairs : BothPairs) : Type 0 where
  pub have : Noting (λ r e. meets_world r e.what) es added places i pairs.have
  pub world : Noting (λ r e. meets_have r e.what) es added places i pairs.world

module _ (es added : List Entry) (places : List ℕ) where
  pub both_start : (pairs : BothPairs) → HaveBoth es pairs → BothNoting es added places 0 pairs
  both_start pairs has = record {
    have = noting_start (λ r e. meets_world r e.what) es added places pairs.have has.have;
    world = noting_start (λ r e. meets_have r e.what) es added places pairs.world has.world;
  }

  pub both_none : (i p : ℕ) (pairs : BothPairs) → slice_get places i ≡ Some p → slice_get added p ≡ None → BothNoting es added places i pairs → BothNoting es added places (i + 1) pairs
  both_none i p pairs at none n = record {
    have = noting_none (λ r e. meets_world r e.what) es added places i p pairs.have at none n.have;
    world = noting_none (λ r e. meets_have r e.what) es added places i p pairs.world at none n.world;
  }

  pub both_more : (i p : ℕ) (x : Entry) (old new : BothPairs) → slice_get places i ≡ Some p → slice_get added p ≡ Some x → NoteBoth x.what old new (length es + p) → BothNoting es added places i old → BothNoting es added places (i + 1) new
  both_more i p x old new at here noted n = record {
    have = noting_one (λ r e. meets_world r e.what) es added places i p x old.have new.have at here noted.have n.have;
    world = noting_one (λ r e. meets_have r e.what) es added places i p x old.world new.world at here noted.world n.world;
  }

  -- all that finds something is among the places
  pub both_end : (i : ℕ) (pairs : BothPairs) → length places ≤ i → ((p : ℕ) (e : Entry) → slice_get added p ≡ Some e → is_found e.what ≡ true → StandsIn p places) → BothNoting es added places i pairs → HaveBoth (es ++ added) pairs
  both_end i pairs le cover n = record {
    have = noting_end (λ r e. meets_world r e.what) es added places i pairs.have le (λ r p e here met. cover p e here (met_world r e.what met)) n.have;
    world = noting_end (λ r e. meets_have r e.what) es added places i pairs.world le (λ r p e here met. cover p e here (met_have r e.what met)) n.world;
  }
    where
      met_world : (r : ResourceId) (what : Comparison) → meets_world r what ≡ true → is_found what ≡ true
      met_world r nothing h = absurd cc
      met_world r two_sorts h = refl
      met_world r (two_funcs f g) h = refl
      met_world r (two_types x y) h = refl
      met_world r (two_resources a b) h = refl

      met_have : (r : ResourceId) (what : Comparison) → meets_have r what ≡ true → is_found what ≡ true
      met_have r nothing h = absurd cc
      met_have r two_sorts h = refl
      met_have r (two_funcs f g) h = refl
      met_have r (two_types x y) h = refl
      met_have r (two_resources a b) h = refl
