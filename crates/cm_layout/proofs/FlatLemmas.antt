-- Flat kinds, joined and repeated.
use Rattle.std.proofs.Common.{◌≡◌, ℕ, zero, suc, ◌+◌, ◌≤◌, ◌<◌, List, [], ◌∷◌, ◌++◌, length, get_or, Option, Some, None, refl, sym, ap, ◌∙◌, arith, append_assoc, append-nil, max, length-append, add-one, zero-add}
use Rattle.std.proofs.Math.ListN.{set}
use Rattle.std.proofs.Math.Nat.{suc-add}
use Rattle.cm_types.specs.declared.core_value.CoreKind.{CoreKind}
use Rattle.cm_types.specs.declared.core_value.CoreKind.TheVariants.{I32, I64}
use Rattle.cm_types.specs.Types.{Ty, Cases, CasesKind, no_cases, plain, carrying, cases}
use Rattle.cm_types.specs.TypeTrees.{plain_from, case_before, case_of, cases_of}
use Rattle.cm_types.specs.declared.type_trees.Case.{Case}
use Rattle.cm_layout.specs.Flattening.{JoinedFrom, copies, join, join_slots, join_from, flat_of, flat_of_cases, flat_of_payload}

join_long : (xs ys : List CoreKind) → length (join_slots xs ys) ≡ max (length xs) (length ys)
join_long [] ys = omega arith
join_long (x ∷ xs) [] = omega arith
join_long (x ∷ xs) (y ∷ ys) = omega (arith, join_long xs ys)

pub joined_nil : (xs : List CoreKind) → join_slots xs [] ≡ xs
joined_nil [] = refl
joined_nil (x ∷ xs) = refl

pub join_assoc : (a b c : CoreKind) → join (join a b) c ≡ join a (join b c)
join_assoc I32 b c = refl
join_assoc I64 b c = refl

pub joined_assoc : (xs ys zs : List CoreKind) → join_slots (join_slots xs ys) zs ≡ join_slots xs (join_slots ys zs)
joined_assoc [] ys zs = refl
joined_assoc (x ∷ xs) [] zs = refl
joined_assoc (x ∷ xs) (y ∷ ys) [] = refl
joined_assoc (x ∷ xs) (y ∷ ys) (z ∷ zs) =
    ap (λ k. k ∷ join_slots (join_slots xs ys) zs) (join_assoc x y z) ∙ ap (λ ks. join x (join y z) ∷ ks) (joined_assoc xs ys zs)

pub flat_plain : (ls : List (List ℕ)) → flat_of_cases (plain_from ls) ≡ []
flat_plain [] = refl
flat_plain (l ∷ ls) = flat_plain ls

pub flat_before : (l : List ℕ) (o : Option Ty) (cs : Cases) → flat_of_cases (case_before l o cs) ≡ join_slots (flat_of_payload o) (flat_of_cases cs)
flat_before l None cs = refl
flat_before l (Some t) cs = refl

pub copies_end : (n : ℕ) (xs : List CoreKind) → copies n xs ++ xs ≡ xs ++ copies n xs
copies_end zero xs = sym (append-nil xs)
copies_end (suc n) xs = append_assoc xs (copies n xs) xs ∙ ap (λ ys. xs ++ ys) (copies_end n xs)

pub copies_more : (n : ℕ) (xs : List CoreKind) → copies (n + 1) xs ≡ copies n xs ++ xs
copies_more n xs = rw add-one (sym (copies_end n xs))

-- ---- what each arm answers

pub option_flat : (k : CasesKind) (l m : List ℕ) (t : Ty) → flat_of (cases k (plain l (carrying m t no_cases))) ≡ I32 ∷ flat_of t
option_flat k l m t = ap (λ ks. I32 ∷ ks) (joined_nil (flat_of t))

pub enum_flat : (k : CasesKind) (ls : List (List ℕ)) → flat_of (cases k (plain_from ls)) ≡ I32 ∷ []
enum_flat k ls = ap (λ ks. I32 ∷ ks) (flat_plain ls)

pub result_flat : (k : CasesKind) (l m : List ℕ) (o p : Option Ty) → flat_of (cases k (case_before l o (case_before m p no_cases))) ≡ I32 ∷ join_slots (flat_of_payload o) (flat_of_payload p)
result_flat k l m o p =
    rw (flat_before l o (case_before m p no_cases), flat_before m p no_cases, joined_nil (flat_of_payload p)) refl

-- ---- slots joined one after another

pub end_joined : (ks js : List CoreKind) → join_from (length ks) ks js ≡ ks ++ js
end_joined [] js = refl
end_joined (k ∷ ks) js = ap (λ zs. k ∷ zs) (end_joined ks js)

pub behind_start : (xs ks js : List CoreKind) → join_from (length ks) (join_slots xs ks) js ≡ join_slots xs (ks ++ js)
behind_start xs [] js = ap (λ zs. join_slots zs js) (joined_nil xs)
behind_start [] (k ∷ ks) js = ap (λ zs. k ∷ zs) (end_joined ks js)
behind_start (x ∷ xs) (k ∷ ks) js = ap (λ zs. join x k ∷ zs) (behind_start xs ks js)

-- behind what was joined
pub joined_behind : (at : ℕ) (xs ks js : List CoreKind) → at ≤ length xs → join_from (at + length ks) (join_from at xs ks) js ≡ join_from at xs (ks ++ js)
joined_behind zero xs ks js h = ap (λ n. join_from n (join_slots xs ks) js) (zero-add (length ks)) ∙ behind_start xs ks js
joined_behind (suc n) [] ks js h = absurd (omega arith)
joined_behind (suc n) (x ∷ xs) ks js h = ap (λ m. join_from m (x ∷ join_from n xs ks) js) (suc-add n (length ks)) ∙ ap (λ zs. x ∷ zs) (joined_behind n xs ks js (omega arith))

-- in the same place as what was joined
pub joined_over : (at : ℕ) (xs ks js : List CoreKind) → at ≤ length xs → join_from at (join_from at xs ks) js ≡ join_from at xs (join_slots ks js)
joined_over zero xs ks js h = joined_assoc xs ks js
joined_over (suc n) [] ks js h = absurd (omega arith)
joined_over (suc n) (x ∷ xs) ks js h = ap (λ zs. x ∷ zs) (joined_over n xs ks js (omega arith))

pub joined_none : (at : ℕ) (xs : List CoreKind) → join_from at xs [] ≡ xs
joined_none zero xs = joined_nil xs
joined_none (suc n) [] = refl
joined_none (suc n) (x ∷ xs) = ap (λ zs. x ∷ zs) (joined_none n xs)

-- how many slots there are then
joined_length : (at : ℕ) (xs ks : List CoreKind) → at ≤ length xs → length (join_from at xs ks) ≡ max (length xs) (at + length ks)
joined_length zero xs ks h = omega (arith, join_long xs ks)
joined_length (suc n) [] ks h = absurd (omega arith)
joined_length (suc n) (x ∷ xs) ks h = omega (arith, joined_length n xs ks (omega arith))

-- one slot
pub joined_end : (xs : List CoreKind) (k : CoreKind) → join_from (length xs) xs (k ∷ []) ≡ xs ++ k ∷ []
joined_end xs k = end_joined xs (k ∷ [])

pub joined_here : (at : ℕ) (xs : List CoreKind) (k x : CoreKind) → at < length xs → join_from at xs (k ∷ []) ≡ set xs at (join (get_or xs at x) k)
joined_here zero [] k x h = absurd (omega arith)
joined_here zero (y ∷ ys) k x h = ap (λ zs. join y k ∷ zs) (joined_nil ys)
joined_here (suc n) [] k x h = absurd (omega arith)
joined_here (suc n) (y ∷ ys) k x h = ap (λ zs. y ∷ zs) (joined_here n ys k x (omega arith))

-- ---- what was joined

pub joined_is : (at : ℕ) (xs ks ys : List CoreKind) (n : ℕ) → at ≤ length xs → ys ≡ join_from at xs ks → n ≡ at + length ks → JoinedFrom at xs ks ys n
joined_is at xs ks ys n h e f = record { slots = e; end = f; within = omega (arith, ap length e, joined_length at xs ks h) }

pub joined_nothing : (at : ℕ) (xs : List CoreKind) → at ≤ length xs → JoinedFrom at xs [] xs at
joined_nothing at xs h = joined_is at xs [] xs at h (sym (joined_none at xs)) (omega arith)

-- one behind the other
pub joined_then : (at m n : ℕ) (xs ks ys js zs : List CoreKind) → at ≤ length xs → JoinedFrom at xs ks ys m → JoinedFrom m ys js zs n → JoinedFrom at xs (ks ++ js) zs n
joined_then at m n xs ks ys js zs h a b =
    joined_is at xs (ks ++ js) zs n h
    (b.slots ∙ rw (a.slots, a.end) (joined_behind at xs ks js h))
    (b.end ∙ rw a.end (omega (arith, length-append ks js)))

-- one over the other
pub joined_both : (at m n e : ℕ) (xs ks ys js zs : List CoreKind) → at ≤ length xs → JoinedFrom at xs ks ys m → JoinedFrom at ys js zs n → e ≡ max m n → JoinedFrom at xs (join_slots ks js) zs e
joined_both at m n e xs ks ys js zs h a b f =
    joined_is at xs (join_slots ks js) zs e h
    (b.slots ∙ rw a.slots (joined_over at xs ks js h))
    (f ∙ omega (arith, a.end, b.end, join_long ks js))

-- the same kinds, told otherwise
pub joined_same : (at n : ℕ) (xs ks js ys : List CoreKind) → ks ≡ js → JoinedFrom at xs ks ys n → JoinedFrom at xs js ys n
joined_same at n xs ks js ys e a = record { slots = rw (← e) a.slots; end = rw (← e) a.end; within = a.within }

-- one kind, into a slot that is there or a new one
pub joined_slot_here : (at : ℕ) (xs ys : List CoreKind) (k j x : CoreKind) → at < length xs → j ≡ join (get_or xs at x) k → ys ≡ set xs at j → JoinedFrom at xs (k ∷ []) ys (at + 1)
joined_slot_here at xs ys k j x lt e f = joined_is at xs (k ∷ []) ys (at + 1) (omega arith) (f ∙ ap (set xs at) e ∙ sym (joined_here at xs k x lt)) refl

pub joined_slot_end : (at : ℕ) (xs ys : List CoreKind) (k : CoreKind) → at ≡ length xs → ys ≡ xs ++ k ∷ [] → JoinedFrom at xs (k ∷ []) ys (at + 1)
joined_slot_end at xs ys k e f = joined_is at xs (k ∷ []) ys (at + 1) (omega arith) (f ∙ rw e (sym (joined_end xs k))) refl

-- ---- loops

-- of all kinds some were joined, one behind the other: these are left
pub record LeavesBehind (at : ℕ) (xs all rest ys : List CoreKind) (next : ℕ) : Type 0 where
  pub slots : join_from next ys rest ≡ join_from at xs all
  pub end : next + length rest ≡ at + length all
  pub within : next ≤ length ys

pub all_behind : (at : ℕ) (xs all : List CoreKind) → at ≤ length xs → LeavesBehind at xs all all xs at
all_behind at xs all h = record { slots = refl; end = refl; within = h }

pub more_behind : (at m n : ℕ) (xs all ks rest ys zs : List CoreKind) → LeavesBehind at xs all (ks ++ rest) ys m → JoinedFrom m ys ks zs n → LeavesBehind at xs all rest zs n
more_behind at m n xs all ks rest ys zs b j =
    record {
      slots = rw (j.slots, j.end) (joined_behind m ys ks rest b.within) ∙ b.slots;
      end = omega (arith, j.end, b.end, length-append ks rest);
      within = j.within;
    }

pub none_behind : (at n : ℕ) (xs all ys : List CoreKind) → LeavesBehind at xs all [] ys n → JoinedFrom at xs all ys n
none_behind at n xs all ys b = record { slots = sym (joined_none n ys) ∙ b.slots; end = omega (arith, b.end); within = b.within }

-- of all kinds some were joined, one over the other: these are left
pub record LeavesOver (at : ℕ) (xs all rest ys : List CoreKind) (next : ℕ) : Type 0 where
  pub slots : join_from at ys rest ≡ join_from at xs all
  pub end : max next (at + length rest) ≡ at + length all
  pub above : at ≤ next
  pub within : next ≤ length ys

pub all_over : (at : ℕ) (xs all : List CoreKind) → at ≤ length xs → LeavesOver at xs all all xs at
all_over at xs all h = record { slots = refl; end = omega arith; above = omega arith; within = h }

pub more_over : (at m n e : ℕ) (xs all ks rest ys zs : List CoreKind) → LeavesOver at xs all (join_slots ks rest) ys m → JoinedFrom at ys ks zs n → e ≡ max m n → LeavesOver at xs all rest zs e
more_over at m n e xs all ks rest ys zs b j f =
    let h : at ≤ length ys = omega (arith, b.above, b.within) in
    record {
      slots = rw j.slots (joined_over at ys ks rest h) ∙ b.slots;
      end = omega (arith, j.end, b.end, b.above, join_long ks rest);
      above = omega (arith, b.above);
      within = omega (arith, b.within, j.within, ap length j.slots, joined_length at ys ks h);
    }

pub none_over : (at n : ℕ) (xs all ys : List CoreKind) → LeavesOver at xs all [] ys n → JoinedFrom at xs all ys n
none_over at n xs all ys b = record { slots = sym (joined_none at ys) ∙ b.slots; end = omega (arith, b.end, b.above); within = b.within }

pub more_copies : (at m n i : ℕ) (xs ks ys zs : List CoreKind) → at ≤ length xs → JoinedFrom at xs (copies i ks) ys m → JoinedFrom m ys ks zs n → JoinedFrom at xs (copies (i + 1) ks) zs n
more_copies at m n i xs ks ys zs h a b = joined_same at n xs (copies i ks ++ ks) (copies (i + 1) ks) zs (sym (copies_more i ks)) (joined_then at m n xs (copies i ks) ys ks zs h a b)

pub ruleset flats = (joined_nil, flat_plain, joined_none)
