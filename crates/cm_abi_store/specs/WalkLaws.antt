-- What holds along any walk that writes values one after another: in a row, as fields, in cases.
use Rattle.std.proofs.Common.{◌≡◌, ℕ, zero, suc, ◌+◌, ◌*◌, ◌-◌, ◌<◌, ◌≤◌, List, [], ◌∷◌, ◌++◌}
use Rattle.std.proofs.Common.{length}
use Rattle.std.proofs.Common.{map, drop, refl, sym, ap, ◌∙◌, arith, get_or, drop-cons, add-one}
use Rattle.std.proofs.Common.{Some, None, Option}
use Rattle.std.specs.Prelude.{slice_set}
use Rattle.cm_types.specs.Values.{Val, Vals, val}
use Rattle.cm_layout.specs.Layouts.{nothings, part_of}
use Rattle.cm_layout.specs.Shapes.{LayoutTy, Payloads, Shape, part}
use Rattle.cm_layout.specs.Shapes.{parts_from, payload_before, payloads_from}
use Rattle.cm_layout.specs.declared.layouts.Part.{Part as CodedPart}
use Rattle.cm_abi_model.specs.Parts.{handle_count, handle_count_each, part_count, part_count_each}
use Rattle.cm_abi_model.specs.Stores.{Placed, Storing, poke, store_each}
use Rattle.cm_abi_store.specs.Sources.{case_told, payload_in}

pub poke_both : (xs ys : List Placed) (m : List ℕ) → poke (xs ++ ys) m ≡ poke ys (poke xs m)
poke_both [] ys m = refl
poke_both (x ∷ xs) ys m = poke_both xs ys (slice_set m x.0 x.1)

-- ---- values in a row

pub step_on : (next at i size step : ℕ) → step ≡ size → next ≡ at + i * size
    → next + step ≡ at + (i + 1) * size
step_on next at i size step e f = rw (e, f) (grind arith)

-- the next of so many values lies where all do
pub row_inside : (n at count i size place : ℕ) → i < count → place ≡ at + i * size
    → at + count * size ≤ n → place + size ≤ n
row_inside n at count i size place lt is inside =
    let more = mul-add-lt' count i size lt in
    omega (arith, is, inside, more)
  where
    mul-add-lt' : (count i size : ℕ) → i < count → i * size + size ≤ count * size
    mul-add-lt' count i size lt =
        let rest : count ≡ i + 1 + (count - (i + 1)) = omega (arith, lt) in
        rw rest (grind arith)

-- another value was stored
pub next_stored : (S : Storing) (size : ℕ) (v : Val) (vs rest : Vals) (p q k h l j : ℕ)
    (m after total : List ℕ) → vs ≡ val v rest → q ≡ p + size
    → l ≡ k + part_count v → j ≡ h + handle_count v → after ≡ poke (S v p k h) m
    → poke (store_each S size vs p k h) m ≡ total
    → poke (store_each S size rest q l j) after ≡ total
next_stored S size v vs rest p q k h l j m after total is q_is l_is j_is stored so_far =
    let others = store_each S size rest (p + size) (k + part_count v) (h + handle_count v) in
    let next : poke (S v p k h ++ others) m ≡ total = rw is at so_far in
    rw (q_is, l_is, j_is, stored) (sym (poke_both (S v p k h) _ m) ∙ next)

pub next_parts : (v : Val) (vs rest : Vals) (k l total : ℕ) → vs ≡ val v rest
    → l ≡ k + part_count v → k + part_count_each vs ≡ total → l + part_count_each rest ≡ total
next_parts v vs rest k l total is l_is so_far =
    let next : k + (part_count v + part_count_each rest) ≡ total = rw is at so_far in
    omega (arith, next, l_is)

pub next_handles : (v : Val) (vs rest : Vals) (k l total : ℕ) → vs ≡ val v rest
    → l ≡ k + handle_count v → k + handle_count_each vs ≡ total
    → l + handle_count_each rest ≡ total
next_handles v vs rest k l total is l_is so_far =
    let next : k + (handle_count v + handle_count_each rest) ≡ total = rw is at so_far in
    omega (arith, next, l_is)

-- ---- fields

pub parts_next : (ps : List CodedPart) (i : ℕ) (p : CodedPart) → i < length ps → p ≡ get_or ps i p
    → parts_from (map part_of (drop i ps))
    ≡ part (part_of p).0 (part_of p).1.head (part_of p).1.shape
    (parts_from (map part_of (drop (i + 1) ps)))
parts_next ps i p lt is =
    let split : drop i ps ≡ p ∷ drop (i + 1) ps = rw (add-one, drop-cons ps i p lt, ← is) refl in
    rw split refl

-- ---- cases

in_zero : (o : Option LayoutTy) (ps : Payloads) → payload_in (payload_before o ps) zero ≡ o
in_zero None ps = refl
in_zero (Some l) ps = refl

in_suc : (o : Option LayoutTy) (ps : Payloads) (n : ℕ)
    → payload_in (payload_before o ps) (suc n) ≡ payload_in ps n
in_suc None ps n = refl
in_suc (Some l) ps n = refl

pub payload_is : {X : Type 0} (f : X → Option LayoutTy) (xs : List X) (n : ℕ) (x : X)
    → n < length xs → x ≡ get_or xs n x → payload_in (payloads_from (map f xs)) n ≡ f x
payload_is f [] n x lt is = absurd (omega arith)
payload_is f (y ∷ xs) zero x lt is = in_zero (f y) (payloads_from (map f xs)) ∙ ap f (sym is)
payload_is f (y ∷ xs) (suc n) x lt is =
    in_suc (f y) (payloads_from (map f xs)) n ∙ payload_is f xs n x (omega arith) is

pub payload_past : {X : Type 0} (f : X → Option LayoutTy) (xs : List X) (n : ℕ)
    → length xs ≤ n → payload_in (payloads_from (map f xs)) n ≡ None
payload_past f [] n past = refl
payload_past f (y ∷ xs) zero past = absurd (omega arith)
payload_past f (y ∷ xs) (suc n) past =
    in_suc (f y) (payloads_from (map f xs)) n ∙ payload_past f xs n (omega arith)

pub none_carried : (c i : ℕ) → payload_in (nothings c) i ≡ None
none_carried zero i = refl
none_carried (suc c) zero = refl
none_carried (suc c) (suc i) = none_carried c i

-- the number of a case changes neither its parts nor its handles
pub case_parts : {S : Type 0} (V : S → Shape → Val) (i : ℕ) (l : Option LayoutTy) (s : Option S)
    → part_count (case_told V i l s) ≡ part_count (case_told V 0 l s)
case_parts V i None s = refl
case_parts V i (Some l) None = refl
case_parts V i (Some l) (Some s) = refl

pub case_handles : {S : Type 0} (V : S → Shape → Val) (i : ℕ) (l : Option LayoutTy) (s : Option S)
    → handle_count (case_told V i l s) ≡ handle_count (case_told V 0 l s)
case_handles V i None s = refl
case_handles V i (Some l) None = refl
case_handles V i (Some l) (Some s) = refl
