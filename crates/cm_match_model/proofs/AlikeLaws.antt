-- The items of two imports that are instances of one type, linked to the same instance, are alike.
use Rattle.std.proofs.Common.{◌≡◌, ◌∙◌, ℕ, zero, suc, ◌+◌, ◌-◌, ◌<◌, ◌≤◌, List, [], ◌∷◌, ◌++◌, map, Bool, true, false, Some, refl, ap, sym, subst, arith, inl, inr, slice_get, nat_lt}
use Rattle.std.specs.Prelude.{◌||◌, nat_le}
use Rattle.std.proofs.lemmas.Bool.{cases_Bool, ltb-true, ltb-false, le-ltb, lt-leb, le-leb}
use Rattle.cm_types.specs.declared.resource.ResourceId.{ResourceId}
use Rattle.cm_types.specs.Signatures.{ItemTy, NamedItem, func_item, equal_type, equal_resource, fresh_resource, NamedExtern}
use Rattle.cm_types.specs.Signatures as extern
use Rattle.cm_types_arena.specs.Moves.{moved}
use Rattle.cm_types_arena.specs.Instances.{replaced_desc, replaced_item}
use Rattle.cm_validate_model.specs.Definitions.{InstanceTy, ResourceDef, brought, NamedMember, exported_instance}
use Rattle.cm_validate_model.specs.Scopes.{resource_id}
use Rattle.cm_validate_model.specs.Spaces.{Spaces}
use Rattle.cm_validate_model.specs.Counted.{IsAmongFirst}
use Rattle.cm_validate_model.specs.CountedSpaces.{AreSpacesCounted, fresh_numbers, fresh_of, numbers_from}
use Rattle.cm_match_model.specs.Origins.{AreOrigins, origin_of}
use Rattle.cm_match_model.specs.Imports.{LinkSet, links_of}
use Rattle.cm_match_model.specs.Serving.{IsItemServed, Serves, standing}
use Rattle.cm_match_model.specs.Alike.{AreAllAlike, AreAlike, IsLinkedTo}
use Rattle.cm_match_model.specs.Brought.{AreBrought, AreInOrder, BringsInOrder, IsBrought, IsInOrder, OwnsWhatItBrings, behind, items_from}
use Rattle.cm_match_model.proofs.SameLaws.{func_same, import_there, provided_origin, resource_under, stands_as, type_same}
use Rattle.cm_lemmas.proofs.Lists.{get_map}
use Rattle.cm_lemmas.proofs.Bools.{or_left}
use Rattle.cm_lemmas.proofs.Options.{some_is}

-- ---- which resources are moved

-- a resource is not of the type's own
abbrev stays : InstanceTy → ℕ → Bool
stays t n = nat_lt n t.first || nat_le (t.first + t.fresh) n

abbrev at_number : ResourceId → ℕ → ResourceId
at_number r n = record { component = r.component; number = n }

it_stays : (t : InstanceTy) (next : ℕ) (r : ResourceId) → stays t r.number ≡ true → moved t.first t.fresh next r ≡ r
it_stays t next r h = rw h refl

it_moves : (t : InstanceTy) (next : ℕ) (r : ResourceId) → stays t r.number ≡ false → moved t.first t.fresh next r ≡ at_number r (r.number - t.first + next)
it_moves t next r h = rw h refl

from_first : (t : InstanceTy) (n : ℕ) → stays t n ≡ false → t.first ≤ n
from_first t n h = ltb-false n t.first (or_left (nat_lt n t.first) (nat_le (t.first + t.fresh) n) h)

own_moves : (t : InstanceTy) (n : ℕ) → t.first ≤ n → n < t.first + t.fresh → stays t n ≡ false
own_moves t n low high = rw (le-ltb n t.first low, lt-leb (t.first + t.fresh) n high) refl

-- two of the type's own that are moved to one are one
one_moved : (t : InstanceTy) (next : ℕ) (r q : ResourceId) → stays t r.number ≡ false → stays t q.number ≡ false → moved t.first t.fresh next r ≡ moved t.first t.fresh next q → r ≡ q
one_moved t next r q h k e =
    let same = sym (it_moves t next r h) ∙ e ∙ it_moves t next q k in
    let numbers : r.number - t.first + next ≡ q.number - t.first + next = ap (λ (x : ResourceId). x.number) same in
    let number : r.number ≡ q.number = omega (arith, numbers, from_first t r.number h, from_first t q.number k) in
    ap (at_number r) number ∙ ap (λ c. at_number (record { component = c; number = q.number }) q.number) (ap (λ (x : ResourceId). x.component) same)

none_own : (t : InstanceTy) (n : ℕ) → t.fresh ≡ 0 → stays t n ≡ true
none_own t n e = elim (cases_Bool (nat_lt n t.first)) [
  | inl y ↦ rw y refl
  | inr k ↦ rw (k, le-leb (t.first + t.fresh) n (omega (arith, e, ltb-false n t.first k))) refl
]

brought_at : (resources : List ResourceDef) (import n : ℕ) (is : List NamedItem) → AreBrought resources import n is → (k : ℕ) (i : NamedItem) → slice_get is k ≡ Some i
    → IsBrought resources import (n + k) i.desc
brought_at resources import n [] h k i e = cc e
brought_at resources import n (x ∷ is) h zero i e =
    subst (λ (y : NamedItem). IsBrought resources import (n + zero) y.desc) (some_is x i e) (subst (λ m. IsBrought resources import m x.desc) (omega arith) h.0)
brought_at resources import n (x ∷ is) h (suc k) i e = subst (λ m. IsBrought resources import m i.desc) (omega arith) (brought_at resources import (n + 1) is h.1 k i e)

abbrev head_or : ℕ → List ℕ → ℕ
head_or n [] = n
head_or n (m ∷ ms) = m

abbrev tail : List ℕ → List ℕ
tail [] = []
tail (m ∷ ms) = ms

-- ---- two imports

module _ (set : LinkSet) (counted : (n : ℕ) (p : Spaces) → slice_get set.spaces n ≡ Some p → AreSpacesCounted p)
    (origins : AreOrigins set.spaces (links_of set) (origin_of set.spaces (links_of set))) (c : ℕ) (s : Spaces) (there : slice_get set.spaces c ≡ Some s)
    (brings : (import : ℕ) (x : NamedExtern) (items : List NamedItem) → slice_get s.imports import ≡ Some x → x.desc ≡ extern.instance items → BringsInOrder s.resources import items)
    (j k d : ℕ) (t : InstanceTy) (a b : ℕ) (ms : List NamedMember) (v : IsLinkedTo set c j t a d (exported_instance ms)) (w : IsLinkedTo set c k t b d (exported_instance ms)) where
  abbrev to_a : ResourceId → ResourceId
  to_a = moved t.first t.fresh a

  abbrev to_b : ResourceId → ResourceId
  to_b = moved t.first t.fresh b

  abbrev IsSame : ResourceId → Type 0
  IsSame r = standing set c (to_a r) ≡ standing set c (to_b r)

  order_a : BringsInOrder s.resources j (items_from t a)
  order_a = brings j v.import (items_from t a) (import_there set counted origins c s there t d ms j a v) v.items

  order_b : BringsInOrder s.resources k (items_from t b)
  order_b = brings k w.import (items_from t b) (import_there set counted origins c s there t d ms k b w) w.items

  -- what an item brings
  brought_as : (import next n : ℕ) → BringsInOrder s.resources import (items_from t next) → (i : NamedItem) (r : ResourceId) → slice_get t.items n ≡ Some i → i.desc ≡ fresh_resource r
      → slice_get s.resources (moved t.first t.fresh next r).number ≡ Some (brought import n)
  brought_as import next n order i r e is =
      let m = moved t.first t.fresh next in
      let h : IsBrought s.resources import (0 + n) (replaced_desc m i.desc) = brought_at s.resources import 0 (items_from t next) order.brought n (replaced_item m i) (get_map (replaced_item m) t.items n i e) in
      let g : IsBrought s.resources import (0 + n) (fresh_resource (m r)) = subst (λ x. IsBrought s.resources import (0 + n) (replaced_desc m x)) is h in
      g ∙ ap (λ x. Some (brought import x)) (omega arith)

  -- the resource of an item that is served
  pub same_served : (n : ℕ) (i : NamedItem) (r : ResourceId) → slice_get t.items n ≡ Some i → i.desc ≡ fresh_resource r → IsItemServed set c d ms (replaced_item to_a i) → IsSame r
  same_served n i r e is served =
      let serves : Serves set c (fresh_resource (to_a r)) d served.0 = subst (λ x. Serves set c (replaced_desc to_a x) d served.0) is served.2 in
      let q = resource_under set c d ms i.name (to_a r) served.0 served.1 serves in
      let o = provided_origin set counted origins c s there v.link ms i.name q.0 v.exported q.1 in
      let at_d = subst (λ l. origin_of set.spaces (links_of set) (record { component = l; number = q.0 }) ≡ Some o.0) v.to o.1 in
      stands_as set counted origins c s there t d ms j a v n i (to_a r) q.0 o.0 e (brought_as j a n order_a i r e is) q.1 at_d
      ∙ sym (stands_as set counted origins c s there t d ms k b w n i (to_b r) q.0 o.0 e (brought_as k b n order_b i r e is) q.1 at_d)

  -- ---- item by item

  stays_same : (r : ResourceId) → stays t r.number ≡ true → IsSame r
  stays_same r h = ap (standing set c) (it_stays t a r h ∙ sym (it_stays t b r h))

  abbrev AreSameBelow : ℕ → Type 0
  AreSameBelow n = (r : ResourceId) → IsAmongFirst n (to_a r) → IsSame r

  -- one more resource is the same for both
  one_more : (n : ℕ) (q : ResourceId) → AreSameBelow n → to_a q ≡ resource_id n → stays t q.number ≡ false → IsSame q → AreSameBelow (n + 1)
  one_more n q below is own same r h = elim (cases_Bool (nat_lt (to_a r).number n)) [
    | inl y ↦ below r (h.0, ltb-true (to_a r).number n y)
    | inr m ↦ at_end (omega (arith, h.1, ltb-false (to_a r).number n m))
  ]
    where
      at_end : (to_a r).number ≡ n → IsSame r
      at_end e = elim (cases_Bool (stays t r.number)) [
        | inl y ↦ stays_same r y
        | inr m ↦ subst IsSame (sym (one_moved t a r q m own (ap (at_number (to_a r)) e ∙ ap (λ x. at_number (record { component = x; number = n }) n) h.0 ∙ sym is))) same
      ]

  alike_one : (n : ℕ) → AreSameBelow n → (x : ItemTy) → IsInOrder n (replaced_desc to_a x) → AreAlike set c (replaced_desc to_a x) (replaced_desc to_b x)
  alike_one n below (func_item f) h = func_same (standing set c) to_a to_b n below f h
  alike_one n below (equal_type u) h = type_same (standing set c) to_a to_b n below u h
  alike_one n below (equal_resource r) h = below r h
  alike_one n below (fresh_resource r) h = tt {0}

  -- the items from one on, which bring so many resources from the number `own` on
  abbrev AlikeFrom : List NamedItem → Type 0
  AlikeFrom is = (n own count : ℕ) → AreInOrder n (map (replaced_item to_a) is) → AreSameBelow n → fresh_numbers is ≡ numbers_from own count → t.first ≤ own
      → own + count ≡ t.first + t.fresh → AreAllAlike set c d ms (map (replaced_item to_a) is) (map (replaced_item to_b) is)

  -- behind an item that brings a resource
  behind_fresh : (is : List NamedItem) → AlikeFrom is → (n own count : ℕ) (q : ResourceId) → to_a q ≡ resource_id n → AreInOrder (n + 1) (map (replaced_item to_a) is) → AreSameBelow n
      → q.number ∷ fresh_numbers is ≡ numbers_from own count → t.first ≤ own → own + count ≡ t.first + t.fresh → IsSame q
      → AreAllAlike set c d ms (map (replaced_item to_a) is) (map (replaced_item to_b) is)
  behind_fresh is more n own zero q first order below numbers low high same = cc numbers
  behind_fresh is more n own (suc count) q first order below numbers low high same =
      let number : q.number ≡ own = ap (head_or 0) numbers in
      let owned : stays t q.number ≡ false = own_moves t q.number (omega (arith, number, low)) (omega (arith, number, high)) in
      more (n + 1) (suc own) count order (one_more n q below first owned same) (ap tail numbers) (omega (arith, low)) (omega (arith, high))

  behind_one : (is : List NamedItem) → AlikeFrom is → (n own count : ℕ) (x : ItemTy) → IsInOrder n (replaced_desc to_a x) → AreInOrder (behind n (replaced_desc to_a x)) (map (replaced_item to_a) is)
      → AreSameBelow n → fresh_of x ++ fresh_numbers is ≡ numbers_from own count → t.first ≤ own → own + count ≡ t.first + t.fresh → ((q : ResourceId) → x ≡ fresh_resource q → IsSame q)
      → AreAllAlike set c d ms (map (replaced_item to_a) is) (map (replaced_item to_b) is)
  behind_one is more n own count (func_item f) first order below numbers low high same = more n own count order below numbers low high
  behind_one is more n own count (equal_type u) first order below numbers low high same = more n own count order below numbers low high
  behind_one is more n own count (equal_resource r) first order below numbers low high same = more n own count order below numbers low high
  behind_one is more n own count (fresh_resource q) first order below numbers low high same = behind_fresh is more n own count q first order below numbers low high (same q refl)

  alike_from : (number : ℕ) (is : List NamedItem) → ((m : ℕ) (i : NamedItem) → slice_get is m ≡ Some i → slice_get t.items (number + m) ≡ Some i) → AlikeFrom is
  alike_from number [] at n own count order below numbers low high = tt {0}
  alike_from number (i ∷ is) at n own count order below numbers low high = (
    refl,
    alike_one n below i.desc order.0,
    λ served. behind_one is (alike_from (number + 1) is (λ m x e. subst (λ l. slice_get t.items l ≡ Some x) (omega arith) (at (suc m) x e))) n own count i.desc order.0 order.1 below numbers low high
        (λ q is_fresh. same_served number i q (subst (λ l. slice_get t.items l ≡ Some i) (omega arith) (at 0 i refl)) is_fresh served),
  )

  -- ---- where the items begin

  -- the first resource that items bring is the next one
  first_brought : (is : List NamedItem) (n own count : ℕ) → AreInOrder n (map (replaced_item to_a) is) → fresh_numbers is ≡ numbers_from own (suc count)
      → (q : ResourceId) × (q.number ≡ own) × (to_a q ≡ resource_id n)
  first_brought [] n own count order numbers = cc numbers
  first_brought (i ∷ is) n own count order numbers = by_desc i.desc order.0 order.1 numbers (λ l e. first_brought is n own count l e)
    where
      by_desc : (x : ItemTy) → IsInOrder n (replaced_desc to_a x) → AreInOrder (behind n (replaced_desc to_a x)) (map (replaced_item to_a) is) → fresh_of x ++ fresh_numbers is ≡ numbers_from own (suc count)
          → (AreInOrder n (map (replaced_item to_a) is) → fresh_numbers is ≡ numbers_from own (suc count) → (q : ResourceId) × (q.number ≡ own) × (to_a q ≡ resource_id n))
          → (q : ResourceId) × (q.number ≡ own) × (to_a q ≡ resource_id n)
      by_desc (func_item f) h l e more = more l e
      by_desc (equal_type u) h l e more = more l e
      by_desc (equal_resource r) h l e more = more l e
      by_desc (fresh_resource q) h l e more = (q, ap (head_or 0) e, h)

  at_first : OwnsWhatItBrings t → (count : ℕ) → t.fresh ≡ count → AreSameBelow order_a.next
  at_first owns zero e r h = stays_same r (none_own t r.number e)
  at_first owns (suc count) e r h =
      let q = first_brought t.items order_a.next t.first count order_a.in_order (owns ∙ ap (numbers_from t.first) e) in
      let owned : stays t q.0.number ≡ false = own_moves t q.0.number (omega (arith, q.1)) (omega (arith, q.1, e)) in
      let from : q.0.number - t.first + a ≡ order_a.next = ap (λ (x : ResourceId). x.number) (sym (it_moves t a q.0 owned) ∙ q.2) in
      let low : a ≡ order_a.next = omega (arith, from, q.1) in
      elim (cases_Bool (stays t r.number)) [
        | inl y ↦ stays_same r y
        | inr m ↦ absurd (omega (arith, low, h.1, ap (λ (x : ResourceId). x.number) (it_moves t a r m)))
      ]

  pub all_alike : OwnsWhatItBrings t → AreAllAlike set c d ms (items_from t a) (items_from t b)
  all_alike owns =
      alike_from 0 t.items (λ m i e. subst (λ l. slice_get t.items l ≡ Some i) (omega arith) e) order_a.next t.first t.fresh order_a.in_order
      (at_first owns t.fresh refl) owns (omega arith) refl
