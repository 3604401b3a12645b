-- Numbers that are known by their places.
use Rattle.std.proofs.Common.{◌≡◌, ℕ, zero, suc, ◌+◌, ◌<◌, ◌≤◌, Bool, false, cond, List, [], ◌∷◌, ◌++◌, length, map, take, get_or, inl, inr, Option, Some, None, sym, ap, subst, ◌∙◌, arith}
use Rattle.std.specs.BTreeMap.{get}
use Rattle.std.specs.Ordering.{is_eq, nat_cmp}
use Rattle.std.specs.List.{AllByRecursion}
use Rattle.std.proofs.lemmas.Bool.{cases_Bool}
use Rattle.std.proofs.lemmas.List.{get_or_past, map_more, take_all}
use Rattle.std.proofs.lemmas.Map.Lookups.{exact_unsigned}
use Rattle.cm_types.specs.Types.{Ty, bool}
use Rattle.cm_types_arena.specs.Arena.{parts_in}
use Rattle.cm_types_arena.specs.TypeDefs.{type_at}
use Rattle.cm_types_arena.specs.Replaced.{Standing, replaced}
use Rattle.cm_types_numbers.specs.Knowing.{Knows}
use Rattle.cm_types_numbers.specs.Numbering.{Numbering, number, Extends, AreNumbers, IsNodeOf}
use Rattle.cm_types_numbers.specs.declared.key.Key.{Key}
use Rattle.cm_types_numbers.specs.declared.known.Known.{Known}
use Rattle.cm_types_numbers.proofs.Places.{as_many, one_more}
use Rattle.cm_types_numbers.proofs.Stays.{numbers_stay, stays}
use Rattle.cm_lemmas.proofs.Orders.{is_equal}
use Rattle.cm_lemmas.proofs.Options.{some_number}

pub known_more : (t : Numbering) (s : Standing) (ts : List Ty) (old new : Known) (place n : ℕ) → ((q : ℕ) → get nat_cmp new.numbers q ≡ cond (is_eq (nat_cmp place q)) (Some n) (get nat_cmp old.numbers q))
    → Knows t s ts old → number t (replaced s (type_at ts place)) ≡ Some n → Knows t s ts new
known_more t s ts old new place n at knows is q m e = elim (cases_Bool (is_eq (nat_cmp place q))) [
  | inl y ↦
      let here : place ≡ q = exact_unsigned place q (is_equal (nat_cmp place q) y) in
      let same : n ≡ m = some_number n m (sym (at q ∙ ap (λ (b : Bool). cond b (Some n) (get nat_cmp old.numbers q)) y) ∙ e) in
      ap (λ (p : ℕ). number t (replaced s (type_at ts p))) (sym here) ∙ is ∙ ap (λ (k : ℕ). let o : Option ℕ = Some k in o) same
  | inr isnt ↦ knows q m (sym (at q ∙ ap (λ (b : Bool). cond b (Some n) (get nat_cmp old.numbers q)) isnt) ∙ e)
]

pub known_stays : (t u : Numbering) → Extends t u → (s : Standing) (ts : List Ty) (known : Known) → Knows t s ts known → Knows u s ts known
known_stays t u e s ts known knows place n is = stays t u e (replaced s (type_at ts place)) n (knows place n is)

-- the number of one more part
pub part_more : (t u : Numbering) → Extends t u → (s : Standing) (ts : List Ty) (places : List ℕ) (i p n : ℕ) (ns : List ℕ) → i < length places → p ≡ get_or places i 0 → AreNumbers t s (map (type_at ts) (take i places)) ns → number u (replaced s (type_at ts p)) ≡ Some n
    → AreNumbers u s (map (type_at ts) (take (i + 1) places)) (ns ++ n ∷ [])
part_more t u e s ts places i p n ns lt at are is =
    let more = one_more (λ y. number u (replaced s y)) (map (type_at ts) (take i places)) ns (type_at ts p) n (numbers_stay t u e s (map (type_at ts) (take i places)) ns are) is in
    let all : map (type_at ts) (take (i + 1) places) ≡ map (type_at ts) (take i places) ++ type_at ts p ∷ [] = map_more (type_at ts) places i 0 lt ∙ ap (λ (q : ℕ). map (type_at ts) (take i places) ++ type_at ts q ∷ []) (sym at) in
    subst (λ (us : List Ty). AreNumbers u s us (ns ++ n ∷ [])) (sym all) more

pub all_parts : (t : Numbering) (s : Standing) (ts : List Ty) (places : List ℕ) (i : ℕ) (ns : List ℕ) → length places ≤ i → AreNumbers t s (map (type_at ts) (take i places)) ns → AreNumbers t s (map (type_at ts) places) ns
all_parts t s ts places i ns le are = subst (λ (ps : List ℕ). AreNumbers t s (map (type_at ts) ps) ns) (take_all i places le) are

pub none_there : (ts : List Ty) (place : ℕ) → length ts ≤ place → type_at ts place ≡ bool
none_there ts place le = get_or_past ts place bool le

-- each has it, at a place too
pub at_place : (P : ℕ → Type 0) (xs : List ℕ) (i d : ℕ) → AllByRecursion P xs → i < length xs → P (get_or xs i d)
at_place P [] i d all lt = absurd (omega (arith, lt))
at_place P (x ∷ xs) zero d all lt = all.0
at_place P (x ∷ xs) (suc i) d all lt = at_place P xs i d all.1 (omega (arith, lt))

-- ---- the parts of a type, once all are numbered

module _ (t : Numbering) (s : Standing) (ts : List Ty) (place : ℕ) (places : List ℕ) (i : ℕ) (ns parts : List ℕ) (x : Ty) (all : length places ≤ i) (are : AreNumbers t s (map (type_at ts) (take i places)) ns) (held : parts_in (type_at ts place) ≡ map (type_at ts) places)
    (given : parts ≡ ns) (xe : x ≡ type_at ts place) where
  pub parts_here : AreNumbers t s (parts_in x) parts
  parts_here =
      let types : parts_in x ≡ map (type_at ts) places = ap parts_in xe ∙ held in
      subst (λ (us : List Ty). AreNumbers t s us parts) (sym types) (subst (λ (ms : List ℕ). AreNumbers t s (map (type_at ts) places) ms) (sym given) (all_parts t s ts places i ns all are))

  pub parts_of : length parts ≡ length (parts_in x)
  parts_of = as_many (λ y. number t (replaced s y)) (parts_in x) parts parts_here

  pub numbered_here : (u v : Numbering) → Extends u v → (k : Key) (n : ℕ) → (AreNumbers t s (parts_in x) parts → IsNodeOf u (replaced s x) k) → v.node k ≡ Some n → number v (replaced s (type_at ts place)) ≡ Some n
  numbered_here u v c k n made is = ap (λ y. number v (replaced s y)) (sym xe) ∙ made parts_here v c ∙ is
