-- What holds of copies of types, also among more types.
use Rattle.std.proofs.Common.{inl, inr, Result, Ok, Err, IfOk, ◌≡◌, ℕ, zero, suc, ◌+◌, ◌<◌, ◌≤◌, List, [], ◌∷◌, ◌++◌, length, map, take, Option, Some, false, refl, sym, ap, subst, ◌∙◌, arith, append-nil, append_assoc, length-append}
use Rattle.std.specs.Prelude.{slice_index}
use Rattle.std.specs.List.{AllByRecursion}
use Rattle.std.specs.Ordering.{is_eq, nat_cmp}
use Rattle.std.specs.Cmp.{unsigned_tied}
use Rattle.std.proofs.lemmas.Bool.{cases_eq, ne_eqb}
use Rattle.std.proofs.lemmas.List.{get_or_append_left, length-map, map-append}
use Rattle.std.proofs.Math.Seq.{take-suc, take-length}
use Rattle.cm_types.specs.Types.{Ty, Fields, Cases, bool, signed, unsigned, char, string, list, fixed_list, fields, cases, flags, own, borrow, no_fields, field, no_cases, plain, carrying}
use Rattle.cm_types.specs.Limits.{depth_of, depth_of_fields, depth_of_cases}
use Rattle.cm_types_arena.specs.Arena.{parts_in, field_types, payload_types}
use Rattle.cm_types_arena.specs.TypeDefs.{type_at}
use Rattle.cm_types_arena.specs.Replaced.{Standing, replaced}
use Rattle.cm_validate_types.specs.Copies.{BeginsWith, IsCopy, AreCopies}

-- ---- types that begin with others

pub itself : (types : List Ty) → BeginsWith types types
itself types = ([], sym (append-nil types))

pub front_of_front : (a b c : List Ty) → BeginsWith b a → BeginsWith c b → BeginsWith c a
front_of_front a b c p q = (p.0 ++ q.0, q.1 ∙ ap (λ ts. ts ++ q.0) p.1 ∙ append_assoc a p.0 q.0)

pub longer : (front types : List Ty) → BeginsWith types front → length front ≤ length types
longer front types b = omega (arith, ap length b.1, length-append front b.0)

pub at_front : (front types : List Ty) (k : ℕ) → BeginsWith types front → k < length front → type_at types k ≡ type_at front k
at_front front types k b lt = ap (λ ts. type_at ts k) b.1 ∙ get_or_append_left front b.0 bool k lt

pub all_at_front : (front types : List Ty) → BeginsWith types front → (ps : List ℕ) → AllByRecursion (λ p. p < length front) ps → map (type_at types) ps ≡ map (type_at front) ps
all_at_front front types b [] all = refl
all_at_front front types b (p ∷ ps) all =
    ap (λ t. t ∷ map (type_at types) ps) (at_front front types p b all.0) ∙ ap (λ ts. type_at front p ∷ ts) (all_at_front front types b ps all.1)

pub all_below_more : (m n : ℕ) → m ≤ n → (ps : List ℕ) → AllByRecursion (λ p. p < m) ps → AllByRecursion (λ p. p < n) ps
all_below_more m n le [] all = tt
all_below_more m n le (p ∷ ps) all = (omega (arith, all.0, le), all_below_more m n le ps all.1)

pub all_and_one : (n : ℕ) (ps : List ℕ) (p : ℕ) → AllByRecursion (λ q. q < n) ps → p < n → AllByRecursion (λ q. q < n) (ps ++ p ∷ [])
all_and_one n [] p all lt = (lt, tt)
all_and_one n (q ∷ ps) p all lt = (all.0, all_and_one n ps p all.1 lt)

pub below_at : (n : ℕ) (ps : List ℕ) (i : ℕ) → AllByRecursion (λ q. q < n) ps → i < length ps → slice_index ps i < n
below_at n [] i all lt = absurd (omega (arith, lt))
below_at n (p ∷ ps) zero all lt = all.0
below_at n (p ∷ ps) (suc i) all lt = below_at n ps i all.1 (omega (arith, lt))

-- ---- copies

module _ (s : Standing) where
  pub copy_stays : (front types : List Ty) → BeginsWith types front → (place copy : ℕ) → IsCopy s front place copy → IsCopy s types place copy
  copy_stays front types b place copy c =
      let long = longer front types b in
      record {
        place_there = omega (arith, c.place_there, long);
        copy_there = omega (arith, c.copy_there, long);
        ty = at_front front types copy b c.copy_there ∙ c.ty ∙ ap (replaced s) (sym (at_front front types place b c.place_there));
      }

  pub copies_stay : (front types : List Ty) (copy_of : ℕ → Option ℕ) → BeginsWith types front → AreCopies s front copy_of → AreCopies s types copy_of
  copies_stay front types copy_of b are place copy is = copy_stays front types b place copy (are place copy is)

  same_copy : (types : List Ty) (place copy n : ℕ) → Some copy ≡ Some n → IsCopy s types place copy → IsCopy s types place n
  same_copy types place copy n e c = let same : copy ≡ n = cc in subst (λ (m : ℕ). IsCopy s types place m) same c

  -- with one more copy in the table
  pub copies_more : (types : List Ty) (old new : ℕ → Option ℕ) (place copy : ℕ) → new place ≡ Some copy → ((q : ℕ) → is_eq (nat_cmp place q) ≡ false → new q ≡ old q)
      → IsCopy s types place copy → AreCopies s types old → AreCopies s types new
  copies_more types old new place copy here others c are q n is = elim (cases_eq place q) [
    | inl e ↦ subst (λ (k : ℕ). IsCopy s types k n) e (same_copy types place copy n (sym here ∙ ap new e ∙ is) c)
    | inr ne ↦ are q n (sym (others q (unsigned_tied place q ∙ ne_eqb place q ne)) ∙ is)
  ]

  -- one more part is copied
  pub part_copied : (mid new ts : List Ty) (i : ℕ) (done : List ℕ) (copy : ℕ) → BeginsWith new mid → AllByRecursion (λ p. p < length mid) done → map (type_at mid) done ≡ map (replaced s) (take i ts)
      → i < length ts → type_at new copy ≡ replaced s (type_at ts i) → map (type_at new) (done ++ copy ∷ []) ≡ map (replaced s) (take (i + 1) ts)
  part_copied mid new ts i done copy b all so_far lt is =
      let n : i + 1 ≡ suc i = omega arith in
      let more : take (i + 1) ts ≡ take i ts ++ type_at ts i ∷ [] = ap (λ (k : ℕ). take k ts) n ∙ take-suc ts i bool lt in
      map-append (type_at new) done (copy ∷ [])
      ∙ ap (λ us. us ++ type_at new copy ∷ []) (all_at_front mid new b done all ∙ so_far)
      ∙ ap (λ t. map (replaced s) (take i ts) ++ t ∷ []) is
      ∙ sym (map-append (replaced s) (take i ts) (type_at ts i ∷ []))
      ∙ ap (map (replaced s)) (sym more)

  -- all parts are copied
  pub all_copied : (mid ts : List Ty) (i : ℕ) (done : List ℕ) → i ≡ length ts → map (type_at mid) done ≡ map (replaced s) (take i ts) → map (replaced s) ts ≡ map (type_at mid) done
  all_copied mid ts i done all so_far = ap (map (replaced s)) (sym (take-length ts) ∙ ap (λ (n : ℕ). take n ts) (sym all)) ∙ sym so_far

  -- as many places as types, where these with theirs replaced stand there
  pub copied_long : (types ts : List Ty) (ps : List ℕ) → map (replaced s) ts ≡ map (type_at types) ps → length ps ≡ length ts
  copied_long types ts ps copied = sym (length-map ps (type_at types)) ∙ ap length (sym copied) ∙ length-map ts (replaced s)

  -- the place of a definition, if it has one, is that of a copy
  pub made_copy : {E : Type 0} (r : Result ℕ E) (types : List Ty) (place : ℕ) (t : Ty) → place < length types → t ≡ replaced s (type_at types place) → IfOk r (λ k. k < length types) → IfOk r (λ k. type_at types k ≡ t) → IfOk r (λ k. IsCopy s types place k)
  made_copy (Ok k) types place t lt is there ty = record { place_there = lt; copy_there = there; ty = ty ∙ is }
  made_copy (Err e) types place t lt is there ty = tt

  -- a type that stays as it is, is its own copy
  pub own_copy : (types : List Ty) (place : ℕ) → place < length types → replaced s (type_at types place) ≡ type_at types place → IsCopy s types place place
  own_copy types place lt same = record { place_there = lt; copy_there = lt; ty = sym same }

-- ---- what a type holds is less deep

field_shallower : (fs : Fields) (i : ℕ) → i < length (field_types fs) → depth_of (type_at (field_types fs) i) ≤ depth_of_fields fs
field_shallower no_fields i lt = absurd (omega (arith, lt))
field_shallower (field l t fs) zero lt = omega arith
field_shallower (field l t fs) (suc i) lt = let h = field_shallower fs i (omega (arith, lt)) in omega (arith, h)

payload_shallower : (cs : Cases) (i : ℕ) → i < length (payload_types cs) → depth_of (type_at (payload_types cs) i) ≤ depth_of_cases cs
payload_shallower no_cases i lt = absurd (omega (arith, lt))
payload_shallower (plain l cs) i lt = payload_shallower cs i lt
payload_shallower (carrying l t cs) zero lt = omega arith
payload_shallower (carrying l t cs) (suc i) lt = let h = payload_shallower cs i (omega (arith, lt)) in omega (arith, h)

pub shallower : (t : Ty) (i : ℕ) → i < length (parts_in t) → depth_of (type_at (parts_in t) i) < depth_of t
shallower bool i lt = absurd (omega (arith, lt))
shallower (signed w) i lt = absurd (omega (arith, lt))
shallower (unsigned w) i lt = absurd (omega (arith, lt))
shallower char i lt = absurd (omega (arith, lt))
shallower string i lt = absurd (omega (arith, lt))
shallower (list t) zero lt = omega arith
shallower (list t) (suc i) lt = absurd (omega (arith, lt))
shallower (fixed_list t n) zero lt = omega arith
shallower (fixed_list t n) (suc i) lt = absurd (omega (arith, lt))
shallower (fields k fs) i lt = let h = field_shallower fs i lt in omega (arith, h)
shallower (cases k cs) i lt = let h = payload_shallower cs i lt in omega (arith, h)
shallower (flags ls) i lt = absurd (omega (arith, lt))
shallower (own r) i lt = absurd (omega (arith, lt))
shallower (borrow r) i lt = absurd (omega (arith, lt))

at_mapped : (types : List Ty) (ps : List ℕ) (i : ℕ) → i < length ps → type_at (map (type_at types) ps) i ≡ type_at types (slice_index ps i)
at_mapped types [] i lt = absurd (omega (arith, lt))
at_mapped types (p ∷ ps) zero lt = refl
at_mapped types (p ∷ ps) (suc i) lt = at_mapped types ps i (omega (arith, lt))

-- ---- the parts of a type at a place, also among more types

module _ (old mid : List Ty) (place : ℕ) (ps : List ℕ) (b : BeginsWith mid old) (there : place < length old) (are : parts_in (type_at mid place) ≡ map (type_at mid) ps) where
  held : parts_in (type_at old place) ≡ map (type_at mid) ps
  held = ap parts_in (sym (at_front old mid place b there)) ∙ are

  pub parts_long : length (parts_in (type_at old place)) ≡ length ps
  parts_long = ap length held ∙ length-map ps (type_at mid)

  pub part_is : (i : ℕ) → i < length ps → type_at mid (slice_index ps i) ≡ type_at (parts_in (type_at old place)) i
  part_is i lt = sym (ap (λ (ts : List Ty). type_at ts i) held ∙ at_mapped mid ps i lt)

  pub part_shallower : (i : ℕ) → i < length ps → depth_of (type_at mid (slice_index ps i)) < depth_of (type_at old place)
  part_shallower i lt =
      let h = shallower (type_at old place) i (omega (arith, lt, parts_long)) in
      let e : depth_of (type_at mid (slice_index ps i)) ≡ depth_of (type_at (parts_in (type_at old place)) i) = ap depth_of (part_is i lt) in
      omega (arith, h, e)

-- a place among the parts is one among them later
pub index_stays : (old mid : List Ty) (place i : ℕ) (before ps : List ℕ) → BeginsWith mid old → place < length old → parts_in (type_at old place) ≡ map (type_at old) before → parts_in (type_at mid place) ≡ map (type_at mid) ps → i < length before → i < length ps
index_stays old mid place i before ps b there was are lt = omega (arith, lt, parts_long old old place before (itself old) there was, parts_long old mid place ps b there are)
