-- Where no answer has a fault, the parts are placed.
use Rattle.std.proofs.Common.{◌≡◌, ℕ, zero, suc, ◌+◌, ◌/◌, ◌%◌, ◌≤◌, Bool, true, false, List, [], ◌∷◌, ◌++◌, length, drop, refl, sym, ap, subst, ◌∙◌, arith, add-one, map, Some, None, inl, inr, ◌↔◌}
use Rattle.std.proofs.Math.Nat.{div-add-mod, mul_comm}
use Rattle.std.proofs.lemmas.Bool.{eqb-true, ltb-false}
use Rattle.std.specs.Prelude.{not, nat_lt, slice_index, if◌then◌else◌, ◌==◌}
use Rattle.cm_abi_model.specs.declared.encoding.StringEncoding.{StringEncoding}
use Rattle.cm_abi_model.specs.declared.fault.AbiFault.TheVariants as fault
use Rattle.cm_abi_model.specs.declared.request.Request.{Request}
use Rattle.cm_abi_model.specs.Parts.{Part}
use Rattle.cm_abi_model.specs.Regions.{AreApart, ArePlaced, IsInPart, IsPlaced, part_size}
use Rattle.cm_abi_model.specs.Requests.{HasScalars, IsStored, chain, read_charset, first_tag, growths, last_size, part_align, part_requests, part_sizes, stored_charset, tags_behind}
use Rattle.cm_abi_model.specs.Stores.{Given, place_of}
use Rattle.cm_abi_model.specs.Texts.{Charset, IsAligned}
use Rattle.cm_abi_model.specs.Answering.{AreCounted, HaveScalars, begins_part, first_fault, places_of, regions_of}
use Rattle.cm_abi_model.specs.Overlap.{AreDisjoint, IsInOne}
use Rattle.cm_abi_model.specs.declared.region.Region.{Region}
use Rattle.cm_abi_model.proofs.AnsweringLaws.{before_one}
use Rattle.cm_abi_model.proofs.FaultLaws.{choice}
use Rattle.cm_abi_model.proofs.RequestsLaws.{sizes_some, starts}

-- ---- one answer

abbrev IsFine : ℕ → ℕ → ℕ → ℕ → Type 0
IsFine n align size at = (if not (at % align == 0) then Some fault.Misaligned else (if nat_lt n (at + size) then Some fault.PointerBounds else None)) ≡ None

multiple : (align at : ℕ) → at % align ≡ 0 → IsAligned align at
multiple align at z = (at / align, omega (arith, z, div-add-mod at align, mul_comm align (at / align)))

fine_is : (n align size at : ℕ) → IsFine n align size at → IsAligned align at × (at + size ≤ n)
fine_is n align size at h =
    let both = choice (at % align == 0) (nat_lt n (at + size)) h in
    (multiple align at (eqb-true (at % align) 0 both.0), ltb-false n (at + size) both.1)

-- ---- the answers for one part

record PartAnswered (n align size : ℕ) (rest : List Request) (regions : List Region) (Fine : Type 0) : Type 0 where
  pub at : ℕ
  pub behind : List ℕ
  pub are : regions ≡ record { at = at; size = size } ∷ regions_of rest behind
  pub fine : Fine → IsFine n align size at × (first_fault n rest behind ≡ None)
  pub counted : length behind ≡ length rest

one_part : (n align : ℕ) (r : Request) (sizes : List ℕ) (rest : List Request) (answers : List ℕ) → r.align ≡ align → begins_part rest ≡ true
    → length answers ≡ length (r ∷ (growths align r.size sizes ++ rest))
    → PartAnswered n align (last_size (r.size ∷ sizes)) rest (regions_of (r ∷ (growths align r.size sizes ++ rest)) answers) (first_fault n (r ∷ (growths align r.size sizes ++ rest)) answers ≡ None)
one_part n align r sizes rest [] al st len = absurd (cc)
one_part n align r [] rest (a ∷ as') al st len =
    record {
      at = a;
      behind = as';
      are = rw st refl;
      fine = λ ok. let both = before_one _ _ ok in (subst (λ x. IsFine n x r.size a) al both.0, both.1);
      counted = omega (arith, len);
    }
one_part n align r (s ∷ ss) rest (a ∷ as') al st len =
    let more = one_part n align (record { chained = true; old_size = r.size; align = align; size = s }) ss rest as' refl st (omega (arith, len)) in
    record { at = more.at; behind = more.behind; are = more.are; fine = λ ok. more.fine (before_one _ _ ok).1; counted = more.counted }

-- ---- each part is asked for

-- ---- all parts

at_front : (xs ys : List ℕ) (k a : ℕ) → drop k xs ≡ a ∷ ys → (slice_index xs k ≡ a) × (drop (suc k) xs ≡ ys)
at_front [] ys zero a h = absurd (cc)
at_front [] ys (suc k) a h = absurd (cc)
at_front (x ∷ xs) ys zero a h = (cc, cc)
at_front (x ∷ xs) ys (suc k) a h = at_front xs ys k a h

-- the last size that is asked for a part is its size
abbrev Exact : Type 0
Exact = (s : Charset) (t : StringEncoding) (p : Part) → HasScalars s p → last_size (part_sizes s (stored_charset t) p) ≡ part_size t p

-- the answers for the first part, and for the others
record FirstAnswered (n align size : ℕ) (rest : List Request) (requests : List Request) (answers places : List ℕ) (k : ℕ) : Type 0 where
  pub at : ℕ
  pub behind : List ℕ
  pub are : regions_of requests answers ≡ record { at = at; size = size } ∷ regions_of rest behind
  pub fine : first_fault n requests answers ≡ None → IsFine n align size at × (first_fault n rest behind ≡ None)
  pub counted : length behind ≡ length rest
  pub here : slice_index places k ≡ at
  pub later : drop (k + 1) places ≡ places_of rest behind

first_part : Exact → (source target : StringEncoding) (tags : List Bool) (p : Part) (ps : List Part) (answers places : List ℕ) (n k : ℕ)
    → HasScalars (read_charset source (first_tag tags)) p
    → length answers ≡ length (part_requests source target tags (p ∷ ps))
    → drop k places ≡ places_of (part_requests source target tags (p ∷ ps)) answers
    → FirstAnswered n (part_align target p) (part_size target p) (part_requests source target (tags_behind p tags) ps) (part_requests source target tags (p ∷ ps)) answers places k
first_part exact source target tags p ps answers places n k has len is =
    let some = sizes_some (read_charset source (first_tag tags)) (stored_charset target) p in
    let rest = part_requests source target (tags_behind p tags) ps in
    let first_is : chain (part_align target p) (part_sizes (read_charset source (first_tag tags)) (stored_charset target) p) ≡ chain (part_align target p) (some.0 ∷ some.1.0) = ap (λ ss. chain (part_align target p) ss) some.1.1 in
    let one = one_part n (part_align target p) (record { chained = false; old_size = 0; align = part_align target p; size = some.0 }) some.1.0 rest answers refl
    (starts source target (tags_behind p tags) ps) (len ∙ ap (λ c. length (c ++ rest)) first_is) in
    let size_is : last_size (some.0 ∷ some.1.0) ≡ part_size target p = ap last_size (sym some.1.1) ∙ exact (read_charset source (first_tag tags)) target p has in
    let regions_are : regions_of (part_requests source target tags (p ∷ ps)) answers ≡ record { at = one.at; size = part_size target p } ∷ regions_of rest one.behind =
    ap (λ c. regions_of (c ++ rest) answers) first_is ∙ (one.are ∙ ap (λ size. record { at = one.at; size = size } ∷ regions_of rest one.behind) size_is) in
    let front = at_front places _ k one.at (is ∙ ap (λ rs. map (λ (r : Region). r.at) rs) regions_are) in
    record {
      at = one.at;
      behind = one.behind;
      are = regions_are;
      fine = λ ok. subst (λ size. IsFine n (part_align target p) size one.at × (first_fault n rest one.behind ≡ None)) size_is (one.fine (ap (λ c. first_fault n (c ++ rest) answers) (sym first_is) ∙ ok));
      counted = one.counted;
      here = front.0;
      later = rw add-one front.1;
    }

pub parts_placed : Exact → (source target : StringEncoding) (tags : List Bool) (parts : List Part) (answers : List ℕ) (n k : ℕ) (g : Given)
    → HaveScalars source tags parts → AreCounted parts
    → length answers ≡ length (part_requests source target tags parts)
    → first_fault n (part_requests source target tags parts) answers ≡ None
    → drop k g.places ≡ places_of (part_requests source target tags parts) answers
    → ArePlaced target n g k parts
parts_placed exact source target tags [] answers n k g has counted len ok is = tt
parts_placed exact source target tags (p ∷ ps) answers n k g has counted len ok is =
    let one = first_part exact source target tags p ps answers g.places n k has.0 len is in
    let good = one.fine ok in
    let fine = fine_is n (part_align target p) (part_size target p) one.at good.0 in (
      subst (λ at. IsPlaced target n at p) (sym one.here) (record { aligned = fine.0; inside = fine.1; counted = counted.0 }),
      parts_placed exact source target (tags_behind p tags) ps one.behind n (k + 1) g has.1 counted.1 one.counted good.1 one.later,
    )

-- ---- regions

-- the regions of parts at their places
abbrev regions_at : StringEncoding → Given → ℕ → List Part → List Region
regions_at target g k [] = []
regions_at target g k (p ∷ ps) = record { at = place_of g k; size = part_size target p } ∷ regions_at target g (k + 1) ps

regions_are : Exact → (source target : StringEncoding) (tags : List Bool) (parts : List Part) (answers : List ℕ) (k : ℕ) (g : Given)
    → HaveScalars source tags parts
    → length answers ≡ length (part_requests source target tags parts)
    → drop k g.places ≡ places_of (part_requests source target tags parts) answers
    → regions_of (part_requests source target tags parts) answers ≡ regions_at target g k parts
regions_are exact source target tags [] answers k g has len is = refl
regions_are exact source target tags (p ∷ ps) answers k g has len is =
    let one = first_part exact source target tags p ps answers g.places 0 k has.0 len is in
    let rest = regions_are exact source target (tags_behind p tags) ps one.behind (k + 1) g has.1 one.counted one.later in
    one.are ∙ (ap (λ at. record { at = at; size = part_size target p } ∷ regions_of (part_requests source target (tags_behind p tags) ps) one.behind) (sym one.here)
    ∙ ap (λ rs. record { at = place_of g k; size = part_size target p } ∷ rs) rest)

in_part : (target : StringEncoding) (g : Given) (k : ℕ) (ps : List Part) (a : ℕ) → IsInOne (regions_at target g k ps) a → IsInPart target g k ps a
in_part target g k [] a h = h
in_part target g k (p ∷ ps) a h = elim h [ inl here ↦ inl here | inr later ↦ inr (in_part target g (k + 1) ps a later) ]

in_region : (target : StringEncoding) (g : Given) (k : ℕ) (ps : List Part) (a : ℕ) → IsInPart target g k ps a → IsInOne (regions_at target g k ps) a
in_region target g k [] a h = h
in_region target g k (p ∷ ps) a h = elim h [ inl here ↦ inl here | inr later ↦ inr (in_region target g (k + 1) ps a later) ]

apart_from : (target : StringEncoding) (g : Given) (k : ℕ) (ps : List Part) → AreDisjoint (regions_at target g k ps) → AreApart target g k ps
apart_from target g k [] h = tt
apart_from target g k (p ∷ ps) h = ((λ a here later. h.0 a here (in_region target g (k + 1) ps a later)), apart_from target g (k + 1) ps h.1)

apart_to : (target : StringEncoding) (g : Given) (k : ℕ) (ps : List Part) → AreApart target g k ps → AreDisjoint (regions_at target g k ps)
apart_to target g k [] h = tt
apart_to target g k (p ∷ ps) h = ((λ a here later. h.0 a here (in_part target g (k + 1) ps a later)), apart_to target g (k + 1) ps h.1)

pub parts_apart : Exact → (source target : StringEncoding) (tags : List Bool) (parts : List Part) (answers : List ℕ) (g : Given)
    → HaveScalars source tags parts
    → length answers ≡ length (part_requests source target tags parts)
    → g.places ≡ places_of (part_requests source target tags parts) answers
    → AreDisjoint (regions_of (part_requests source target tags parts) answers) ↔ AreApart target g 0 parts
parts_apart exact source target tags parts answers g has len is =
    let are = regions_are exact source target tags parts answers 0 g has len is in
    ((λ h. apart_from target g 0 parts (subst AreDisjoint are h)), (λ h. subst AreDisjoint (sym are) (apart_to target g 0 parts h)))
