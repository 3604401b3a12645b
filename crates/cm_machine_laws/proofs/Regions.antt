-- Where the bytes of a value that is handed over lie: in the regions that were answered.
use Rattle.std.proofs.Common.{◌≡◌, ℕ, suc, ◌+◌, ◌<◌, ◌⊎◌, inl, inr, Bool, true, false, List, []}
use Rattle.std.proofs.Common.{◌∷◌, ◌++◌, length, refl, sym, ap, subst, ◌∙◌, arith}
use Rattle.std.specs.Prelude.{map, slice_index, if◌then◌else◌}
use Rattle.cm_abi_model.specs.declared.encoding.StringEncoding.{StringEncoding}
use Rattle.cm_abi_model.specs.declared.region.Region.{Region}
use Rattle.cm_abi_model.specs.declared.request.Request.{Request}
use Rattle.cm_abi_model.specs.Answering.{HaveScalars, begins_part, places_of, regions_of}
use Rattle.cm_abi_model.specs.Overlap.{IsInOne}
use Rattle.cm_abi_model.specs.Parts.{Part}
use Rattle.cm_abi_model.specs.Regions.{AllAt, IsIn, IsInPart, part_size}
use Rattle.cm_abi_model.specs.Requests.{HasScalars, chain, first_tag, growths, last_size, part_align}
use Rattle.cm_abi_model.specs.Requests.{part_requests, part_sizes, read_charset, stored_charset}
use Rattle.cm_abi_model.specs.Requests.{tags_behind}
use Rattle.cm_abi_model.specs.Stores.{Framed, Given, IsBeside, Placed, place_of}
use Rattle.cm_abi_model.specs.Texts.{Charset}

-- The last size that is asked for a part is the one that it takes.
abbrev pub EndsExact : Type 0
EndsExact = (source : Charset) (target : StringEncoding) (part : Part) → HasScalars source part
    → last_size (part_sizes source (stored_charset target) part) ≡ part_size target part

-- Some size is asked for each part.
abbrev pub EachAsked : Type 0
EachAsked = (source target : Charset) (part : Part) → 0 < length (part_sizes source target part)

-- these are the places from one on
abbrev Behind : Given → ℕ → List ℕ → Type 0
Behind g k places = (j : ℕ) → place_of g (k + j) ≡ slice_index places j

behind : (g : Given) (k at : ℕ) (places : List ℕ) → Behind g k (at ∷ places)
    → Behind g (k + 1) places
behind g k at places is j =
    subst (λ n. place_of g n ≡ slice_index places j) (let e : k + suc j ≡ k + 1 + j = omega arith in e) (is (suc j))

first : (g : Given) (k at : ℕ) (places : List ℕ) → Behind g k (at ∷ places) → place_of g k ≡ at
first g k at places is =
    subst (λ n. place_of g n ≡ at) (let e : k + 0 ≡ k = omega arith in e) (is 0)

-- requests that begin with a part of its own
abbrev Begins : List Request → Type 0
Begins rs = begins_part rs ≡ true

chain_begins : (align : ℕ) (sizes : List ℕ) (rs : List Request) → 0 < length sizes
    → Begins (chain align sizes ++ rs)
chain_begins align [] rs some = absurd (omega (arith, some))
chain_begins align (size ∷ sizes) rs some = refl

parts_begin : (each : EachAsked) (source target : StringEncoding) (tags : List Bool)
    (parts : List Part) → Begins (part_requests source target tags parts)
parts_begin each source target tags [] = refl
parts_begin each source target tags (part ∷ parts) =
    chain_begins (part_align target part)
    (part_sizes (read_charset source (first_tag tags)) (stored_charset target) part)
    (part_requests source target (tags_behind part tags) parts)
    (each (read_charset source (first_tag tags)) (stored_charset target) part)

-- what a run of requests for one part, of this last size, comes to
record IsOneRegion (size : ℕ) (rs rest : List Request) (answers : List ℕ) : Type 0 where
  at : ℕ
  later : List ℕ
  count : length later ≡ length rest
  regions : regions_of (rs ++ rest) answers
      ≡ record { at = at; size = size } ∷ regions_of rest later

one_more : (b : Bool) (at size : ℕ) (rs : List Region) → b ≡ true
    → (if b then record { at = at; size = size } ∷ rs else rs) ≡ record { at = at; size = size } ∷ rs
one_more true at size rs e = refl
one_more false at size rs e = absurd (differ e) where
  differ : false ≡ true → ⊥
  differ x = cc (x)

-- the requests behind the first of a part, of which this one is there already
run_region : (align old size : ℕ) (r : Request) (sizes : List ℕ) (rest : List Request)
    (answers : List ℕ) → Begins rest → r.size ≡ size
    → length answers ≡ suc (length (growths align old sizes ++ rest))
    → IsOneRegion (last_size (size ∷ sizes)) (r ∷ growths align old sizes) rest answers
run_region align old size r [] rest [] begins is count = absurd (omega (arith, count))
run_region align old size r [] rest (a ∷ answers) begins is count = record {
  at = a;
  later = answers;
  count = omega (arith, count);
  regions = one_more (begins_part rest) a r.size (regions_of rest answers) begins
      ∙ ap (λ (n : ℕ). record { at = a; size = n } ∷ regions_of rest answers) is;
}
run_region align old size r (next ∷ sizes) rest [] begins is count = absurd (omega (arith, count))
run_region align old size r (next ∷ sizes) rest (a ∷ answers) begins is count =
    let more = run_region align next next
    (record { chained = true; old_size = old; align = align; size = next }) sizes rest answers
    begins refl (omega (arith, count)) in
    record { at = more.at; later = more.later; count = more.count; regions = more.regions }

chain_region : (align : ℕ) (sizes : List ℕ) (rest : List Request) (answers : List ℕ)
    → 0 < length sizes → Begins rest → length answers ≡ length (chain align sizes ++ rest)
    → IsOneRegion (last_size sizes) (chain align sizes) rest answers
chain_region align [] rest answers some begins count = absurd (omega (arith, some))
chain_region align (size ∷ sizes) rest answers some begins count =
    run_region align size size
    (record { chained = false; old_size = 0; align = align; size = size }) sizes rest answers
    begins refl (omega (arith, count))

-- an address in a part's region is in one of those that were answered
pub in_answered : (exact : EndsExact) (each : EachAsked) (source target : StringEncoding)
    (tags : List Bool) (parts : List Part) (answers : List ℕ) (g : Given) (k : ℕ)
    → HaveScalars source tags parts
    → length answers ≡ length (part_requests source target tags parts)
    → Behind g k (places_of (part_requests source target tags parts) answers)
    → (a : ℕ) → IsInPart target g k parts a
    → IsInOne (regions_of (part_requests source target tags parts) answers) a
in_answered exact each source target tags [] answers g k scalars count is a here = absurd here
in_answered exact each source target tags (part ∷ parts) answers g k scalars count is a here =
    subst (λ (rs : List Region). IsInOne rs a) (sym one.regions)
    (by (λ later n is_later x. in_answered exact each source target (tags_behind part tags) parts later g (k + 1) scalars.1 n is_later a x) here)
  where
    sizes : List ℕ
    sizes = part_sizes (read_charset source (first_tag tags)) (stored_charset target) part

    rest : List Request
    rest = part_requests source target (tags_behind part tags) parts

    one : IsOneRegion (last_size sizes) (chain (part_align target part) sizes) rest answers
    one = chain_region (part_align target part) sizes rest answers
        (each (read_charset source (first_tag tags)) (stored_charset target) part)
        (parts_begin each source target (tags_behind part tags) parts) count

    placed : Behind g k (one.at ∷ places_of rest one.later)
    placed = subst (λ (rs : List Region). Behind g k (map (λ (r : Region). r.at) rs)) one.regions is

    size : last_size sizes ≡ part_size target part
    size = exact (read_charset source (first_tag tags)) target part scalars.0

    by : ((later : List ℕ) → length later ≡ length rest → Behind g (k + 1) (places_of rest later)
        → IsInPart target g (k + 1) parts a → IsInOne (regions_of rest later) a)
        → IsIn (place_of g k) (part_size target part) a ⊎ IsInPart target g (k + 1) parts a
        → IsIn one.at (last_size sizes) a ⊎ IsInOne (regions_of rest one.later) a
    by go (inl x) = inl (
      omega (arith, x.0, first g k one.at (places_of rest one.later) placed),
      omega (arith, x.1, size, first g k one.at (places_of rest one.later) placed),
    )
    by go (inr x) =
        inr (go one.later one.count (behind g k one.at (places_of rest one.later) placed) x)

-- an address beside all regions is beside all bytes that lie in them
beside : (P : ℕ → Type 0) (bs : List Placed) (a : ℕ) → AllAt P bs → (P a → ⊥) → IsBeside a bs
beside P [] a all not = tt
beside P (b ∷ bs) a all not = ((λ e. not (subst P (sym e) all.0)), beside P bs a all.1 not)

-- so what is changed at the bytes of a value alone is as it was outside the regions
pub outside_stays : (exact : EndsExact) (each : EachAsked) (source target : StringEncoding)
    (tags : List Bool) (parts : List Part) (answers : List ℕ) (g : Given) (bs : List Placed)
    (old new : List ℕ) → HaveScalars source tags parts
    → length answers ≡ length (part_requests source target tags parts)
    → g.places ≡ places_of (part_requests source target tags parts) answers
    → AllAt (IsInPart target g 0 parts) bs → Framed old new bs
    → (a : ℕ) → (IsInOne (regions_of (part_requests source target tags parts) answers) a → ⊥)
    → slice_index new a ≡ slice_index old a
outside_stays exact each source target tags parts answers g bs old new scalars count places all framed a not =
    framed.others_stay a
    (beside (IsInPart target g 0 parts) bs a all
    (λ x. not (in_answered exact each source target tags parts answers g 0 scalars count at a x)))
  where
    at : (j : ℕ) → place_of g (0 + j) ≡ slice_index (places_of (part_requests source target tags parts) answers) j
    at j = ap (λ (n : ℕ). place_of g n) (let e : 0 + j ≡ j = omega arith in e) ∙ ap (λ (ps : List ℕ). slice_index ps j) places
