-- How many parts and handles a value has, and how many places and numbers they are given.
use Rattle.std.proofs.Common.{◌≡◌, ℕ, zero, suc, Bool, true, false, List, [], ◌∷◌, ◌++◌, length, map, refl, ap, ◌∙◌, arith}
use Rattle.std.proofs.lemmas.List.{length-append}
use Rattle.cm_types.specs.Types.{Ty, Fields, Cases, bool, signed, unsigned, char, string, list, fixed_list, fields, cases, flags, own, borrow, no_fields, field, no_cases, plain, carrying}
use Rattle.cm_types.specs.Values.{Val, Vals, no_vals, val, truth, signed_number, number, scalar, text, elements, parts, bare, bearing, flag_set, handle, AllVals, HasType, HaveTypes, IsCarriedCase}
use Rattle.cm_abi_model.specs.declared.encoding.StringEncoding.{StringEncoding}
use Rattle.cm_abi_model.specs.declared.request.Request.{Request}
use Rattle.cm_abi_model.specs.Parts.{Part, handle_count, handle_count_each}
use Rattle.cm_abi_model.specs.Receives.{leaves_each, leaves_in, leaves_in_fields, leaves_in_payload}
use Rattle.cm_abi_model.specs.Requests.{chain, read_charset, first_tag, growths, part_align, part_requests, part_sizes, stored_charset, tags_behind}
use Rattle.cm_abi_model.specs.Answering.{begins_part, places_of, regions_of}
use Rattle.cm_abi_model.specs.declared.region.Region.{Region}
use Rattle.cm_lemmas.proofs.Lists.{Some1}
use Rattle.cm_abi_model.proofs.RequestsLaws.{sizes_some, starts}

-- ---- handles

counted_each : (t : Ty) → ((v : Val) → HasType t v → length (leaves_in t v) ≡ handle_count v) → (vs : Vals) → AllVals (HasType t) vs
    → length (leaves_each (leaves_in t) vs) ≡ handle_count_each vs
counted_each t one no_vals typed = refl
counted_each t one (val v vs) typed =
    omega (arith, length-append (leaves_in t v) (leaves_each (leaves_in t) vs), one v typed.0, counted_each t one vs typed.1)

mutual
  pub handles_counted : (t : Ty) (v : Val) → HasType t v → length (leaves_in t v) ≡ handle_count v
  handles_counted bool (truth b) h = refl
  handles_counted (signed w) (signed_number z) h = refl
  handles_counted (unsigned w) (number n) h = refl
  handles_counted char (scalar c) h = refl
  handles_counted string (text cs) h = refl
  handles_counted (list t) (elements vs) h = counted_each t (handles_counted t) vs h
  handles_counted (fixed_list t n) (parts vs) h = counted_each t (handles_counted t) vs h.1
  handles_counted (fields k fs) (parts vs) h = counted_fields fs vs h
  handles_counted (cases k cs) (bare i) h = refl
  handles_counted (cases k cs) (bearing i v) h = counted_payload cs i v h
  handles_counted (flags ls) (flag_set n) h = refl
  handles_counted (own r) (handle h) is = refl
  handles_counted (borrow r) (handle h) is = refl
  handles_counted t v h = absurd h

  counted_fields : (fs : Fields) (vs : Vals) → HaveTypes fs vs → length (leaves_in_fields fs vs) ≡ handle_count_each vs
  counted_fields no_fields no_vals h = refl
  counted_fields no_fields (val v vs) h = absurd h
  counted_fields (field l t fs) no_vals h = absurd h
  counted_fields (field l t fs) (val v vs) h =
      omega (arith, length-append (leaves_in t v) (leaves_in_fields fs vs), handles_counted t v h.0, counted_fields fs vs h.1)

  counted_payload : (cs : Cases) (i : ℕ) (v : Val) → IsCarriedCase cs i v → length (leaves_in_payload cs i v) ≡ handle_count v
  counted_payload no_cases i v h = absurd h
  counted_payload (plain l cs) zero v h = absurd h
  counted_payload (plain l cs) (suc i) v h = counted_payload cs i v h
  counted_payload (carrying l t cs) zero v h = handles_counted t v h
  counted_payload (carrying l t cs) (suc i) v h = counted_payload cs i v h

-- ---- parts

length_map : (rs : List Region) → length (map (λ (r : Region). r.at) rs) ≡ length rs
length_map [] = refl
length_map (r ∷ rs) = ap suc (length_map rs)

-- the answers behind those for one part
record PartAnswered (rest : List Request) (regions : List Region) : Type 0 where
  pub behind : List ℕ
  pub are : length regions ≡ suc (length (regions_of rest behind))
  pub counted : length behind ≡ length rest

one_part : (align : ℕ) (r : Request) (sizes : List ℕ) (rest : List Request) (answers : List ℕ) → begins_part rest ≡ true
    → length answers ≡ length (r ∷ (growths align r.size sizes ++ rest)) → PartAnswered rest (regions_of (r ∷ (growths align r.size sizes ++ rest)) answers)
one_part align r sizes rest [] st len = absurd (cc)
one_part align r [] rest (a ∷ as') st len = record { behind = as'; are = rw st refl; counted = omega (arith, len) }
one_part align r (s ∷ ss) rest (a ∷ as') st len =
    let more = one_part align (record { chained = true; old_size = r.size; align = align; size = s }) ss rest as' st (omega (arith, len)) in
    record { behind = more.behind; are = more.are; counted = more.counted }

one_chain : (align : ℕ) (sizes : List ℕ) (rest : List Request) (answers : List ℕ) → Some1 sizes → begins_part rest ≡ true
    → length answers ≡ length (chain align sizes ++ rest) → PartAnswered rest (regions_of (chain align sizes ++ rest) answers)
one_chain align [] rest answers some st len = absurd (cc (some.1.1))
one_chain align (x ∷ xs) rest answers some st len = one_part align (record { chained = false; old_size = 0; align = align; size = x }) xs rest answers st len

regions_counted : (source target : StringEncoding) (tags : List Bool) (ps : List Part) (answers : List ℕ) → length answers ≡ length (part_requests source target tags ps)
    → length (regions_of (part_requests source target tags ps) answers) ≡ length ps
regions_counted source target tags [] answers len = refl
regions_counted source target tags (p ∷ ps) answers len =
    let sizes = part_sizes (read_charset source (first_tag tags)) (stored_charset target) p in
    let rest = part_requests source target (tags_behind p tags) ps in
    let first = one_chain (part_align target p) sizes rest answers (sizes_some (read_charset source (first_tag tags)) (stored_charset target) p) (starts source target (tags_behind p tags) ps) len in
    first.are ∙ ap suc (regions_counted source target (tags_behind p tags) ps first.behind first.counted)

pub places_counted : (source target : StringEncoding) (tags : List Bool) (ps : List Part) (answers : List ℕ) → length answers ≡ length (part_requests source target tags ps)
    → length (places_of (part_requests source target tags ps) answers) ≡ length ps
places_counted source target tags ps answers len = length_map (regions_of (part_requests source target tags ps) answers) ∙ regions_counted source target tags ps answers len
