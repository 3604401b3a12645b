-- Why no more is kept of a value than it has parts and handles.
use Rattle.std.proofs.Common.{◌≡◌, ℕ, zero, suc, ◌+◌, ◌≤◌, Bool, true, false, List, [], ◌∷◌, ◌++◌}
use Rattle.std.proofs.Common.{length, refl, ap, arith}
use Rattle.std.specs.Prelude.{map, not, if◌then◌else◌}
use Rattle.std.proofs.lemmas.List.{length-append, length-map}
use Rattle.cm_types.specs.declared.core_value.CoreValue.{CoreValue}
use Rattle.cm_types.specs.Types.{Ty, Fields, Cases, bool, signed, unsigned, char, string, list}
use Rattle.cm_types.specs.Types.{fixed_list, fields, cases, flags, own, borrow, no_fields, field}
use Rattle.cm_types.specs.Types.{no_cases, plain, carrying}
use Rattle.cm_types.specs.Values.{Val, Vals, no_vals, val, text, elements, parts, bearing, handle}
use Rattle.cm_layout.specs.Alignment.{align_to}
use Rattle.cm_layout.specs.Sizes.{align_of, size_of, payload_offset}
use Rattle.cm_abi_model.specs.declared.encoding.StringEncoding.{StringEncoding}
use Rattle.cm_abi_model.specs.declared.request.Request.{Request}
use Rattle.cm_abi_model.specs.FlatShows.{width_of}
use Rattle.cm_abi_model.specs.Numbers.{number_at, wrapped_at}
use Rattle.cm_abi_model.specs.Parts.{Part, element_part, handle_count, handle_count_each}
use Rattle.cm_abi_model.specs.Parts.{part_count, part_count_each, parts_each, parts_in}
use Rattle.cm_abi_model.specs.Parts.{parts_in_fields, parts_in_payload}
use Rattle.cm_abi_model.specs.Receives.{HandleLeaf, leaves_each, leaves_in, leaves_in_fields}
use Rattle.cm_abi_model.specs.Receives.{leaves_in_payload}
use Rattle.cm_abi_model.specs.Requests.{call_parts, chain, first_tag, growths, is_spilled}
use Rattle.cm_abi_model.specs.Requests.{part_align, part_requests, part_sizes, parts_of}
use Rattle.cm_abi_model.specs.Requests.{read_charset, requests}
use Rattle.cm_abi_model.specs.Requests.{stored_charset, tags_behind, tuple_of}
use Rattle.cm_abi_model.specs.Taken.{Met, content, lent, lent_of, met, met_at, met_each, met_flat}
use Rattle.cm_abi_model.specs.Taken.{met_flat_fields, met_flat_payload, met_in_fields}
use Rattle.cm_abi_model.specs.Taken.{met_in_payload, taken, text_content}
use Rattle.cm_abi_model.specs.Views.{View, Way}
use Rattle.cm_abi_model.specs.Answering.{begins_part, places_of, regions_of}
use Rattle.cm_abi_model.specs.declared.region.Region.{Region}
use Rattle.cm_abi_model.proofs.RequestsLaws.{starts}

-- ---- parts

parts_each_few : (P : Val → List Part) → ((v : Val) → length (P v) ≤ part_count v) → (vs : Vals) → length (parts_each P vs) ≤ part_count_each vs
parts_each_few P one no_vals = omega arith
parts_each_few P one (val v vs) = omega (arith, length-append (P v) (parts_each P vs), one v, parts_each_few P one vs)

text_few : (t : Ty) (cs : List ℕ) → length (parts_in t (text cs)) ≤ 1
text_few bool cs = omega arith
text_few (signed w) cs = omega arith
text_few (unsigned w) cs = omega arith
text_few char cs = omega arith
text_few string cs = omega arith
text_few (list t) cs = omega arith
text_few (fixed_list t n) cs = omega arith
text_few (fields k fs) cs = omega arith
text_few (cases k cs') cs = omega arith
text_few (flags ls) cs = omega arith
text_few (own r) cs = omega arith
text_few (borrow r) cs = omega arith

mutual
  pub parts_few : (t : Ty) (v : Val) → length (parts_in t v) ≤ part_count v
  parts_few (list t) (elements vs) = omega (arith, parts_each_few (parts_in t) (parts_few t) vs)
  parts_few (fixed_list t n) (parts vs) = parts_each_few (parts_in t) (parts_few t) vs
  parts_few (fields k fs) (parts vs) = parts_fields_few fs vs
  parts_few (cases k cs) (bearing i v) = parts_payload_few cs i v
  parts_few t (text cs) = text_few t cs
  parts_few t v = omega arith

  parts_fields_few : (fs : Fields) (vs : Vals) → length (parts_in_fields fs vs) ≤ part_count_each vs
  parts_fields_few no_fields vs = omega arith
  parts_fields_few (field l t fs) no_vals = omega arith
  parts_fields_few (field l t fs) (val v vs) = omega (arith, length-append (parts_in t v) (parts_in_fields fs vs), parts_few t v, parts_fields_few fs vs)

  parts_payload_few : (cs : Cases) (i : ℕ) (v : Val) → length (parts_in_payload cs i v) ≤ part_count v
  parts_payload_few no_cases i v = omega arith
  parts_payload_few (plain l cs) zero v = omega arith
  parts_payload_few (plain l cs) (suc i) v = parts_payload_few cs i v
  parts_payload_few (carrying l t cs) zero v = parts_few t v
  parts_payload_few (carrying l t cs) (suc i) v = parts_payload_few cs i v

-- ---- handles

leaves_each_few : (P : Val → List HandleLeaf) → ((v : Val) → length (P v) ≤ handle_count v) → (vs : Vals) → length (leaves_each P vs) ≤ handle_count_each vs
leaves_each_few P one no_vals = omega arith
leaves_each_few P one (val v vs) = omega (arith, length-append (P v) (leaves_each P vs), one v, leaves_each_few P one vs)

mutual
  pub leaves_few : (t : Ty) (v : Val) → length (leaves_in t v) ≤ handle_count v
  leaves_few (list t) (elements vs) = leaves_each_few (leaves_in t) (leaves_few t) vs
  leaves_few (fixed_list t n) (parts vs) = leaves_each_few (leaves_in t) (leaves_few t) vs
  leaves_few (fields k fs) (parts vs) = leaves_fields_few fs vs
  leaves_few (cases k cs) (bearing i v) = leaves_payload_few cs i v
  leaves_few (own r) (handle h) = omega arith
  leaves_few (borrow r) (handle h) = omega arith
  leaves_few t v = omega arith

  leaves_fields_few : (fs : Fields) (vs : Vals) → length (leaves_in_fields fs vs) ≤ handle_count_each vs
  leaves_fields_few no_fields vs = omega arith
  leaves_fields_few (field l t fs) no_vals = omega arith
  leaves_fields_few (field l t fs) (val v vs) = omega (arith, length-append (leaves_in t v) (leaves_in_fields fs vs), leaves_few t v, leaves_fields_few fs vs)

  leaves_payload_few : (cs : Cases) (i : ℕ) (v : Val) → length (leaves_in_payload cs i v) ≤ handle_count v
  leaves_payload_few no_cases i v = omega arith
  leaves_payload_few (plain l cs) zero v = omega arith
  leaves_payload_few (plain l cs) (suc i) v = leaves_payload_few cs i v
  leaves_payload_few (carrying l t cs) zero v = leaves_few t v
  leaves_payload_few (carrying l t cs) (suc i) v = leaves_payload_few cs i v

-- ---- lends

lent_append : (xs ys : List Met) → length (lent_of (xs ++ ys)) ≡ length (lent_of xs) + length (lent_of ys)
lent_append [] ys = omega arith
lent_append (text_content tags n ∷ xs) ys = lent_append xs ys
lent_append (content n ∷ xs) ys = lent_append xs ys
lent_append (taken i ∷ xs) ys = lent_append xs ys
lent_append (lent i ∷ xs) ys = omega (arith, lent_append xs ys)

lent_each_few : (M : ℕ → Val → List Met) → ((p : ℕ) (v : Val) → length (lent_of (M p v)) ≤ handle_count v) → (size at : ℕ) (vs : Vals) → length (lent_of (met_each M size at vs)) ≤ handle_count_each vs
lent_each_few M one size at no_vals = omega arith
lent_each_few M one size at (val v vs) = omega (arith, lent_append (M at v) (met_each M size (at + size) vs), one at v, lent_each_few M one size (at + size) vs)

module _ (w : View) where
  mutual
    lent_few : (t : Ty) (p : ℕ) (v : Val) → length (lent_of (met_at w t p v)) ≤ handle_count v
    lent_few string p (text cs) = omega arith
    lent_few (list t) p (elements vs) = lent_each_few (met_at w t) (lent_few t) (size_of t) (number_at 4 w.memory p) vs
    lent_few (fixed_list t n) p (parts vs) = lent_each_few (met_at w t) (lent_few t) (size_of t) p vs
    lent_few (fields k fs) p (parts vs) = lent_fields_few fs p 0 vs
    lent_few (cases k cs) p (bearing i v) = lent_payload_few cs (p + payload_offset cs) i v
    lent_few (own r) p (handle h) = omega arith
    lent_few (borrow r) p (handle h) = omega arith
    lent_few t p v = omega arith

    lent_fields_few : (fs : Fields) (p end : ℕ) (vs : Vals) → length (lent_of (met_in_fields w fs p end vs)) ≤ handle_count_each vs
    lent_fields_few no_fields p end vs = omega arith
    lent_fields_few (field l t fs) p end no_vals = omega arith
    lent_fields_few (field l t fs) p end (val v vs) =
        omega (arith, lent_append (met_at w t (p + align_to (align_of t) end) v) (met_in_fields w fs p (align_to (align_of t) end + size_of t) vs), lent_few t (p + align_to (align_of t) end) v, lent_fields_few fs p (align_to (align_of t) end + size_of t) vs)

    lent_payload_few : (cs : Cases) (p i : ℕ) (v : Val) → length (lent_of (met_in_payload w cs p i v)) ≤ handle_count v
    lent_payload_few no_cases p i v = omega arith
    lent_payload_few (plain l cs) p zero v = omega arith
    lent_payload_few (plain l cs) p (suc i) v = lent_payload_few cs p i v
    lent_payload_few (carrying l t cs) p zero v = lent_few t p v
    lent_payload_few (carrying l t cs) p (suc i) v = lent_payload_few cs p i v

  module _ (s : List CoreValue) where
    mutual
      flat_few : (t : Ty) (k : ℕ) (v : Val) → length (lent_of (met_flat w s t k v)) ≤ handle_count v
      flat_few string k (text cs) = omega arith
      flat_few (list t) k (elements vs) = lent_each_few (met_at w t) (lent_few t) (size_of t) (wrapped_at 4 s k) vs
      flat_few (fixed_list t n) k (parts vs) = lent_each_few (met_flat w s t) (flat_few t) (width_of t) k vs
      flat_few (fields f fs) k (parts vs) = flat_fields_few fs k vs
      flat_few (cases c cs) k (bearing i v) = flat_payload_few cs (k + 1) i v
      flat_few (own r) k (handle h) = omega arith
      flat_few (borrow r) k (handle h) = omega arith
      flat_few t k v = omega arith

      flat_fields_few : (fs : Fields) (k : ℕ) (vs : Vals) → length (lent_of (met_flat_fields w s fs k vs)) ≤ handle_count_each vs
      flat_fields_few no_fields k vs = omega arith
      flat_fields_few (field l t fs) k no_vals = omega arith
      flat_fields_few (field l t fs) k (val v vs) =
          omega (arith, lent_append (met_flat w s t k v) (met_flat_fields w s fs (k + width_of t) vs), flat_few t k v, flat_fields_few fs (k + width_of t) vs)

      flat_payload_few : (cs : Cases) (k i : ℕ) (v : Val) → length (lent_of (met_flat_payload w s cs k i v)) ≤ handle_count v
      flat_payload_few no_cases k i v = omega arith
      flat_payload_few (plain l cs) k zero v = omega arith
      flat_payload_few (plain l cs) k (suc i) v = flat_payload_few cs k i v
      flat_payload_few (carrying l t cs) k zero v = flat_few t k v
      flat_payload_few (carrying l t cs) k (suc i) v = flat_payload_few cs k i v

  pub met_few : (way : Way) (types : Fields) (slots : List CoreValue) (v : Val) → length (lent_of (met w way types slots v)) ≤ parts_of way types v
  met_few way types slots v = by (is_spilled way types) where
    by : (b : Bool) → length (lent_of (if b then met_at w (tuple_of types) (wrapped_at 4 slots 0) v else met_flat w slots (tuple_of types) 0 v)) ≤ (if b then 1 else 0) + part_count v + handle_count v
    by true = omega (arith, lent_few (tuple_of types) (wrapped_at 4 slots 0) v)
    by false = omega (arith, flat_few slots (tuple_of types) 0 v)

-- ---- records and places

pub call_few : (way : Way) (types : Fields) (v : Val) → length (call_parts way types v) + length (leaves_in (tuple_of types) v) ≤ parts_of way types v
call_few way types v = by (is_spilled way types) where
  by : (b : Bool) → length (if b then element_part 1 (size_of (tuple_of types)) (align_of (tuple_of types)) ∷ parts_in (tuple_of types) v else parts_in (tuple_of types) v) + length (leaves_in (tuple_of types) v)
      ≤ (if b then 1 else 0) + part_count v + handle_count v
  by true = omega (arith, parts_few (tuple_of types) v, leaves_few (tuple_of types) v)
  by false = omega (arith, parts_few (tuple_of types) v, leaves_few (tuple_of types) v)

-- requests that begin a part
abbrev begins : List Request → ℕ
begins [] = 0
begins (r ∷ rs) = (if r.chained then 0 else 1) + begins rs

begins_append : (xs ys : List Request) → begins (xs ++ ys) ≡ begins xs + begins ys
begins_append [] ys = omega arith
begins_append (r ∷ xs) ys = omega (arith, begins_append xs ys)

growths_begin : (align old : ℕ) (sizes : List ℕ) → begins (growths align old sizes) ≡ 0
growths_begin align old [] = refl
growths_begin align old (size ∷ sizes) = omega (arith, growths_begin align size sizes)

chain_begins : (align : ℕ) (sizes : List ℕ) → begins (chain align sizes) ≤ 1
chain_begins align [] = omega arith
chain_begins align (size ∷ sizes) = omega (arith, growths_begin align size sizes)

part_begins : (source target : StringEncoding) (tags : List Bool) (ps : List Part) → begins (part_requests source target tags ps) ≤ length ps
part_begins source target tags [] = omega arith
part_begins source target tags (p ∷ ps) =
    omega (
      arith,
      begins_append (chain (part_align target p) (part_sizes (read_charset source (first_tag tags)) (stored_charset target) p)) (part_requests source target (tags_behind p tags) ps),
      chain_begins (part_align target p) (part_sizes (read_charset source (first_tag tags)) (stored_charset target) p),
      part_begins source target (tags_behind p tags) ps,
    )

-- a region ends where a request begins a part, or the requests end: so there are no more regions
-- than parts begun
regions_few : (rs : List Request) (answers : List ℕ) → length (regions_of rs answers) ≤ begins rs + (if begins_part rs then 0 else 1)
regions_few [] answers = omega arith
regions_few (r ∷ rs) [] = omega arith
regions_few (r ∷ rs) (a ∷ answers) = by (begins_part rs) (r.chained) (regions_few rs answers) where
  by : (b c : Bool) → length (regions_of rs answers) ≤ begins rs + (if b then 0 else 1)
      → length (if b then record { at = a; size = r.size } ∷ regions_of rs answers else regions_of rs answers) ≤ ((if c then 0 else 1) + begins rs) + (if not c then 0 else 1)
  by true true x = omega (arith, x)
  by true false x = omega (arith, x)
  by false true x = omega (arith, x)
  by false false x = omega (arith, x)

pub places_few : (way : Way) (types : Fields) (v : Val) (source target : StringEncoding) (tags : List Bool) (answers : List ℕ)
    → length (places_of (requests way types v source target tags) answers) ≤ length (call_parts way types v)
places_few way types v source target tags answers =
    let rs = part_requests source target tags (call_parts way types v) in
    let ends : ◌≡◌ {A = ℕ} (if begins_part rs then 0 else 1) 0 = ap (λ (b : Bool). if b then 0 else 1) (starts source target tags (call_parts way types v)) in
    omega (arith, length-map (regions_of rs answers) (λ (r : Region). r.at), regions_few rs answers, part_begins source target tags (call_parts way types v), ends)
