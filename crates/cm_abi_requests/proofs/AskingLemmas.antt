-- Requests, one part after another.
use Rattle.std.proofs.Common.{◌≡◌, ℕ, zero, suc, ◌+◌, ◌*◌, ◌<◌, ◌≤◌, Bool, true, false, List, [], ◌∷◌, ◌++◌, length, map, drop, refl, sym, ap, ◌∙◌, arith, get_or, drop-cons, add-one, Some, None, Option}
use Rattle.std.specs.Prelude.{nat_lt, if◌then◌else◌}
use Rattle.std.proofs.lemmas.List.{append_assoc, append-nil}
use Rattle.cm_types.specs.Types.{Ty, Fields, Cases, bool, signed, unsigned, char, string, list, fixed_list, fields, cases, flags, own, borrow, no_fields, field, no_cases, plain, carrying}
use Rattle.cm_types.specs.Values.{Val, Vals, no_vals, val, truth, signed_number, number, scalar, text, elements, parts, bare, bearing, flag_set, handle, count_of, AllVals, HasType, HaveTypes, IsCarriedCase}
use Rattle.cm_layout.specs.Alignment.{align_to}
use Rattle.cm_layout.specs.Flattening.{flat_of_fields}
use Rattle.cm_layout.specs.Layouts.{nothings, part_of}
use Rattle.cm_layout.specs.Shapes.{LayoutTy, Payloads, cases_shape, head_of, layout_of_fields_at, parts_at, parts_from, payload_before, payloads_from, payloads_of, shape_of_type}
use Rattle.cm_layout.specs.Sizes.{align_of, size_of}
use Rattle.cm_layout.specs.declared.heads.Head.{Head}
use Rattle.cm_layout.specs.declared.layouts.Part.{Part as CodedPart}
use Rattle.cm_types.specs.ValueTrees.{value_of, values_of}
use Rattle.cm_types.specs.declared.values.Value.{Value}
use Rattle.cm_abi_model.specs.declared.encoding.StringEncoding.{StringEncoding}
use Rattle.cm_abi_model.specs.declared.request.Request.{Request}
use Rattle.cm_abi_model.specs.Parts.{Part, text_part, element_part, parts_each, parts_in, parts_in_fields, parts_in_payload}
use Rattle.cm_abi_model.specs.Requests.{chain, read_charset, first_tag, part_align, part_requests, part_sizes, requests, stored_charset, tags_behind, text_bytes, text_sizes, text_units, tuple_of}
use Rattle.cm_abi_model.specs.Taken.{MAX_CONTENT}
use Rattle.cm_abi_model.specs.Texts.{Charset, text_align}
use Rattle.cm_abi_model.specs.Views.{Way, flat_limit}
use Rattle.cm_abi_model.specs.RecordRequests.{first_request}
use Rattle.cm_abi_requests.specs.Asking.{AreSmall, Asking, ask_all, ask_part, content_of_parts, parts_by, parts_by_case, parts_by_fields, parts_by_payload, tuple_request}
use Rattle.cm_layout.proofs.LayoutsLaws.{parts_next}
use Rattle.cm_types.proofs.ValueTreesLaws.{values_next}

abbrev pub asking : List Request → List Bool → Asking
asking rs tags = record { requests = rs; tags = tags }

-- ---- parts one after another

pub asked_behind : (source target : StringEncoding) (ps qs : List Part) (s : Asking) → ask_all source target (ps ++ qs) s ≡ ask_all source target qs (ask_all source target ps s)
asked_behind source target [] qs s = refl
asked_behind source target (p ∷ ps) qs s = asked_behind source target ps qs (ask_part source target p s)

pub small_parts : (source target : StringEncoding) (ps qs : List Part) (s : Asking) → AreSmall source s.tags (ps ++ qs)
    → AreSmall source s.tags ps × AreSmall source (ask_all source target ps s).tags qs
small_parts source target [] qs s all = (tt, all)
small_parts source target (p ∷ ps) qs s all =
    let rest = small_parts source target ps qs (ask_part source target p s) all.1 in
    ((all.0, rest.0), rest.1)

pub requests_asked : (source target : StringEncoding) (ps : List Part) (s : Asking)
    → (ask_all source target ps s).requests ≡ s.requests ++ part_requests source target s.tags ps
requests_asked source target [] s = sym (append-nil s.requests)
requests_asked source target (p ∷ ps) s =
    requests_asked source target ps (ask_part source target p s)
    ∙ append_assoc s.requests (chain (part_align target p) (part_sizes (read_charset source (first_tag s.tags)) (stored_charset target) p)) (part_requests source target (tags_behind p s.tags) ps)

pub small_content : (source : StringEncoding) (tags : List Bool) (ps : List Part) → content_of_parts source tags ps ≤ MAX_CONTENT → AreSmall source tags ps
small_content source tags [] le = tt
small_content source tags (p ∷ ps) le = (omega (arith, le), small_content source (tags_behind p tags) ps (omega (arith, le)))

-- ---- values in a row

-- one more of some parts was asked for
pub turn : (source target : StringEncoding) (head rest : List Part) (s behind total : Asking)
    → behind ≡ ask_all source target head s
    → AreSmall source s.tags (head ++ rest) × (ask_all source target (head ++ rest) s ≡ total)
    → AreSmall source behind.tags rest × (ask_all source target rest behind ≡ total)
turn source target head rest s behind total is so_far =
    rw is ((small_parts source target head rest s so_far.0).1, sym (asked_behind source target head rest s) ∙ so_far.1)

-- another one of some values
pub each_next : (source target : StringEncoding) (P : Val → List Part) (vs : List Value) (i : ℕ) (v : Value) (s total : Asking)
    → i < length vs → v ≡ get_or vs i v
    → AreSmall source s.tags (parts_each P (values_of (drop i vs))) × (ask_all source target (parts_each P (values_of (drop i vs))) s ≡ total)
    → AreSmall source s.tags (P (value_of v) ++ parts_each P (values_of (drop (i + 1) vs)))
    × (ask_all source target (P (value_of v) ++ parts_each P (values_of (drop (i + 1) vs))) s ≡ total)
each_next source target P vs i v s total lt is so_far = rw (values_next vs i v lt is) at so_far

-- another one of some fields
pub fields_next : (source target : StringEncoding) (ps : List CodedPart) (vs : List Value) (i : ℕ) (p : CodedPart) (v : Value) (s total : Asking)
    → i < length ps → p ≡ get_or ps i p → i < length vs → v ≡ get_or vs i v
    → AreSmall source s.tags (parts_by_fields (parts_from (map part_of (drop i ps))) (values_of (drop i vs)))
    × (ask_all source target (parts_by_fields (parts_from (map part_of (drop i ps))) (values_of (drop i vs))) s ≡ total)
    → AreSmall source s.tags (parts_by (part_of p).1.shape (value_of v) ++ parts_by_fields (parts_from (map part_of (drop (i + 1) ps))) (values_of (drop (i + 1) vs)))
    × (ask_all source target (parts_by (part_of p).1.shape (value_of v) ++ parts_by_fields (parts_from (map part_of (drop (i + 1) ps))) (values_of (drop (i + 1) vs))) s ≡ total)
fields_next source target ps vs i p v s total lt is lt_v is_v so_far = rw (parts_next ps i p lt is, values_next vs i v lt_v is_v) at so_far

pub count_values : (vs : List Value) → count_of (values_of vs) ≡ length vs
count_values [] = refl
count_values (v ∷ vs) = let rest = count_values vs in omega (arith, rest)

pub list_part : (vs : List Value) (h : Head) (l : LayoutTy) → l.head ≡ h → element_part (length vs) h.size h.align ≡ element_part (count_of (values_of vs)) l.head.size l.head.align
list_part vs h l is = rw (count_values vs) (ap (λ (k : Head). element_part (length vs) k.size k.align) (sym is))

-- ---- cases

case_before_zero : (o : Option LayoutTy) (ps : Payloads) (v : Val) → parts_by_case (payload_before o ps) zero v ≡ parts_by_payload o v
case_before_zero None ps v = refl
case_before_zero (Some l) ps v = refl

case_before_suc : (o : Option LayoutTy) (ps : Payloads) (n : ℕ) (v : Val) → parts_by_case (payload_before o ps) (suc n) v ≡ parts_by_case ps n v
case_before_suc None ps n v = refl
case_before_suc (Some l) ps n v = refl

pub case_there : {X : Type 0} (f : X → Option LayoutTy) (xs : List X) (n : ℕ) (v : Val) (x : X) → n < length xs → x ≡ get_or xs n x
    → parts_by_case (payloads_from (map f xs)) n v ≡ parts_by_payload (f x) v
case_there f [] n v x lt is = absurd (omega arith)
case_there f (y ∷ xs) zero v x lt is = case_before_zero (f y) (payloads_from (map f xs)) v ∙ ap (λ z. parts_by_payload (f z) v) (sym is)
case_there f (y ∷ xs) (suc n) v x lt is = case_before_suc (f y) (payloads_from (map f xs)) n v ∙ case_there f xs n v x (omega arith) is

pub case_past : {X : Type 0} (f : X → Option LayoutTy) (xs : List X) (n : ℕ) (v : Val) → length xs ≤ n → parts_by_case (payloads_from (map f xs)) n v ≡ []
case_past f [] n v past = refl
case_past f (y ∷ xs) zero v past = absurd (omega arith)
case_past f (y ∷ xs) (suc n) v past = case_before_suc (f y) (payloads_from (map f xs)) n v ∙ case_past f xs n v (omega arith)

-- an enum's cases carry nothing
nothing_carried : (n i : ℕ) (v : Val) → parts_by_case (nothings n) i v ≡ []
nothing_carried zero i v = refl
nothing_carried (suc n) zero v = refl
nothing_carried (suc n) (suc i) v = nothing_carried n i v

pub enum_parts : (d n : ℕ) (v : Val) → parts_by (cases_shape d d (nothings n)) v ≡ []
enum_parts d n (truth b) = refl
enum_parts d n (signed_number z) = refl
enum_parts d n (number m) = refl
enum_parts d n (scalar c) = refl
enum_parts d n (text cs) = refl
enum_parts d n (elements vs) = refl
enum_parts d n (parts vs) = refl
enum_parts d n (bare i) = refl
enum_parts d n (bearing i v) = nothing_carried n i v
enum_parts d n (flag_set m) = refl
enum_parts d n (handle h) = refl

-- ---- tags

pub tag_behind : (tags : List Bool) (n : ℕ) (cs : List ℕ) → n < length tags → drop (n + 1) tags ≡ tags_behind (text_part cs) (drop n tags)
tag_behind tags n cs lt = rw (add-one, drop-cons tags n false lt) refl

-- ---- one part

pub text_asked : (before after : List Request) (tags behind : List Bool) (source target : StringEncoding) (cs : List ℕ) (align units exact : ℕ) (s t : Charset)
    → align ≡ text_align target → s ≡ read_charset source (first_tag tags) → t ≡ stored_charset target
    → units ≡ text_units s cs → exact ≡ length (text_bytes t cs)
    → behind ≡ tags_behind (text_part cs) tags → after ≡ before ++ chain align (text_sizes s t units exact)
    → asking after behind ≡ ask_part source target (text_part cs) (asking before tags)
text_asked before after tags behind source target cs align units exact s t a b c d e f g =
    rw (g, f, e, d, c, b, a) refl

-- ---- the tuple of the types

same_parts_each : (S P : Val → List Part) (Q : Val → Type 0) (vs : Vals) → ((v : Val) → Q v → S v ≡ P v) → AllVals Q vs → parts_each S vs ≡ parts_each P vs
same_parts_each S P Q no_vals one all = refl
same_parts_each S P Q (val v vs) one all = ap (λ ps. ps ++ parts_each S vs) (one v all.0) ∙ ap (λ ps. P v ++ ps) (same_parts_each S P Q vs one all.1)

-- a layout and its type tell the same parts
mutual
  pub same_parts : (t : Ty) (v : Val) → HasType t v → parts_by (shape_of_type t) v ≡ parts_in t v
  same_parts bool (truth b) h = refl
  same_parts (signed w) (signed_number z) h = refl
  same_parts (unsigned w) (number n) h = refl
  same_parts char (scalar c) h = refl
  same_parts string (text cs) h = refl
  same_parts (list t) (elements vs) h =
      ap (λ ps. element_part (count_of vs) (size_of t) (align_of t) ∷ ps) (same_parts_each (parts_by (shape_of_type t)) (parts_in t) (HasType t) vs (same_parts t) h)
  same_parts (fixed_list t n) (parts vs) h = same_parts_each (parts_by (shape_of_type t)) (parts_in t) (HasType t) vs (same_parts t) h.1
  same_parts (fields k fs) (parts vs) h = same_fields fs 0 vs h
  same_parts (cases k cs) (bare i) h = refl
  same_parts (cases k cs) (bearing i v) h = same_case cs i v h
  same_parts (flags ls) (flag_set n) h = refl
  same_parts (own r) (handle e) h = refl
  same_parts (borrow r) (handle e) h = refl
  same_parts _ _ h = absurd h

  pub same_fields : (fs : Fields) (at : ℕ) (vs : Vals) → HaveTypes fs vs → parts_by_fields (parts_from (parts_at fs at)) vs ≡ parts_in_fields fs vs
  same_fields no_fields at vs h = refl
  same_fields (field l t fs) at no_vals h = absurd h
  same_fields (field l t fs) at (val v vs) h =
      ap (λ ps. ps ++ parts_by_fields (parts_from (parts_at fs (align_to (align_of t) at + size_of t))) vs) (same_parts t v h.0)
      ∙ ap (λ ps. parts_in t v ++ ps) (same_fields fs (align_to (align_of t) at + size_of t) vs h.1)

  pub same_case : (cs : Cases) (i : ℕ) (v : Val) → IsCarriedCase cs i v → parts_by_case (payloads_from (payloads_of cs)) i v ≡ parts_in_payload cs i v
  same_case no_cases i v h = absurd h
  same_case (plain l cs) zero v h = absurd h
  same_case (plain l cs) (suc i) v h = same_case cs i v h
  same_case (carrying l t cs) zero v h = same_parts t v h
  same_case (carrying l t cs) (suc i) v h = same_case cs i v h

one_of : (size : ℕ) → 1 * size ≡ size
one_of size = omega arith

spilled_or_not : (source target : StringEncoding) (tags : List Bool) (size align : ℕ) (ps : List Part) (b : Bool)
    → (if b then first_request align size ∷ [] else []) ++ part_requests source target tags ps ≡ part_requests source target tags (if b then element_part 1 size align ∷ ps else ps)
spilled_or_not source target tags size align ps true = rw (one_of size) refl
spilled_or_not source target tags size align ps false = refl

-- the requests for a tuple, and then for its parts, are those of a call
pub all_requests : (source target : StringEncoding) (tags : List Bool) (way : Way) (types : Fields) (v : Val) (limit : ℕ) (rs : List Request) (after : Asking)
    → limit ≡ flat_limit way → HasType (tuple_of types) v → rs ≡ tuple_request (head_of (tuple_of types)) limit
    → after ≡ ask_all source target (parts_by (shape_of_type (tuple_of types)) v) (asking rs tags)
    → after.requests ≡ requests way types v source target tags
all_requests source target tags way types v limit rs after is h tuple done =
    let same = same_parts (tuple_of types) v h in
    let asked = requests_asked source target (parts_by (shape_of_type (tuple_of types)) v) (asking rs tags) in
    rw done (asked ∙ rw (same, tuple, is) (spilled_or_not source target tags (size_of (tuple_of types)) (align_of (tuple_of types)) (parts_in (tuple_of types) v) (nat_lt (flat_limit way) (length (flat_of_fields types)))))

-- what is required of the values of types is so of their layout
pub small_by_layout : (source : StringEncoding) (tags : List Bool) (types : Fields) (v : Val) (l : LayoutTy) → l ≡ layout_of_fields_at types → HasType (tuple_of types) v
    → content_of_parts source tags (parts_in (tuple_of types) v) ≤ MAX_CONTENT → AreSmall source tags (parts_by l.shape v)
small_by_layout source tags types v l is h small =
    rw (is, same_parts (tuple_of types) v h) (small_content source tags (parts_in (tuple_of types) v) small)
