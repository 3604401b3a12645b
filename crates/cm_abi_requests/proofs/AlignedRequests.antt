-- Each request has an alignment, since each type has one.
use Rattle.std.proofs.Common.{◌≡◌, ℕ, zero, suc, ◌<◌, Bool, true, false, List, [], ◌∷◌, ◌++◌, length, arith, sym, subst}
use Rattle.std.specs.Prelude.{max, nat_le, if◌then◌else◌}
use Rattle.cm_types.specs.Types.{Ty, Fields, Cases, bool, signed, unsigned, char, string, list, fixed_list, fields, cases, flags, own, borrow, no_fields, field, no_cases, plain, carrying}
use Rattle.cm_types.specs.Values.{Val, Vals, no_vals, val, truth, signed_number, number, scalar, text, elements, parts, bare, bearing, flag_set, handle, AllVals, HasType, HaveTypes, IsCarriedCase}
use Rattle.cm_layout.specs.Sizes.{align_of, align_of_fields, align_of_payloads, case_count, discriminant_size, size_of}
use Rattle.cm_abi_model.specs.declared.encoding.StringEncoding.{StringEncoding}
use Rattle.cm_abi_model.specs.declared.request.Request.{Request}
use Rattle.cm_abi_model.specs.Parts.{Part, element_part, parts_each, parts_in, parts_in_fields, parts_in_payload}
use Rattle.cm_abi_model.specs.Requests.{call_parts, chain, read_charset, first_tag, growths, is_spilled, part_align, part_requests, part_sizes, requests, stored_charset, tags_behind, tuple_of}
use Rattle.cm_abi_model.specs.Views.{Way}
use Rattle.cm_abi_model.specs.Answering.{AreAligned}
use Rattle.cm_lemmas.proofs.Bools.{picked_pos}
use Rattle.cm_abi_model.proofs.TextsLaws.{text_some}
use Rattle.cm_types.proofs.TypesLaws.{width_pos}

-- ---- types

max_some : (m n : ℕ) → 0 < m → 0 < max m n
max_some m n some = omega arith

mutual
  pub type_some : (t : Ty) → 0 < align_of t
  type_some bool = omega arith
  type_some (signed w) = width_pos w
  type_some (unsigned w) = width_pos w
  type_some char = omega arith
  type_some string = omega arith
  type_some (list t) = omega arith
  type_some (fixed_list t n) = type_some t
  type_some (fields k fs) = fields_some fs
  type_some (cases k cs) = max_some (discriminant_size (case_count cs)) (align_of_payloads cs) (picked_pos (nat_le (case_count cs) 256) (nat_le (case_count cs) 65536))
  type_some (flags ls) = picked_pos (nat_le (length ls) 8) (nat_le (length ls) 16)
  type_some (own r) = omega arith
  type_some (borrow r) = omega arith

  pub fields_some : (fs : Fields) → 0 < align_of_fields fs
  fields_some no_fields = omega arith
  fields_some (field l t fs) = max_some (align_of t) (align_of_fields fs) (type_some t)

-- ---- parts

abbrev HaveAlignments : StringEncoding → List Part → Type 0
HaveAlignments e [] = Unit {0}
HaveAlignments e (p ∷ ps) = (0 < part_align e p) × HaveAlignments e ps

both : (e : StringEncoding) (ps qs : List Part) → HaveAlignments e ps → HaveAlignments e qs → HaveAlignments e (ps ++ qs)
both e [] qs h k = k
both e (p ∷ ps) qs h k = (h.0, both e ps qs h.1 k)

each_some : (e : StringEncoding) (P : Val → List Part) (Q : Val → Type 0) (vs : Vals) → ((v : Val) → Q v → HaveAlignments e (P v)) → AllVals Q vs → HaveAlignments e (parts_each P vs)
each_some e P Q no_vals one all = tt
each_some e P Q (val v vs) one all = both e (P v) (parts_each P vs) (one v all.0) (each_some e P Q vs one all.1)

mutual
  value_some : (e : StringEncoding) (t : Ty) (v : Val) → HasType t v → HaveAlignments e (parts_in t v)
  value_some e bool (truth b) h = tt
  value_some e (signed w) (signed_number z) h = tt
  value_some e (unsigned w) (number n) h = tt
  value_some e char (scalar c) h = tt
  value_some e string (text cs) h = (text_some e, tt)
  value_some e (list t) (elements vs) h = (type_some t, each_some e (parts_in t) (HasType t) vs (value_some e t) h)
  value_some e (fixed_list t n) (parts vs) h = each_some e (parts_in t) (HasType t) vs (value_some e t) h.1
  value_some e (fields k fs) (parts vs) h = values_some e fs vs h
  value_some e (cases k cs) (bare i) h = tt
  value_some e (cases k cs) (bearing i v) h = case_some e cs i v h
  value_some e (flags ls) (flag_set n) h = tt
  value_some e (own r) (handle x) h = tt
  value_some e (borrow r) (handle x) h = tt
  value_some e _ _ h = absurd h

  values_some : (e : StringEncoding) (fs : Fields) (vs : Vals) → HaveTypes fs vs → HaveAlignments e (parts_in_fields fs vs)
  values_some e no_fields vs h = tt
  values_some e (field l t fs) no_vals h = absurd h
  values_some e (field l t fs) (val v vs) h = both e (parts_in t v) (parts_in_fields fs vs) (value_some e t v h.0) (values_some e fs vs h.1)

  case_some : (e : StringEncoding) (cs : Cases) (i : ℕ) (v : Val) → IsCarriedCase cs i v → HaveAlignments e (parts_in_payload cs i v)
  case_some e no_cases i v h = absurd h
  case_some e (plain l cs) zero v h = absurd h
  case_some e (plain l cs) (suc i) v h = case_some e cs i v h
  case_some e (carrying l t cs) zero v h = value_some e t v h
  case_some e (carrying l t cs) (suc i) v h = case_some e cs i v h

tuple_some : (e : StringEncoding) (size align : ℕ) (ps : List Part) (b : Bool) → 0 < align → HaveAlignments e ps → HaveAlignments e (if b then element_part 1 size align ∷ ps else ps)
tuple_some e size align ps true some h = (some, h)
tuple_some e size align ps false some h = h

-- ---- requests

growths_aligned : (align old : ℕ) (sizes : List ℕ) → 0 < align → AreAligned (growths align old sizes)
growths_aligned align old [] some = tt
growths_aligned align old (size ∷ sizes) some = (some, growths_aligned align size sizes some)

chain_aligned : (align : ℕ) (sizes : List ℕ) → 0 < align → AreAligned (chain align sizes)
chain_aligned align [] some = tt
chain_aligned align (size ∷ sizes) some = (some, growths_aligned align size sizes some)

aligned_both : (rs qs : List Request) → AreAligned rs → AreAligned qs → AreAligned (rs ++ qs)
aligned_both [] qs h k = k
aligned_both (r ∷ rs) qs h k = (h.0, aligned_both rs qs h.1 k)

parts_aligned : (source target : StringEncoding) (tags : List Bool) (ps : List Part) → HaveAlignments target ps → AreAligned (part_requests source target tags ps)
parts_aligned source target tags [] h = tt
parts_aligned source target tags (p ∷ ps) h =
    aligned_both (chain (part_align target p) (part_sizes (read_charset source (first_tag tags)) (stored_charset target) p)) (part_requests source target (tags_behind p tags) ps)
    (chain_aligned (part_align target p) (part_sizes (read_charset source (first_tag tags)) (stored_charset target) p) h.0) (parts_aligned source target (tags_behind p tags) ps h.1)

-- those of a call
pub requests_aligned : (way : Way) (types : Fields) (v : Val) (source target : StringEncoding) (tags : List Bool) (rs : List Request)
    → HasType (tuple_of types) v → rs ≡ requests way types v source target tags → AreAligned rs
requests_aligned way types v source target tags rs h is =
    subst AreAligned (sym is) (parts_aligned source target tags (call_parts way types v)
    (tuple_some target (size_of (tuple_of types)) (align_of (tuple_of types)) (parts_in (tuple_of types) v) (is_spilled way types) (type_some (tuple_of types)) (value_some target (tuple_of types) v h)))
