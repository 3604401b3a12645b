-- The content of the parts of a value is that which is met where core values pass it.
use Rattle.std.proofs.Common.{◌≡◌, ℕ, zero, suc, ◌+◌, Bool, true, false, List, [], ◌∷◌, length, refl, subst, sym, ◌∙◌, inl, inr}
use Rattle.std.proofs.lemmas.Bool.{le-ltb, lt-ltb}
use Rattle.cm_types.specs.declared.core_value.CoreValue.{CoreValue}
use Rattle.cm_types.specs.Types.{Ty, Fields, Cases, bool, signed, unsigned, char, string, list, fixed_list, fields, cases, flags, own, borrow, no_fields, field, no_cases, plain, carrying}
use Rattle.cm_types.specs.Values.{Val, Vals, no_vals, val, truth, signed_number, number, scalar, text, elements, parts, bare, bearing, flag_set, handle, count_of}
use Rattle.cm_layout.specs.Flattening.{flat_of_fields}
use Rattle.cm_layout.specs.Sizes.{align_of, size_of}
use Rattle.cm_abi_model.specs.Denotes.{Denotes}
use Rattle.cm_abi_model.specs.FlatShows.{FlatShowFields, FlatShows, FlatShowsPayload, width_of}
use Rattle.cm_abi_model.specs.Numbers.{wrapped_at}
use Rattle.cm_abi_model.specs.Parts.{parts_each, parts_in, parts_in_fields, parts_in_payload}
use Rattle.cm_abi_model.specs.Requests.{IsStored, tuple_of}
use Rattle.cm_abi_model.specs.Shows.{Shows}
use Rattle.cm_abi_model.specs.Taken.{content_of, tags_of, met, met_at, met_each, met_flat, met_flat_fields, met_flat_payload}
use Rattle.cm_abi_model.specs.Views.{View, Way, flat_limit}
use Rattle.cm_abi_model.specs.Answering.{HaveScalars}
use Rattle.cm_abi_requests.specs.Asking.{content_of_parts}
use Rattle.cm_abi_requests.proofs.ContentLaws.{Counts, both, counts, counts_alone, each_counts, list_counts, none, same_content, text_counts}
use Rattle.cm_abi_model.proofs.MetThere.{met_as}

mutual
  flat_counts : (w : View) (s : List CoreValue) (t : Ty) (k : ℕ) (v : Val) → FlatShows w s t k v → Counts w.encoding (parts_in t v) (met_flat w s t k v)
  flat_counts w s bool k (truth b) h = none w.encoding
  flat_counts w s (signed n) k (signed_number z) h = none w.encoding
  flat_counts w s (unsigned n) k (number m) h = none w.encoding
  flat_counts w s char k (scalar c) h = none w.encoding
  flat_counts w s string k (text cs) h = text_counts w.encoding w.memory (wrapped_at 4 s k) (wrapped_at 4 s (k + 1)) cs h
  flat_counts w s (list t) k (elements vs) h =
      list_counts w.encoding (count_of vs) (size_of t) (align_of t) (parts_each (parts_in t) vs) (met_each (met_at w t) (size_of t) (wrapped_at 4 s k) vs)
      (each_counts w.encoding (Shows w t) (parts_in t) (met_at w t) (size_of t) (wrapped_at 4 s k) vs (counts w t) h.each)
  flat_counts w s (fixed_list t n) k (parts vs) h = each_counts w.encoding (FlatShows w s t) (parts_in t) (met_flat w s t) (width_of t) k vs (flat_counts w s t) h.1
  flat_counts w s (fields f fs) k (parts vs) h = flat_field_counts w s fs k vs h
  flat_counts w s (cases c cs) k (bare i) h = none w.encoding
  flat_counts w s (cases c cs) k (bearing i v) h = flat_payload_counts w s cs (k + 1) i v h.1
  flat_counts w s (flags ls) k (flag_set n) h = none w.encoding
  flat_counts w s (own r) k (handle x) h = none w.encoding
  flat_counts w s (borrow r) k (handle x) h = none w.encoding
  flat_counts w s _ k _ h = absurd h

  flat_field_counts : (w : View) (s : List CoreValue) (fs : Fields) (k : ℕ) (vs : Vals) → FlatShowFields w s fs k vs → Counts w.encoding (parts_in_fields fs vs) (met_flat_fields w s fs k vs)
  flat_field_counts w s no_fields k no_vals h = none w.encoding
  flat_field_counts w s no_fields k (val v vs) h = absurd h
  flat_field_counts w s (field l t fs) k no_vals h = absurd h
  flat_field_counts w s (field l t fs) k (val v vs) h =
      both w.encoding (parts_in t v) (parts_in_fields fs vs) (met_flat w s t k v) (met_flat_fields w s fs (k + width_of t) vs)
      (flat_counts w s t k v h.0) (flat_field_counts w s fs (k + width_of t) vs h.1)

  flat_payload_counts : (w : View) (s : List CoreValue) (cs : Cases) (k i : ℕ) (v : Val) → FlatShowsPayload w s cs k i v → Counts w.encoding (parts_in_payload cs i v) (met_flat_payload w s cs k i v)
  flat_payload_counts w s no_cases k i v h = absurd h
  flat_payload_counts w s (plain l cs) k zero v h = absurd h
  flat_payload_counts w s (plain l cs) k (suc i) v h = flat_payload_counts w s cs k i v h
  flat_payload_counts w s (carrying l t cs) k zero v h = flat_counts w s t k v h
  flat_payload_counts w s (carrying l t cs) k (suc i) v h = flat_payload_counts w s cs k i v h

passed_tagged : (w : View) (way : Way) (types : Fields) (slots : List CoreValue) (v : Val) → Denotes w way types slots v → Counts w.encoding (parts_in (tuple_of types) v) (met w way types slots v)
passed_tagged w way types slots v h = elim h [
  | inl flat ↦ subst (λ ms. Counts w.encoding (parts_in (tuple_of types) v) ms) (sym (met_as w way types slots v false (le-ltb (flat_limit way) (length (flat_of_fields types)) flat.fits)))
      (flat_counts w slots (tuple_of types) 0 v flat.shown)
  | inr spilled ↦ subst (λ ms. Counts w.encoding (parts_in (tuple_of types) v) ms) (sym (met_as w way types slots v true (lt-ltb (flat_limit way) (length (flat_of_fields types)) spilled.spilled)))
      (counts w (tuple_of types) (wrapped_at 4 slots 0) v spilled.shown)
]

pub passed_counts : (w : View) (way : Way) (types : Fields) (slots : List CoreValue) (v : Val) → Denotes w way types slots v
    → (content_of_parts w.encoding (tags_of (met w way types slots v)) (parts_in (tuple_of types) v) ≡ content_of (met w way types slots v))
    × HaveScalars w.encoding (tags_of (met w way types slots v)) (parts_in (tuple_of types) v)
passed_counts w way types slots v h = counts_alone w.encoding (tags_of (met w way types slots v)) (parts_in (tuple_of types) v) (content_of (met w way types slots v)) (passed_tagged w way types slots v h)

pub stored_counts : (w : View) (way : Way) (types : Fields) (slots : List CoreValue) (v : Val) (tags : List Bool) → Denotes w way types slots v → IsStored w.encoding
    → content_of_parts w.encoding tags (parts_in (tuple_of types) v) ≡ content_of (met w way types slots v)
stored_counts w way types slots v tags h stored =
    same_content w.encoding tags (tags_of (met w way types slots v)) (parts_in (tuple_of types) v) stored ∙ (passed_counts w way types slots v h).0
