-- Laws of types with u32 in the place of each handle.
use Rattle.std.proofs.Common.{◌≡◌, ◌≤◌, ◌+◌, ◌*◌, ℕ, suc, Bool, false, List, max, refl, ap, sym, ◌∙◌}
use Rattle.cm_types.specs.Holds.{holds, fields_hold, cases_hold, is_handle}
use Rattle.cm_types.specs.Limits.{IsWithinLimits, nodes_of, nodes_of_fields, nodes_of_cases, depth_of, depth_of_fields, depth_of_cases}
use Rattle.cm_types.specs.Spellable.{is_spellable, are_spellable, are_spellable_payloads, has_no_fields, has_no_cases}
use Rattle.cm_types.specs.Types.{Ty, Fields, Cases, bool, signed, unsigned, char, string, list, fixed_list, fields, cases, flags, own, borrow, no_fields, field, no_cases, plain, carrying}
use Rattle.cm_layout.specs.Alignment.{align_to}
use Rattle.cm_layout.specs.Flattening.{copies, flat_of, flat_of_fields, flat_of_cases}
use Rattle.cm_layout.specs.Sizes.{case_count, discriminant_size, align_of, align_of_fields, align_of_payloads, payload_offset, size_of, end_of, greatest_payload}
use Rattle.cm_host_values.specs.Indexed.{indexed, indexed_fields, indexed_cases, host_types}
use Rattle.cm_lemmas.proofs.Bools.{or_left, or_right}

-- ---- types without handles

mutual
  pub without : (t : Ty) → holds is_handle t ≡ false → indexed t ≡ t
  without bool h = refl
  without (signed w) h = refl
  without (unsigned w) h = refl
  without char h = refl
  without string h = refl
  without (list t) h = ap list (without t h)
  without (fixed_list t n) h = ap (λ u. fixed_list u n) (without t h)
  without (fields k fs) h = ap (fields k) (fields_without fs h)
  without (cases k cs) h = ap (cases k) (cases_without cs h)
  without (flags ls) h = refl
  without (own r) h = absurd cc
  without (borrow r) h = absurd cc

  fields_without : (fs : Fields) → fields_hold is_handle fs ≡ false → indexed_fields fs ≡ fs
  fields_without no_fields h = refl
  fields_without (field l t fs) h =
      ap (λ u. field l u (indexed_fields fs)) (without t (or_left (holds is_handle t) (fields_hold is_handle fs) h))
      ∙ ap (field l t) (fields_without fs (or_right (holds is_handle t) (fields_hold is_handle fs) h))

  cases_without : (cs : Cases) → cases_hold is_handle cs ≡ false → indexed_cases cs ≡ cs
  cases_without no_cases h = refl
  cases_without (plain l cs) h = ap (plain l) (cases_without cs h)
  cases_without (carrying l t cs) h =
      ap (λ u. carrying l u (indexed_cases cs)) (without t (or_left (holds is_handle t) (cases_hold is_handle cs) h))
      ∙ ap (carrying l t) (cases_without cs (or_right (holds is_handle t) (cases_hold is_handle cs) h))

-- ---- what stays

mutual
  pub nodes_stay : (t : Ty) → nodes_of (indexed t) ≡ nodes_of t
  nodes_stay bool = refl
  nodes_stay (signed w) = refl
  nodes_stay (unsigned w) = refl
  nodes_stay char = refl
  nodes_stay string = refl
  nodes_stay (list t) = ap (λ n. 1 + n) (nodes_stay t)
  nodes_stay (fixed_list t k) = ap (λ n. 1 + max k 1 * n) (nodes_stay t)
  nodes_stay (fields k fs) = ap (λ n. 1 + n) (fields_nodes_stay fs)
  nodes_stay (cases k cs) = ap (λ n. 1 + n) (cases_nodes_stay cs)
  nodes_stay (flags ls) = refl
  nodes_stay (own r) = refl
  nodes_stay (borrow r) = refl

  fields_nodes_stay : (fs : Fields) → nodes_of_fields (indexed_fields fs) ≡ nodes_of_fields fs
  fields_nodes_stay no_fields = refl
  fields_nodes_stay (field l t fs) = rw (nodes_stay t, fields_nodes_stay fs) refl

  cases_nodes_stay : (cs : Cases) → nodes_of_cases (indexed_cases cs) ≡ nodes_of_cases cs
  cases_nodes_stay no_cases = refl
  cases_nodes_stay (plain l cs) = cases_nodes_stay cs
  cases_nodes_stay (carrying l t cs) = rw (nodes_stay t, cases_nodes_stay cs) refl

mutual
  pub depth_stays : (t : Ty) → depth_of (indexed t) ≡ depth_of t
  depth_stays bool = refl
  depth_stays (signed w) = refl
  depth_stays (unsigned w) = refl
  depth_stays char = refl
  depth_stays string = refl
  depth_stays (list t) = ap (λ n. 1 + n) (depth_stays t)
  depth_stays (fixed_list t k) = ap (λ n. 1 + n) (depth_stays t)
  depth_stays (fields k fs) = ap (λ n. 1 + n) (fields_depth_stays fs)
  depth_stays (cases k cs) = ap (λ n. 1 + n) (cases_depth_stays cs)
  depth_stays (flags ls) = refl
  depth_stays (own r) = refl
  depth_stays (borrow r) = refl

  fields_depth_stays : (fs : Fields) → depth_of_fields (indexed_fields fs) ≡ depth_of_fields fs
  fields_depth_stays no_fields = refl
  fields_depth_stays (field l t fs) = rw (depth_stays t, fields_depth_stays fs) refl

  cases_depth_stays : (cs : Cases) → depth_of_cases (indexed_cases cs) ≡ depth_of_cases cs
  cases_depth_stays no_cases = refl
  cases_depth_stays (plain l cs) = cases_depth_stays cs
  cases_depth_stays (carrying l t cs) = rw (depth_stays t, cases_depth_stays cs) refl

no_fields_stay : (fs : Fields) → has_no_fields (indexed_fields fs) ≡ has_no_fields fs
no_fields_stay no_fields = refl
no_fields_stay (field l t fs) = refl

no_cases_stay : (cs : Cases) → has_no_cases (indexed_cases cs) ≡ has_no_cases cs
no_cases_stay no_cases = refl
no_cases_stay (plain l cs) = refl
no_cases_stay (carrying l t cs) = refl

mutual
  pub spellable_stays : (t : Ty) → is_spellable (indexed t) ≡ is_spellable t
  spellable_stays bool = refl
  spellable_stays (signed w) = refl
  spellable_stays (unsigned w) = refl
  spellable_stays char = refl
  spellable_stays string = refl
  spellable_stays (list t) = spellable_stays t
  spellable_stays (fixed_list t n) = rw (spellable_stays t) refl
  spellable_stays (fields k fs) = rw (no_fields_stay fs, fields_spellable_stay fs) refl
  spellable_stays (cases k cs) = rw (no_cases_stay cs, cases_spellable_stay cs) refl
  spellable_stays (flags ls) = refl
  spellable_stays (own r) = refl
  spellable_stays (borrow r) = refl

  fields_spellable_stay : (fs : Fields) → are_spellable (indexed_fields fs) ≡ are_spellable fs
  fields_spellable_stay no_fields = refl
  fields_spellable_stay (field l t fs) = rw (spellable_stays t, fields_spellable_stay fs) refl

  cases_spellable_stay : (cs : Cases) → are_spellable_payloads (indexed_cases cs) ≡ are_spellable_payloads cs
  cases_spellable_stay no_cases = refl
  cases_spellable_stay (plain l cs) = cases_spellable_stay cs
  cases_spellable_stay (carrying l t cs) = rw (spellable_stays t, cases_spellable_stay cs) refl

pub within_stays : (t : Ty) → IsWithinLimits t → IsWithinLimits (indexed t)
within_stays t h = (rw (nodes_stay t) h.0, rw (depth_stays t) h.1)

-- ---- kinds of core values

mutual
  pub kinds_stay : (t : Ty) → flat_of (indexed t) ≡ flat_of t
  kinds_stay bool = refl
  kinds_stay (signed w) = refl
  kinds_stay (unsigned w) = refl
  kinds_stay char = refl
  kinds_stay string = refl
  kinds_stay (list t) = refl
  kinds_stay (fixed_list t n) = ap (copies n) (kinds_stay t)
  kinds_stay (fields k fs) = fields_kinds_stay fs
  kinds_stay (cases k cs) = rw (cases_kinds_stay cs) refl
  kinds_stay (flags ls) = refl
  kinds_stay (own r) = refl
  kinds_stay (borrow r) = refl

  pub fields_kinds_stay : (fs : Fields) → flat_of_fields (indexed_fields fs) ≡ flat_of_fields fs
  fields_kinds_stay no_fields = refl
  fields_kinds_stay (field l t fs) = rw (kinds_stay t, fields_kinds_stay fs) refl

  cases_kinds_stay : (cs : Cases) → flat_of_cases (indexed_cases cs) ≡ flat_of_cases cs
  cases_kinds_stay no_cases = refl
  cases_kinds_stay (plain l cs) = cases_kinds_stay cs
  cases_kinds_stay (carrying l t cs) = rw (kinds_stay t, cases_kinds_stay cs) refl

-- ---- sizes

pub counts_stay : (cs : Cases) → case_count (indexed_cases cs) ≡ case_count cs
counts_stay no_cases = refl
counts_stay (plain l cs) = ap suc (counts_stay cs)
counts_stay (carrying l t cs) = ap suc (counts_stay cs)

mutual
  pub aligns_stay : (t : Ty) → align_of (indexed t) ≡ align_of t
  aligns_stay bool = refl
  aligns_stay (signed w) = refl
  aligns_stay (unsigned w) = refl
  aligns_stay char = refl
  aligns_stay string = refl
  aligns_stay (list t) = refl
  aligns_stay (fixed_list t n) = aligns_stay t
  aligns_stay (fields k fs) = fields_aligns_stay fs
  aligns_stay (cases k cs) = rw (counts_stay cs, cases_aligns_stay cs) refl
  aligns_stay (flags ls) = refl
  aligns_stay (own r) = refl
  aligns_stay (borrow r) = refl

  pub fields_aligns_stay : (fs : Fields) → align_of_fields (indexed_fields fs) ≡ align_of_fields fs
  fields_aligns_stay no_fields = refl
  fields_aligns_stay (field l t fs) = rw (aligns_stay t, fields_aligns_stay fs) refl

  pub cases_aligns_stay : (cs : Cases) → align_of_payloads (indexed_cases cs) ≡ align_of_payloads cs
  cases_aligns_stay no_cases = refl
  cases_aligns_stay (plain l cs) = cases_aligns_stay cs
  cases_aligns_stay (carrying l t cs) = rw (aligns_stay t, cases_aligns_stay cs) refl

pub offsets_stay : (cs : Cases) → payload_offset (indexed_cases cs) ≡ payload_offset cs
offsets_stay cs = ap (λ a. align_to a (discriminant_size (case_count (indexed_cases cs)))) (cases_aligns_stay cs) ∙ ap (λ n. align_to (align_of_payloads cs) (discriminant_size n)) (counts_stay cs)

mutual
  pub sizes_stay : (t : Ty) → size_of (indexed t) ≡ size_of t
  sizes_stay bool = refl
  sizes_stay (signed w) = refl
  sizes_stay (unsigned w) = refl
  sizes_stay char = refl
  sizes_stay string = refl
  sizes_stay (list t) = refl
  sizes_stay (fixed_list t n) = ap (λ m. n * m) (sizes_stay t)
  sizes_stay (fields k fs) = ap (λ a. align_to a (end_of (indexed_fields fs) 0)) (fields_aligns_stay fs) ∙ ap (align_to (align_of_fields fs)) (ends_stay fs 0)
  sizes_stay (cases k cs) =
      ap (λ a. align_to a (payload_offset (indexed_cases cs) + greatest_payload (indexed_cases cs))) (aligns_stay (cases k cs))
      ∙ ap (λ o. align_to (align_of (cases k cs)) (o + greatest_payload (indexed_cases cs))) (offsets_stay cs)
      ∙ ap (λ g. align_to (align_of (cases k cs)) (payload_offset cs + g)) (payloads_stay cs)
  sizes_stay (flags ls) = refl
  sizes_stay (own r) = refl
  sizes_stay (borrow r) = refl

  pub ends_stay : (fs : Fields) (at : ℕ) → end_of (indexed_fields fs) at ≡ end_of fs at
  ends_stay no_fields at = refl
  ends_stay (field l t fs) at =
      ends_stay fs (align_to (align_of (indexed t)) at + size_of (indexed t))
      ∙ ap (λ a. end_of fs (align_to a at + size_of (indexed t))) (aligns_stay t)
      ∙ ap (λ s. end_of fs (align_to (align_of t) at + s)) (sizes_stay t)

  pub payloads_stay : (cs : Cases) → greatest_payload (indexed_cases cs) ≡ greatest_payload cs
  payloads_stay no_cases = refl
  payloads_stay (plain l cs) = payloads_stay cs
  payloads_stay (carrying l t cs) = rw (sizes_stay t, payloads_stay cs) refl

-- ---- no handles are left

mutual
  free : (t : Ty) → holds is_handle (indexed t) ≡ false
  free bool = refl
  free (signed w) = refl
  free (unsigned w) = refl
  free char = refl
  free string = refl
  free (list t) = free t
  free (fixed_list t n) = free t
  free (fields k fs) = free_fields fs
  free (cases k cs) = free_cases cs
  free (flags ls) = refl
  free (own r) = refl
  free (borrow r) = refl

  free_fields : (fs : Fields) → fields_hold is_handle (indexed_fields fs) ≡ false
  free_fields no_fields = refl
  free_fields (field l t fs) = rw (free t, free_fields fs) refl

  free_cases : (cs : Cases) → cases_hold is_handle (indexed_cases cs) ≡ false
  free_cases no_cases = refl
  free_cases (plain l cs) = free_cases cs
  free_cases (carrying l t cs) = rw (free t, free_cases cs) refl

-- ---- a row of types

pub row_free : (fs : Fields) → fields_hold is_handle (host_types fs) ≡ false
row_free no_fields = refl
row_free (field l t fs) = rw (free t, row_free fs) refl

pub row_nodes : (fs : Fields) → nodes_of_fields (host_types fs) ≡ nodes_of_fields fs
row_nodes no_fields = refl
row_nodes (field l t fs) = rw (nodes_stay t, row_nodes fs) refl

pub row_spellable : (fs : Fields) → are_spellable (host_types fs) ≡ are_spellable fs
row_spellable no_fields = refl
row_spellable (field l t fs) = rw (spellable_stays t, row_spellable fs) refl

pub ruleset row_laws = (row_free, row_nodes, row_spellable, nodes_stay, spellable_stays)

pub row_kinds : (fs : Fields) → flat_of_fields (host_types fs) ≡ flat_of_fields fs
row_kinds no_fields = refl
row_kinds (field l t fs) = rw (kinds_stay t, row_kinds fs) refl

pub row_aligns : (fs : Fields) → align_of_fields (host_types fs) ≡ align_of_fields fs
row_aligns no_fields = refl
row_aligns (field l t fs) = rw (aligns_stay t, row_aligns fs) refl

pub row_ends : (fs : Fields) (at : ℕ) → end_of (host_types fs) at ≡ end_of fs at
row_ends no_fields at = refl
row_ends (field l t fs) at =
    row_ends fs (align_to (align_of (indexed t)) at + size_of (indexed t))
    ∙ ap (λ a. end_of fs (align_to a at + size_of (indexed t))) (aligns_stay t)
    ∙ ap (λ s. end_of fs (align_to (align_of t) at + s)) (sizes_stay t)
