-- What a type holds lies within it and does not meet.
use Rattle.std.proofs.Common.{ℕ, ◌+◌, ◌≤◌, refl, arith}
use Rattle.cm_types.specs.Types.{Ty, Fields, Cases, bool, signed, unsigned, char, string, list, fixed_list, fields, cases, flags, own, borrow, no_fields, field, no_cases, plain, carrying}
use Rattle.cm_layout.specs.Alignment.{align_to}
use Rattle.cm_layout.specs.Sizes.{align_of, align_of_fields, align_of_payloads, case_count, discriminant_size, payload_offset, size_of, end_of, greatest_payload}
use Rattle.cm_layout.specs.Shapes.{shape_of_type, parts_at, parts_from, payloads_of, payloads_from}
use Rattle.cm_layout.specs.Laid.{Laid, PartsLaid, PayloadsLaid}
use Rattle.cm_layout.proofs.AlignLemmas.{align_pos, fields_align_pos, payloads_align_pos}
use Rattle.cm_layout.proofs.SizeLemmas.{place_above}

pub end_grows : (fs : Fields) (at : ℕ) → at ≤ end_of fs at
end_grows no_fields at = omega arith
end_grows (field l t fs) at = omega (arith, place_above (align_of t) at (align_pos t), end_grows fs (align_to (align_of t) at + size_of t))

mutual
  pub laid : (t : Ty) → Laid (size_of t) (shape_of_type t)
  laid bool = refl
  laid (signed w) = refl
  laid (unsigned w) = refl
  laid char = refl
  laid string = refl
  laid (list t) = (refl, laid t)
  laid (fixed_list t n) = (refl, laid t)
  laid (fields k fs) = parts_laid fs 0 (size_of (fields k fs)) (place_above (align_of_fields fs) (end_of fs 0) (fields_align_pos fs))
  laid (cases k cs) =
      let o : payload_offset cs + greatest_payload cs ≤ size_of (cases k cs) = place_above (align_of (cases k cs)) (payload_offset cs + greatest_payload cs) (align_pos (cases k cs)) in
      (place_above (align_of_payloads cs) (discriminant_size (case_count cs)) (payloads_align_pos cs), omega arith, payloads_laid cs (size_of (cases k cs)) (payload_offset cs) o)
  laid (flags ls) = refl
  laid (own r) = refl
  laid (borrow r) = refl

  parts_laid : (fs : Fields) (at n : ℕ) → end_of fs at ≤ n → PartsLaid n at (parts_from (parts_at fs at))
  parts_laid no_fields at n h = h
  parts_laid (field l t fs) at n h =
      (place_above (align_of t) at (align_pos t), omega (arith, end_grows fs (align_to (align_of t) at + size_of t)), laid t, parts_laid fs (align_to (align_of t) at + size_of t) n h)

  payloads_laid : (cs : Cases) (n o : ℕ) → o + greatest_payload cs ≤ n → PayloadsLaid n o (payloads_from (payloads_of cs))
  payloads_laid no_cases n o h = tt
  payloads_laid (plain l cs) n o h = payloads_laid cs n o h
  payloads_laid (carrying l t cs) n o h = (omega arith, laid t, payloads_laid cs n o (omega arith))
