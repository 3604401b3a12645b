-- In the layout of a type each number has a size that numbers have.
use Rattle.std.proofs.Common.{ℕ, ◌+◌, ◌<◌, ◌≤◌, Bool, true, false, inl, inr, refl, arith, nat_le, length}
use Rattle.std.specs.Prelude.{if◌then◌else◌}
use Rattle.cm_types.specs.Types.{Ty, Fields, Cases, Width, width_bytes, bits_8, bits_16, bits_32, bits_64, bool, signed, unsigned, char, string, list, fixed_list, fields, cases, flags, own, borrow, no_fields, field, no_cases, plain, carrying}
use Rattle.cm_layout.specs.Alignment.{align_to}
use Rattle.cm_layout.specs.Sizes.{align_of, align_of_fields, align_of_payloads, case_count, size_of}
use Rattle.cm_layout.specs.Shapes.{shape_of_type, parts_at, parts_from, payloads_of, payloads_from}
use Rattle.cm_abi_load.specs.Sized.{IsNumberSize, IsSized, ArePartsSized, ArePayloadsSized}
use Rattle.cm_lemmas.proofs.Bools.{picked_pos}
use Rattle.cm_types.proofs.TypesLaws.{width_pos}

width_sized : (w : Width) → IsNumberSize (width_bytes w)
width_sized bits_8 = inl refl
width_sized bits_16 = inr (inl refl)
width_sized bits_32 = inr (inr (inl refl))
width_sized bits_64 = inr (inr (inr refl))

picked : (a b : Bool) → IsNumberSize (if a then 1 else if b then 2 else 4) × ((if a then 1 else if b then 2 else 4) ≤ 4)
picked true b = (inl refl, omega arith)
picked false true = (inr (inl refl), omega arith)
picked false false = (inr (inr (inl refl)), omega arith)

mutual
  pub align_pos : (t : Ty) → 0 < align_of t
  align_pos bool = omega arith
  align_pos (signed w) = width_pos w
  align_pos (unsigned w) = width_pos w
  align_pos char = omega arith
  align_pos string = omega arith
  align_pos (list t) = omega arith
  align_pos (fixed_list t n) = align_pos t
  align_pos (fields k fs) = fields_pos fs
  align_pos (cases k cs) = let p : 0 < align_of_payloads cs = payloads_pos cs in omega arith
  align_pos (flags ls) = picked_pos (nat_le (length ls) 8) (nat_le (length ls) 16)
  align_pos (own r) = omega arith
  align_pos (borrow r) = omega arith

  fields_pos : (fs : Fields) → 0 < align_of_fields fs
  fields_pos no_fields = omega arith
  fields_pos (field l t fs) = let p : 0 < align_of_fields fs = fields_pos fs in omega arith

  payloads_pos : (cs : Cases) → 0 < align_of_payloads cs
  payloads_pos no_cases = omega arith
  payloads_pos (plain l cs) = payloads_pos cs
  payloads_pos (carrying l t cs) = let p : 0 < align_of_payloads cs = payloads_pos cs in omega arith

mutual
  pub sized : (t : Ty) → IsSized (shape_of_type t)
  sized bool = tt
  sized (signed w) = width_sized w
  sized (unsigned w) = width_sized w
  sized char = tt
  sized string = tt
  sized (list t) = (align_pos t, sized t)
  sized (fixed_list t n) = sized t
  sized (fields k fs) = parts_sized fs 0
  sized (cases k cs) =
      let d = picked (nat_le (case_count cs) 256) (nat_le (case_count cs) 65536) in
      (d.0, d.1, payloads_sized cs)
  sized (flags ls) = picked (nat_le (length ls) 8) (nat_le (length ls) 16)
  sized (own r) = tt
  sized (borrow r) = tt

  parts_sized : (fs : Fields) (at : ℕ) → ArePartsSized (parts_from (parts_at fs at))
  parts_sized no_fields at = tt
  parts_sized (field l t fs) at = (sized t, parts_sized fs (align_to (align_of t) at + size_of t))

  payloads_sized : (cs : Cases) → ArePayloadsSized (payloads_from (payloads_of cs))
  payloads_sized no_cases = tt
  payloads_sized (plain l cs) = payloads_sized cs
  payloads_sized (carrying l t cs) = (sized t, payloads_sized cs)
