-- What a type holds has its slots within those of the type.
use Rattle.std.proofs.Common.{ℕ, ◌+◌, ◌≤◌, List, [], ◌∷◌, length, arith, length-append}
use Rattle.cm_types.specs.declared.core_value.CoreKind.{CoreKind}
use Rattle.cm_types.specs.Types.{Ty, Fields, Cases, bool, signed, unsigned, char, string, list, fixed_list, fields, cases, flags, own, borrow, no_fields, field, no_cases, plain, carrying}
use Rattle.cm_layout.specs.Alignment.{align_to}
use Rattle.cm_layout.specs.Flattening.{flat_of, flat_of_cases, flat_of_fields, join_slots}
use Rattle.cm_layout.specs.Laid.{Laid}
use Rattle.cm_layout.specs.Shapes.{parts_at, parts_from, payloads_from, payloads_of, shape_of_type}
use Rattle.cm_layout.specs.Sizes.{align_of, size_of}
use Rattle.cm_abi_model.specs.FlatShows.{width_of}
use Rattle.cm_abi_store.specs.FlatLowering.{ArePassedIn, IsPassedIn, PayloadsPassedIn}
use Rattle.cm_layout.proofs.WidthLaws.{copies_long}

pub joined : (xs ys : List CoreKind) → (length xs ≤ length (join_slots xs ys)) × (length ys ≤ length (join_slots xs ys))
joined [] ys = (omega arith, omega arith)
joined (x ∷ xs) [] = (omega arith, omega arith)
joined (x ∷ xs) (y ∷ ys) = let rest = joined xs ys in (omega (arith, rest.0), omega (arith, rest.1))

module _ (laid : (t : Ty) → Laid (size_of t) (shape_of_type t)) where
  mutual
    pub is_passed : (t : Ty) → IsPassedIn (width_of t) (shape_of_type t)
    is_passed bool = omega arith
    is_passed (signed w) = omega arith
    is_passed (unsigned w) = omega arith
    is_passed char = omega arith
    is_passed string = omega arith
    is_passed (list t) = (omega arith, laid t)
    is_passed (fixed_list t n) = let size = copies_long n (flat_of t) in (omega (arith, size), is_passed t)
    is_passed (fields kind fs) = are_passed fs 0 0 (width_of (fields kind fs)) (omega arith)
    is_passed (cases kind cs) = (omega arith, payloads_passed cs (width_of (cases kind cs)) (omega arith))
    is_passed (flags ls) = omega arith
    is_passed (own r) = omega arith
    is_passed (borrow r) = omega arith

    are_passed : (fs : Fields) (end s n : ℕ) → s + length (flat_of_fields fs) ≤ n → ArePassedIn n s (parts_from (parts_at fs end))
    are_passed no_fields end s n inside = tt
    are_passed (field l t fs) end s n inside =
        let both = length-append (flat_of t) (flat_of_fields fs) in
        (omega (arith, inside, both), is_passed t, are_passed fs (align_to (align_of t) end + size_of t) (s + width_of t) n (omega (arith, inside, both)))

    payloads_passed : (cs : Cases) (n : ℕ) → 1 + length (flat_of_cases cs) ≤ n → PayloadsPassedIn n (payloads_from (payloads_of cs))
    payloads_passed no_cases n inside = tt
    payloads_passed (plain l cs) n inside = payloads_passed cs n inside
    payloads_passed (carrying l t cs) n inside =
        let both = joined (flat_of t) (flat_of_cases cs) in
        (omega (arith, inside, both.0), is_passed t, payloads_passed cs n (omega (arith, inside, both.1)))
