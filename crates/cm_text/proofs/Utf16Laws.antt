-- Laws of what Utf16 defines, for this crate and those above it.
use Rattle.std.proofs.Common.{List, ℕ, length, ◌≡◌, ◌*◌, [], refl, ◌∷◌, arith, ◌+◌, length-append}
use Rattle.std.specs.Char.Escape.{encode_utf16}
use Rattle.std.specs.List.{flat_map}
use Rattle.cm_text.specs.Utf16.{bytes_of_unit, spell_utf16}

pub unit_length : (us : List ℕ) → length (flat_map bytes_of_unit us) ≡ 2 * length us
unit_length [] = refl
unit_length (u ∷ us) = omega (arith, unit_length us)

pub even : (cs : List ℕ) → (n : ℕ) × (length (flat_map spell_utf16 cs) ≡ 2 * n)
even [] = (0, refl)
even (c ∷ cs) =
    let rest = even cs in
    (length (encode_utf16 c) + rest.0, omega (arith, length-append (spell_utf16 c) (flat_map spell_utf16 cs), unit_length (encode_utf16 c), rest.1))
