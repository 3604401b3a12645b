-- What a string asks for.
use Rattle.std.proofs.Common.{◌≡◌, ℕ, zero, suc, ◌*◌, ◌/◌, ◌<◌, ◌≤◌, Bool, true, false, List, [], ◌∷◌, ◌++◌, length, slice_index, nat_lt, if◌then◌else◌, refl, sym, ap, subst, ◌∙◌, arith, length-append}
use Rattle.std.proofs.lemmas.Bool.Decides.{nat_tests}
use Rattle.std.specs.Char.Escape.{encode_utf16}
use Rattle.std.specs.List.{AllByRecursion, flat_map}
use Rattle.cm_text.specs.Latin1.{HasLatin1, spell_latin1}
use Rattle.cm_text.specs.Utf8.{spell_utf8}
use Rattle.cm_text.specs.Utf16.{spell_utf16}
use Rattle.cm_abi_model.specs.declared.encoding.StringEncoding.TheVariants as encoding
use Rattle.cm_abi_model.specs.declared.request.Request.{Request}
use Rattle.cm_abi_model.specs.Parts.{Part, element_part, parts_each, parts_in, text_part}
use Rattle.cm_abi_model.specs.Requests.{chain, is_spilled, part_requests, requests, shrunk}
use Rattle.cm_abi_model.specs.Views.{params}
use Rattle.cm_types.specs.Types.{Ty, Fields, fields, list, tuple_type}
use Rattle.cm_types.specs.Values.{Val, Vals, count_of, elements}
use Rattle.cm_layout.specs.Flattening.{flat_of_fields}
use Rattle.cm_layout.specs.Sizes.{align_of, size_of}
use Rattle.cm_abi_model.specs.declared.encoding.StringEncoding.{StringEncoding}
use Rattle.cm_abi_model.specs.Asking.{AsksToUtf8, AsksToUtf16, IsAscii, again, fresh}
use Rattle.cm_abi_model.specs.Strings.{utf16_units, utf8_units}
use Rattle.cm_abi_model.proofs.StringLaws.{units_flat}
use Rattle.cm_lemmas.proofs.Numbers.{lt_true, lt_false}
use Rattle.cm_text.proofs.PairLemmas.{latin1_spelled}
use Rattle.cm_text.proofs.TightLemmas.{units_le}
use Rattle.cm_text.proofs.Utf16Laws.{unit_length}

-- ---- sizes

-- a character of ASCII is one byte and one unit, any other has more bytes than units
one_ascii : (c : ℕ) → c < 0x80 → length (spell_utf8 c) ≡ length (encode_utf16 c)
one_ascii c lt = grind (arith, nat_tests)

one_more : (c : ℕ) → 0x80 ≤ c → length (encode_utf16 c) < length (spell_utf8 c)
one_more c le = grind (arith, nat_tests)

all_no_fewer : (cs : List ℕ) → length (utf16_units cs) ≤ length (utf8_units cs)
all_no_fewer [] = omega arith
all_no_fewer (c ∷ cs) =
    omega (arith, units_le c, all_no_fewer cs, length-append (encode_utf16 c) (utf16_units cs), length-append (spell_utf8 c) (utf8_units cs))

ascii_units : (cs : List ℕ) → AllByRecursion IsAscii cs → length (utf8_units cs) ≡ length (utf16_units cs)
ascii_units [] h = refl
ascii_units (c ∷ cs) h =
    omega (arith, one_ascii c h.0, ascii_units cs h.1, length-append (encode_utf16 c) (utf16_units cs), length-append (spell_utf8 c) (utf8_units cs))

other_units : (cs : List ℕ) (i : ℕ) → i < length cs → 0x80 ≤ slice_index cs i → length (utf16_units cs) < length (utf8_units cs)
other_units [] i lt le = absurd (omega (arith, lt))
other_units (c ∷ cs) zero lt le =
    omega (arith, one_more c le, all_no_fewer cs, length-append (encode_utf16 c) (utf16_units cs), length-append (spell_utf8 c) (utf8_units cs))
other_units (c ∷ cs) (suc i) lt le =
    omega (arith, units_le c, other_units cs i (omega (arith, lt)) le, length-append (encode_utf16 c) (utf16_units cs), length-append (spell_utf8 c) (utf8_units cs))

-- in Latin-1 a unit is a character
latin1_one : (c : ℕ) → c < 256 → length (encode_utf16 c) ≡ 1
latin1_one c lt = grind (arith, nat_tests)

latin1_units : (cs : List ℕ) → AllByRecursion HasLatin1 cs → length (utf16_units cs) ≡ length cs
latin1_units [] h = refl
latin1_units (c ∷ cs) h = omega (arith, latin1_one c h.0, latin1_units cs h.1, length-append (encode_utf16 c) (utf16_units cs))

-- ---- requests

asks_plain : (u x : ℕ) (big : List ℕ) (others : List Request) → nat_lt u x ≡ false → chain 1 (if nat_lt u x then big else u ∷ []) ++ others ≡ fresh 1 u ∷ others
asks_plain u x big others e = rw e refl

asks_grown : (u w x : ℕ) (others : List Request) → nat_lt u x ≡ true → nat_lt x w ≡ true
    → chain 1 (if nat_lt u x then u ∷ shrunk w x else u ∷ []) ++ others ≡ fresh 1 u ∷ again u 1 w ∷ again w 1 x ∷ others
asks_grown u w x others e f = rw (e, f) refl

asks_filled : (u w x : ℕ) (others : List Request) → nat_lt u x ≡ true → nat_lt x w ≡ false
    → chain 1 (if nat_lt u x then u ∷ shrunk w x else u ∷ []) ++ others ≡ fresh 1 u ∷ again u 1 w ∷ others
asks_filled u w x others e f = rw (e, f) refl

-- by how many units there are: as many as those of UTF-16
to_utf8 : (u n w : ℕ) (cs : List ℕ) (others : List Request) → u ≡ n → n ≡ length (utf16_units cs)
    → AsksToUtf8 n w cs (chain 1 (if nat_lt u (length (utf8_units cs)) then u ∷ shrunk w (length (utf8_units cs)) else u ∷ []) ++ others) others
to_utf8 u n w cs others e f =
    let x = length (utf8_units cs) in
    subst (λ z. AsksToUtf8 z w cs (chain 1 (if nat_lt u x then u ∷ shrunk w x else u ∷ []) ++ others) others) e
    (record {
      plain = λ h. asks_plain u x (u ∷ shrunk w x) others (lt_false u x (omega (arith, e, f, ascii_units cs h)));
      grown = λ h lt. asks_grown u w x others (lt_true u x (omega (arith, e, f, other_units cs h.0 h.1 h.2))) (lt_true x w lt);
      filled = λ h le. asks_filled u w x others (lt_true u x (omega (arith, e, f, other_units cs h.0 h.1 h.2))) (lt_false x w le);
    })

pub half : (cs : List ℕ) → length (flat_map spell_utf16 cs) / 2 ≡ length (utf16_units cs)
half cs =
    let long : length (flat_map spell_utf16 cs) ≡ 2 * length (utf16_units cs) = ap length (units_flat cs) ∙ unit_length (utf16_units cs) in
    omega (arith, long)

whole : (cs : List ℕ) → length (flat_map spell_utf16 cs) ≡ 2 * length (utf16_units cs)
whole cs = ap length (units_flat cs) ∙ unit_length (utf16_units cs)

latin1_half : (cs : List ℕ) → length (flat_map spell_latin1 cs) / 1 ≡ length cs
latin1_half cs = let long : length (flat_map spell_latin1 cs) ≡ length cs = ap length (latin1_spelled cs) in omega (arith, long)

utf16_to_utf8 : (u : ℕ) (cs : List ℕ) (others : List Request) → u ≡ length (utf16_units cs)
    → AsksToUtf8 (length (utf16_units cs)) (3 * length (utf16_units cs)) cs (chain 1 (if nat_lt u (length (utf8_units cs)) then u ∷ shrunk (3 * u) (length (utf8_units cs)) else u ∷ []) ++ others) others
utf16_to_utf8 u cs others e =
    subst (λ z. AsksToUtf8 (length (utf16_units cs)) (3 * z) cs (chain 1 (if nat_lt u (length (utf8_units cs)) then u ∷ shrunk (3 * u) (length (utf8_units cs)) else u ∷ []) ++ others) others) e
    (to_utf8 u (length (utf16_units cs)) (3 * u) cs others e refl)

pub from_utf16 : (cs : List ℕ) (ps : List Part)
    → AsksToUtf8 (length (utf16_units cs)) (3 * length (utf16_units cs)) cs (part_requests encoding.Utf16 encoding.Utf8 [] (text_part cs ∷ ps)) (part_requests encoding.Utf16 encoding.Utf8 [] ps)
from_utf16 cs ps = utf16_to_utf8 (length (flat_map spell_utf16 cs) / 2) cs (part_requests encoding.Utf16 encoding.Utf8 [] ps) (half cs)

pub from_tagged : (cs : List ℕ) (ps : List Part) (tags : List Bool)
    → AsksToUtf8 (length (utf16_units cs)) (3 * length (utf16_units cs)) cs (part_requests encoding.Latin1OrUtf16 encoding.Utf8 (true ∷ tags) (text_part cs ∷ ps)) (part_requests encoding.Latin1OrUtf16 encoding.Utf8 tags ps)
from_tagged cs ps tags = utf16_to_utf8 (length (flat_map spell_utf16 cs) / 2) cs (part_requests encoding.Latin1OrUtf16 encoding.Utf8 tags ps) (half cs)

latin1_to_utf8 : (u : ℕ) (cs : List ℕ) (others : List Request) → u ≡ length cs → length cs ≡ length (utf16_units cs)
    → AsksToUtf8 (length cs) (2 * length cs) cs (chain 1 (if nat_lt u (length (utf8_units cs)) then u ∷ shrunk (2 * u) (length (utf8_units cs)) else u ∷ []) ++ others) others
latin1_to_utf8 u cs others e f =
    subst (λ z. AsksToUtf8 (length cs) (2 * z) cs (chain 1 (if nat_lt u (length (utf8_units cs)) then u ∷ shrunk (2 * u) (length (utf8_units cs)) else u ∷ []) ++ others) others) e
    (to_utf8 u (length cs) (2 * u) cs others e f)

pub from_latin1 : (cs : List ℕ) (ps : List Part) (tags : List Bool) → AllByRecursion HasLatin1 cs
    → AsksToUtf8 (length cs) (2 * length cs) cs (part_requests encoding.Latin1OrUtf16 encoding.Utf8 (false ∷ tags) (text_part cs ∷ ps)) (part_requests encoding.Latin1OrUtf16 encoding.Utf8 tags ps)
from_latin1 cs ps tags h = latin1_to_utf8 (length (flat_map spell_latin1 cs) / 1) cs (part_requests encoding.Latin1OrUtf16 encoding.Utf8 tags ps) (latin1_half cs) (sym (latin1_units cs h))

-- ---- to UTF-16

shrinks : (w x : ℕ) (others : List Request) → nat_lt x w ≡ true → chain 2 (shrunk w x) ++ others ≡ fresh 2 w ∷ again w 2 x ∷ others
shrinks w x others e = rw e refl

fills : (w x : ℕ) (others : List Request) → nat_lt x w ≡ false → chain 2 (shrunk w x) ++ others ≡ fresh 2 w ∷ others
fills w x others e = rw e refl

to_utf16 : (w x : ℕ) (cs : List ℕ) (others : List Request) → x ≡ 2 * length (utf16_units cs) → AsksToUtf16 w cs (chain 2 (shrunk w x) ++ others) others
to_utf16 w x cs others e =
    record {
      shrunk = λ lt. shrinks w x others (lt_true x w (omega (arith, e, lt))) ∙ ap (λ z. fresh 2 w ∷ again w 2 z ∷ others) e;
      filled = λ le. fills w x others (lt_false x w (omega (arith, e, le)));
    }

pub from_utf8 : (cs : List ℕ) (ps : List Part)
    → AsksToUtf16 (2 * length (utf8_units cs)) cs (part_requests encoding.Utf8 encoding.Utf16 [] (text_part cs ∷ ps)) (part_requests encoding.Utf8 encoding.Utf16 [] ps)
from_utf8 cs ps =
    let u = length (flat_map spell_utf8 cs) / 1 in
    let same : u ≡ length (utf8_units cs) = omega arith in
    subst (λ z. AsksToUtf16 (2 * z) cs (chain 2 (shrunk (2 * u) (length (flat_map spell_utf16 cs))) ++ part_requests encoding.Utf8 encoding.Utf16 [] ps) (part_requests encoding.Utf8 encoding.Utf16 [] ps)) same
    (to_utf16 (2 * u) (length (flat_map spell_utf16 cs)) cs (part_requests encoding.Utf8 encoding.Utf16 [] ps) (whole cs))

-- ---- as they are

pub utf8_kept : (cs : List ℕ) (ps : List Part) → part_requests encoding.Utf8 encoding.Utf8 [] (text_part cs ∷ ps) ≡ fresh 1 (length (utf8_units cs)) ∷ part_requests encoding.Utf8 encoding.Utf8 [] ps
utf8_kept cs ps = refl

pub utf16_kept : (cs : List ℕ) (ps : List Part) → part_requests encoding.Utf16 encoding.Utf16 [] (text_part cs ∷ ps) ≡ fresh 2 (2 * length (utf16_units cs)) ∷ part_requests encoding.Utf16 encoding.Utf16 [] ps
utf16_kept cs ps = ap (λ z. fresh 2 z ∷ part_requests encoding.Utf16 encoding.Utf16 [] ps) (whole cs)

pub tagged_kept : (cs : List ℕ) (ps : List Part) (tags : List Bool)
    → part_requests encoding.Latin1OrUtf16 encoding.Utf16 (true ∷ tags) (text_part cs ∷ ps) ≡ fresh 2 (2 * length (utf16_units cs)) ∷ part_requests encoding.Latin1OrUtf16 encoding.Utf16 tags ps
tagged_kept cs ps tags = ap (λ z. fresh 2 z ∷ part_requests encoding.Latin1OrUtf16 encoding.Utf16 tags ps) (whole cs)

pub latin1_widened : (cs : List ℕ) (ps : List Part) (tags : List Bool) → AllByRecursion HasLatin1 cs
    → part_requests encoding.Latin1OrUtf16 encoding.Utf16 (false ∷ tags) (text_part cs ∷ ps) ≡ fresh 2 (2 * length cs) ∷ part_requests encoding.Latin1OrUtf16 encoding.Utf16 tags ps
latin1_widened cs ps tags h =
    ap (λ z. fresh 2 z ∷ part_requests encoding.Latin1OrUtf16 encoding.Utf16 tags ps) (whole cs ∙ ap (λ z. 2 * z) (latin1_units cs h))

pub asking_example : part_requests encoding.Utf16 encoding.Utf8 [] (text_part (0xE9 ∷ []) ∷ []) ≡ fresh 1 1 ∷ again 1 1 3 ∷ again 3 1 2 ∷ []
asking_example = refl

-- ---- lists and tuples

pub elements_ask : (source target : StringEncoding) (tags : List Bool) (t : Ty) (vs : Vals)
    → part_requests source target tags (parts_in (list t) (elements vs)) ≡ fresh (align_of t) (count_of vs * size_of t) ∷ part_requests source target tags (parts_each (parts_in t) vs)
elements_ask source target tags t vs = refl

tuple_first : (b : Bool) (source target : StringEncoding) (tags : List Bool) (size align : ℕ) (ps : List Part) → b ≡ true
    → part_requests source target tags (if b then element_part 1 size align ∷ ps else ps) ≡ fresh align size ∷ part_requests source target tags ps
tuple_first b source target tags size align ps e =
    let one : 1 * size ≡ size = omega arith in
    ap (λ x. part_requests source target tags (if x then element_part 1 size align ∷ ps else ps)) e ∙ ap (λ n. fresh align n ∷ part_requests source target tags ps) one

pub tuple_asks : (source target : StringEncoding) (tags : List Bool) (types : Fields) (v : Val) → 16 < length (flat_of_fields types)
    → requests params types v source target tags
    ≡ fresh (align_of (fields tuple_type types)) (size_of (fields tuple_type types)) ∷ part_requests source target tags (parts_in (fields tuple_type types) v)
tuple_asks source target tags types v many =
    tuple_first (is_spilled params types) source target tags (size_of (fields tuple_type types)) (align_of (fields tuple_type types)) (parts_in (fields tuple_type types) v) (lt_true 16 (length (flat_of_fields types)) many)

few_first : (b : Bool) (source target : StringEncoding) (tags : List Bool) (p : Part) (ps : List Part) → b ≡ false → part_requests source target tags (if b then p ∷ ps else ps) ≡ part_requests source target tags ps
few_first b source target tags p ps e = ap (λ x. part_requests source target tags (if x then p ∷ ps else ps)) e

pub few_ask : (source target : StringEncoding) (tags : List Bool) (types : Fields) (v : Val) → length (flat_of_fields types) ≤ 16
    → requests params types v source target tags ≡ part_requests source target tags (parts_in (fields tuple_type types) v)
few_ask source target tags types v few =
    few_first (is_spilled params types) source target tags (element_part 1 (size_of (fields tuple_type types)) (align_of (fields tuple_type types))) (parts_in (fields tuple_type types) v) (lt_false 16 (length (flat_of_fields types)) few)
