-- Numbers and texts that stand in memory byte by byte are read back.
use Rattle.std.proofs.Common.{◌≡◌, ℕ, zero, suc, ◌+◌, ◌*◌, ◌/◌, ◌^◌, ◌<◌, ◌≤◌, List, [], ◌∷◌, ◌++◌, length, take, drop, refl, sym, ap, ◌∙◌, arith}
use Rattle.std.proofs.Math.Seq.{drop-cons}
use Rattle.std.specs.List.{AllByRecursion, flat_map}
use Rattle.cm_types.specs.Values.{IsScalarValue}
use Rattle.cm_text.specs.Utf8.{spell_utf8}
use Rattle.cm_text.specs.Utf16.{spell_utf16}
use Rattle.cm_abi_model.specs.declared.encoding.StringEncoding.{StringEncoding}
use Rattle.cm_abi_model.specs.declared.encoding.StringEncoding.TheVariants as encoding
use Rattle.cm_abi_model.specs.Parts.{text_part}
use Rattle.cm_abi_model.specs.Regions.{IsPlaced}
use Rattle.cm_abi_model.specs.Requests.{IsStored, stored_charset, text_bytes, text_units}
use Rattle.cm_abi_model.specs.Texts.{ShowsText}
use Rattle.cm_abi_model.specs.Numbers.{number_at}
use Rattle.cm_abi_model.specs.Stores.{Placed, placed, bytes_of, Holds}
use Rattle.cm_types.proofs.ValuesLaws.{are_scalars}
use Rattle.cm_text.proofs.Utf16Laws.{even}

pub holds_split : (m : List ℕ) (xs ys : List Placed) → Holds m (xs ++ ys) → Holds m xs × Holds m ys
holds_split m [] ys h = (tt {0}, h)
holds_split m (x ∷ xs) ys h = let r = holds_split m xs ys h.1 in ((h.0, r.0), r.1)

pub number_held : (n : ℕ) (m : List ℕ) (p x : ℕ) → x < 256 ^ n → Holds m (placed p (bytes_of n x)) → number_at n m p ≡ x
unfolding number_at bytes_of
number_held zero m p x small h = omega (arith, small)
number_held (suc n) m p x small h =
    let rest : number_at n m (p + 1) ≡ x / 256 = number_held n m (p + 1) (x / 256) (omega (arith, small)) h.1 in
    omega (arith, h.0, rest)

pub text_held : (m bs : List ℕ) (at : ℕ) → at + length bs ≤ length m → Holds m (placed at bs) → take (length bs) (drop at m) ≡ bs
text_held m [] at inside h = refl
text_held m (b ∷ bs) at inside h =
    ap (take (suc (length bs))) (drop-cons m at 0 (omega (arith, inside)))
    ∙ ap (λ x. x ∷ take (length bs) (drop (suc at) m)) h.0
    ∙ ap (λ i. b ∷ take (length bs) (drop i m)) {x = suc at} {y = at + 1} (omega arith)
    ∙ ap (λ xs. b ∷ xs) (text_held m bs (at + 1) (omega (arith, inside)) h.1)

-- a text that is stored is shown
pub text_shown : (e : StringEncoding) (m cs : List ℕ) (at : ℕ) → IsStored e → IsPlaced e (length m) at (text_part cs)
    → Holds m (placed at (text_bytes (stored_charset e) cs)) → AllByRecursion IsScalarValue cs
    → ShowsText e m at (text_units (stored_charset e) cs) cs
text_shown encoding.Utf8 m cs at s p h all =
    let bs = flat_map spell_utf8 cs in
    let size : 1 * (length bs / 1) ≡ length bs = omega arith in
    record {
      aligned = p.aligned;
      inside = omega (arith, p.inside, size);
      text = record { all = are_scalars cs all; is = sym (text_held m bs at p.inside h) ∙ ap (λ n. take n (drop at m)) (sym size) };
    }
text_shown encoding.Utf16 m cs at s p h all =
    let bs = flat_map spell_utf16 cs in
    let half = even cs in
    let size : 2 * (length bs / 2) ≡ length bs = omega (arith, half.1) in
    record {
      aligned = p.aligned;
      inside = omega (arith, p.inside, size);
      text = record { all = are_scalars cs all; is = sym (text_held m bs at p.inside h) ∙ ap (λ n. take n (drop at m)) (sym size) };
    }
text_shown encoding.Latin1OrUtf16 m cs at s p h all = absurd s

-- its units are counted in 32 bits, where the memory is
pub units_fit : (e : StringEncoding) (n : ℕ) (cs : List ℕ) (at : ℕ) → IsStored e → IsPlaced e n at (text_part cs) → n < 2 ^ 32
    → (at < 2 ^ 32) × (text_units (stored_charset e) cs < 2 ^ 32)
units_fit encoding.Utf8 n cs at s p small = (omega (arith, p.inside, small), omega (arith, p.inside, small))
units_fit encoding.Utf16 n cs at s p small = (omega (arith, p.inside, small), omega (arith, p.inside, small))
units_fit encoding.Latin1OrUtf16 n cs at s p small = absurd s
