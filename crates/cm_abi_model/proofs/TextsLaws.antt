-- Laws of what Texts defines, for this crate and those above it.
use Rattle.std.proofs.Common.{ℕ, ◌%◌, ◌==◌, ◌≡◌, true, ap, ◌∙◌, ◌/◌, arith, ◌<◌, Bool, refl, false}
use Rattle.std.proofs.Math.Nat.{mul-mod_left, div-add-mod, mul_comm}
use Rattle.std.proofs.lemmas.Bool.{eqb-true}
use Rattle.std.specs.Prelude.{not, if◌then◌else◌}
use Rattle.cm_abi_model.specs.Requests.{tagged_charset}
use Rattle.cm_abi_model.specs.Texts.{IsAligned, text_align, latin1, utf16}
use Rattle.cm_abi_model.specs.declared.encoding.StringEncoding.{StringEncoding}
use Rattle.cm_abi_model.specs.declared.encoding.StringEncoding.TheVariants as encoding

pub multiple : (align at : ℕ) → IsAligned align at → (at % align == 0) ≡ true
multiple align at is = ap (λ n. n % align == 0) is.1 ∙ ap (λ n. n == 0) (mul-mod_left is.0 align)

pub aligned : (align at : ℕ) → (at % align == 0) ≡ true → IsAligned align at
aligned align at e =
    let z : at % align ≡ 0 = eqb-true (at % align) 0 e in
    (at / align, omega (arith, div-add-mod at align, mul_comm align (at / align)))

pub text_some : (e : StringEncoding) → 0 < text_align e
text_some encoding.Utf8 = omega arith
text_some encoding.Utf16 = omega arith
text_some encoding.Latin1OrUtf16 = omega arith

pub by_tag : (b : Bool) → tagged_charset (not b) ≡ (if b then latin1 else utf16)
by_tag true = refl
by_tag false = refl
