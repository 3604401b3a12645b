-- What stands in quotes, as text.
use Rattle.std.proofs.Common.{◌≡◌, ℕ, Bool, true, false, List, length, Ok, Err, refl, sym, ap, subst}
use Rattle.std.specs.Str.{is_utf8, IsUtf8}
use Rattle.std.proofs.lemmas.Str.{is_utf8-from_IsUtf8, IsUtf8-from_is_utf8}
use Rattle.cm_lemmas.proofs.Results.{ok_of}
use Rattle.cm_values.specs.declared.value_fault.Fault.{Fault}
use Rattle.cm_values.specs.declared.value_fault.ValueReason.TheVariants as reason
use Rattle.cm_values.specs.ReadFaults.{flaw}
use Rattle.cm_values.specs.Quoted.{quoted, quoted_text}

pub text_reads : (quote : ℕ) (old mid bytes text : List ℕ) → (quoted quote).reads old ≡ Ok (bytes, mid) → text ≡ bytes → IsUtf8 text → (quoted_text quote).reads old ≡ Ok (text, mid)
text_reads quote old mid bytes text e same utf8 =
    let valid : is_utf8 bytes ≡ true = is_utf8-from_IsUtf8 bytes (subst IsUtf8 same utf8) in
    rw (e, valid) (ap (λ (z : List ℕ). ok_of Fault (z, mid)) (sym same))

not_utf8 : (bytes : List ℕ) → (IsUtf8 bytes → ⊥) → is_utf8 bytes ≡ false
not_utf8 bytes wrong = by (is_utf8 bytes) refl
  where
    by : (b : Bool) → is_utf8 bytes ≡ b → b ≡ false
    by true e = absurd (wrong (IsUtf8-from_is_utf8 bytes e))
    by false e = refl

pub text_refused : (quote : ℕ) (old mid bytes : List ℕ) → (quoted quote).reads old ≡ Ok (bytes, mid) → (IsUtf8 bytes → ⊥) → (quoted_text quote).reads old ≡ Err (flaw (length old) reason.NotUtf8)
text_refused quote old mid bytes e wrong = rw (e, not_utf8 bytes wrong) refl
