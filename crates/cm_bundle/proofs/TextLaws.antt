-- The test of UTF-8 as a fact.
use Rattle.std.proofs.Common.{◌≡◌, ℕ, false, List, inl, inr}
use Rattle.std.specs.Str.{IsUtf8, is_utf8}
use Rattle.std.proofs.lemmas.Str.{IsUtf8-from_is_utf8}
use Rattle.std.proofs.lemmas.Bool.{cases_Bool}

pub utf8_test_fails : (bytes : List ℕ) → ¬ IsUtf8 bytes → is_utf8 bytes ≡ false
utf8_test_fails bytes h =
    elim (cases_Bool (is_utf8 bytes)) [
      | inl t ↦ absurd (h (IsUtf8-from_is_utf8 bytes t))
      | inr f ↦ f
    ]
