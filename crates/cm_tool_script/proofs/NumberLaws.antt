-- Decimal digits, and the number that they are read as.
use Rattle.std.proofs.Common.{◌≡◌, ℕ, zero, suc, ◌^◌, ◌<◌, ◌≤◌, List, true, Some, Result, Ok, Err}
use Rattle.std.proofs.Common.{sym, ap, ◌∙◌, arith, rules}
use Rattle.std.specs.Prelude.{IfSome}
use Rattle.std.specs.Char.{is_ascii_digit}
use Rattle.std.specs.List.{list_all}
use Rattle.std.specs.Result.{result_ok}
use Rattle.std.specs.Fmt.{decimal}
use Rattle.std.specs.Str.Parse.{digits_value, ParsesUnsigned}
use Rattle.std.proofs.lemmas.Fmt.{decimal-digits_value, decimal_nonempty, digits_decimal}
use Rattle.std.proofs.lemmas.Fmt.{first_decimal, length-decimal-le, parse-decimal}
use Rattle.std.proofs.lemmas.Str.Parse.{IsDigitsTest, IsNumeralModel, numerals_by_value}
use Rattle.std.proofs.lemmas.Str.Parse.{parse_digits}
use Rattle.cm_tool_script.specs.Numbers.{IsDecimal}

abbrev AreDigits : List ℕ → Type 0
AreDigits ds = list_all is_ascii_digit ds ≡ true

tells_digits : IsDigitsTest AreDigits
tells_digits = search rules

own : IsNumeralModel AreDigits (digits_value 10)
own = numerals_by_value AreDigits tells_digits

-- what is read is what is written
pub decimal-read : {E : Type 0} (k : ℕ) (text : List ℕ) (r : Result ℕ E) → 2 ^ k ≤ 2 ^ 64 → IsDecimal text → ParsesUnsigned k 10 text r → IfSome (result_ok r) (λ n. text ≡ decimal n)
decimal-read {E} k text (Ok n) fits d h =
    let read = parse_digits own {E = E} k text (Ok n) h d.0 in
    let small : digits_value 10 text < 2 ^ 64 = omega (arith, read.0.1) in
    sym (decimal-digits_value own text d.0 d.1 d.2 small) ∙ ap decimal (sym read.1)
decimal-read k text (Err e) fits d h = tt

-- what is written is read
pub read-decimal : {E : Type 0} (k n : ℕ) (text : List ℕ) (r : Result ℕ E) → n < 2 ^ k → n < 2 ^ 64 → text ≡ decimal n → ParsesUnsigned k 10 text r → result_ok r ≡ Some n
read-decimal k n text r fits small is h = ap result_ok (parse-decimal k n text r fits small is h)

-- what a number is written as is decimal
pub IsDecimal-decimal : (n : ℕ) → n < 2 ^ 64 → IsDecimal (decimal n)
IsDecimal-decimal zero small = (digits_decimal own 0 small, decimal_nonempty 0 small, λ e. omega (arith, decimal_nonempty 0 small, length-decimal-le 1 0 (omega arith) (omega arith) small))
IsDecimal-decimal (suc n) small =
    let first = first_decimal (suc n) (omega arith) small in
    (digits_decimal own (suc n) small, decimal_nonempty (suc n) small, λ e. absurd (omega (arith, first, e)))
