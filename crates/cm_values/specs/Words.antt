-- Blanks, marks, words and numbers in the text of a value (WAVE, "Encoding").
use Rattle.std.specs.Prelude.{ℕ, suc, ◌+◌, ◌-◌, ◌*◌, ◌==◌, ◌||◌, not, Bool, true, false}
use Rattle.std.specs.Prelude.{if◌then◌else◌, nat_lt, List, [], ◌∷◌, Result, Ok, Err}
use Rattle.std.specs.Char.{is_ascii_alphanumeric, is_ascii_digit, is_ascii_hexdigit}
use Rattle.std.specs.Str.{bytes_eq}
use Rattle.cm_values.specs.declared.value_fault.ValueReason.{ValueReason}
use Rattle.cm_values.specs.declared.value_fault.ValueReason.TheVariants as reason
use Rattle.cm_values.specs.declared.kind.Kind.{Kind}
use Rattle.cm_values.specs.declared.kind.Kind.TheVariants as kind
use Rattle.cm_values.specs.Grammar.{Grammar, done, fail, ◌>>=◌, byte, chosen, run, checked}

-- ---- marks

-- whether a byte is this one
abbrev pub is : ℕ → ℕ → Bool
is b c = c == b

-- this byte
abbrev pub this_byte : ℕ → ℕ → Result (Unit {0}) ValueReason
this_byte b c = if is b c then Ok tt else Err reason.Unexpected

abbrev pub expect : ℕ → Grammar (Unit {0})
expect b = byte (this_byte b)

-- what a run is made of: spaces, tabs, carriage returns and line feeds; letters, digits and
-- hyphens; digits; hexadecimal digits
abbrev pub belongs : Kind → ℕ → Bool
belongs kind.Blank b = (b == 0x20) || ((b == 0x09) || ((b == 0x0D) || (b == 0x0A)))
belongs kind.Word b = is_ascii_alphanumeric b || (b == 0x2D)
belongs kind.Digits b = is_ascii_digit b
belongs kind.HexDigits b = is_ascii_hexdigit b

-- blanks, if there are any
abbrev pub gap : Grammar (Unit {0})
gap = run (belongs kind.Blank) >>= λ _. done tt

-- a mark, and blanks before it
abbrev pub mark : ℕ → Grammar (Unit {0})
mark b = gap >>= λ _. expect b

-- a mark, and blanks behind it
abbrev pub mark_gap : ℕ → Grammar (Unit {0})
mark_gap b = expect b >>= λ _. gap

-- behind a thing of a list: a comma, or the mark that closes the list, which is left there
abbrev pub separator : ℕ → Grammar (Unit {0})
separator closing =
    gap >>= λ _. chosen (is 0x2C) (mark_gap 0x2C)
    (chosen (is closing) (done tt) (fail reason.Unexpected))

-- ---- words

abbrev pub some_word : List ℕ → Result (List ℕ) ValueReason
some_word [] = Err reason.Unexpected
some_word (b ∷ bs) = Ok (b ∷ bs)

abbrev pub word : Grammar (List ℕ)
word = checked (run (belongs kind.Word)) some_word

-- a name, with `%` (0x25) before it or not
abbrev pub name : Grammar (List ℕ)
name = chosen (is 0x25) (expect 0x25 >>= λ _. word) word

abbrev pub one_more : Result ℕ ValueReason → Result ℕ ValueReason
one_more (Ok n) = Ok (suc n)
one_more (Err why) = Err why

-- the place of a name among these, from 0: the first one, if there is one
abbrev pub place_in : List (List ℕ) → List ℕ → Result ℕ ValueReason
place_in [] text = Err reason.UnknownName
place_in (l ∷ ls) text = if bytes_eq l text then Ok 0 else one_more (place_in ls text)

-- one of these names
abbrev pub known : List (List ℕ) → Grammar ℕ
known names = gap >>= λ _. checked name (place_in names)

-- ---- numbers

-- the number that a digit stands for: `0` to `9`, `A` to `F`, `a` to `f`
abbrev pub digit_of : ℕ → ℕ
digit_of b = if nat_lt b 0x3A then b - 0x30 else if nat_lt b 0x61 then b - 0x37 else b - 0x57

-- the number that these digits are behind those of n
unfoldable pub read_on : ℕ → ℕ → List ℕ → ℕ
read_on base n [] = n
read_on base n (d ∷ ds) = read_on base (n * base + digit_of d) ds

-- digits are a number where there is no zero in front of other digits
abbrev pub is_plain : List ℕ → Bool
is_plain [] = false
is_plain (d ∷ []) = true
is_plain (d ∷ e ∷ ds) = not (d == 0x30)

-- a number below a limit
abbrev pub number_below : ℕ → List ℕ → Result ℕ ValueReason
number_below limit ds =
    if is_plain ds
    then (if nat_lt (read_on 10 0 ds) limit then Ok (read_on 10 0 ds) else Err reason.OutOfRange)
    else Err reason.Unexpected

abbrev pub magnitude : ℕ → Grammar ℕ
magnitude limit = checked (run (belongs kind.Digits)) (number_below limit)
