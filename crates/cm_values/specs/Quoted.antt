-- Chars and strings in the text of a value (WAVE, "Encoding").
use Rattle.std.specs.Prelude.{ℕ, ◌||◌, ◌==◌, if◌then◌else◌, nat_lt, List, [], ◌∷◌, ◌++◌, length}
use Rattle.std.specs.Prelude.{Option, Some, None, Result, Ok, Err}
use Rattle.std.specs.Str.{chars, is_utf8}
use Rattle.std.specs.Char.{encode_utf8}
use Rattle.cm_types.specs.TypedValues.{is_scalar_value}
use Rattle.cm_values.specs.declared.value_fault.ValueReason.{ValueReason}
use Rattle.cm_values.specs.declared.value_fault.ValueReason.TheVariants as reason
use Rattle.cm_values.specs.declared.kind.Kind.TheVariants as kind
use Rattle.cm_values.specs.declared.piece.Piece.{Piece}
use Rattle.cm_values.specs.declared.piece.Piece.TheVariants as piece_is
use Rattle.cm_values.specs.Grammar.{Grammar, done, ◌>>=◌, byte, chosen, run, checked, steps}
use Rattle.cm_values.specs.Words.{belongs, is, expect, read_on}

-- what stands for itself behind a `\`, and the letters for a tab, a line feed and a carriage return
abbrev pub escaped : ℕ → Result ℕ ValueReason
escaped b =
    if (b == 0x5C) || ((b == 0x27) || (b == 0x22)) then Ok b
    else if b == 0x74 then Ok 0x09
    else if b == 0x6E then Ok 0x0A
    else if b == 0x72 then Ok 0x0D
    else Err reason.BadEscape

-- the scalar that one to six hexadecimal digits are
abbrev pub scalar_of : List ℕ → Result ℕ ValueReason
scalar_of [] = Err reason.BadEscape
scalar_of (d ∷ ds) =
    if nat_lt 6 (length (d ∷ ds)) then Err reason.BadEscape
    else if is_scalar_value (read_on 16 0 (d ∷ ds)) then Ok (read_on 16 0 (d ∷ ds))
    else Err reason.BadEscape

-- `u{` digits `}`, or one letter
abbrev pub unicode : Grammar Piece
unicode =
    expect 0x75 >>= λ _. expect 0x7B >>= λ _.
    checked (run (belongs kind.HexDigits)) scalar_of >>= λ c.
    expect 0x7D >>= λ _. done (piece_is.Scalar c)

abbrev pub letter : Grammar Piece
letter = byte escaped >>= λ b. done (piece_is.Byte b)

abbrev pub escape : Grammar Piece
escape = expect 0x5C >>= λ _. chosen (is 0x75) unicode letter

abbrev pub any_byte : ℕ → Result ℕ ValueReason
any_byte b = Ok b

abbrev pub plain_piece : Grammar Piece
plain_piece = byte any_byte >>= λ b. done (piece_is.Byte b)

-- the next piece of a text in quotes; none at the mark that closes it
abbrev pub next_piece : ℕ → Grammar (Option Piece)
next_piece quote =
    chosen (is quote) (done None)
    (chosen (is 0x5C) (escape >>= λ p. done (Some p)) (plain_piece >>= λ p. done (Some p)))

-- the bytes of pieces
abbrev pub piece_bytes : Piece → List ℕ
piece_bytes (piece_is.Byte b) = b ∷ []
piece_bytes (piece_is.Scalar c) = encode_utf8 c

abbrev pub pieces_bytes : List Piece → List ℕ
pieces_bytes [] = []
pieces_bytes (p ∷ ps) = piece_bytes p ++ pieces_bytes ps

-- pieces up to the quote that closes them, as bytes
abbrev pub pieces : ℕ → Grammar (List ℕ)
pieces quote = steps (next_piece quote) >>= λ ps. done (pieces_bytes ps)

-- the same between two quotes
abbrev pub quoted : ℕ → Grammar (List ℕ)
quoted quote =
    expect quote >>= λ _. pieces quote >>= λ bytes. expect quote >>= λ _. done bytes

-- bytes that are UTF-8
abbrev pub utf8_bytes : List ℕ → Result (List ℕ) ValueReason
utf8_bytes bytes = if is_utf8 bytes then Ok bytes else Err reason.NotUtf8

abbrev pub quoted_text : ℕ → Grammar (List ℕ)
quoted_text quote = checked (quoted quote) utf8_bytes

-- the one character of a text
abbrev pub only_one : List ℕ → Result ℕ ValueReason
only_one [] = Err reason.NotOneChar
only_one (c ∷ []) = Ok c
only_one (c ∷ d ∷ cs) = Err reason.NotOneChar

abbrev pub one_char : List ℕ → Result ℕ ValueReason
one_char bytes = only_one (chars bytes)
