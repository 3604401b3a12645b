use Rattle.std.proofs.Common.{◌≡◌, ◌%◌, ◌==◌, ◌∙◌, sym, ap, length, arith, true, false}
use Rattle.std.specs.Char.{is_ascii_hexdigit}
use Rattle.std.specs.List.{list_all}
use Rattle.cm_tool_script.proofs.HexBytesLaws.{digits_of, pairs_of, some-bytes, text-of-length}
use Rattle.cm_tool_script.proofs.hex_bytes.is_pairs.Goals as goal

pub returns-then-text-eq0-clause-some : goal.returns-then-text-eq0-clause-some
returns-then-text-eq0-clause-some c digits =
    let text = c.args.text.now in
    let even : length text % 2 ≡ 0 = omega (arith, c.if-text-eq0.true) in
    let all : list_all is_ascii_hexdigit text ≡ true = sym (ap (list_all is_ascii_hexdigit) c.as_bytes.ensures.value) ∙ sym c.are_hex_digits.ensures ∙ digits in
    let found = pairs_of text even all in
    let not_none : (length text == 0) ≡ false = sym c.is_empty.ensures ∙ c.if-is_empty.false in
    let filled = text-of-length text not_none in
    (found.0, some-bytes text found.0 filled found.1, found.1)

pub returns-then-text-eq0-clause-all : goal.returns-then-text-eq0-clause-all
returns-then-text-eq0-clause-all c bytes some pairs =
    c.are_hex_digits.ensures ∙ ap (list_all is_ascii_hexdigit) c.as_bytes.ensures.value ∙ (digits_of c.args.text.now bytes pairs).1

pub returns-else-text-eq0-clause-all : goal.returns-else-text-eq0-clause-all
returns-else-text-eq0-clause-all c bytes some pairs =
    let even = (digits_of c.args.text.now bytes pairs).0 in
    ap (λ n. n == 0) even
