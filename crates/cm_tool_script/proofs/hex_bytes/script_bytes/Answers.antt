use Rattle.std.proofs.Common.{◌≡◌, inl, inr, [], codes, refl, rules}
use Rattle.cm_tool_script.proofs.HexBytesLaws.{ArePairs-decode_of, some-bytes, some-text}
use Rattle.cm_tool_script.proofs.hex_bytes.script_bytes.Goals as goal

pub returns-then-eq-clause-refused : goal.returns-then-eq-clause-refused
returns-then-eq-clause-refused c none =
    let dash : c.args.text.now ≡ codes "-" = search (rules, c.if-eq.true) in
    absurd (none [] (inl (dash, refl)))

pub returns-in-Ok-clause-spelled : goal.returns-in-Ok-clause-spelled
returns-in-Ok-clause-spelled c =
    let text = c.args.text.now in
    let bytes = c.in-Ok.bytes.items in
    let pairs = ArePairs-decode_of text bytes c.in-Ok.ensures.ok in
    let some = c.if-not-is_pairs.ensures.some refl in
    inr (some-bytes text bytes (some-text text some.0 some.1 some.2) pairs, pairs)

pub returns-in-Ok-clause-refused : goal.returns-in-Ok-clause-refused
returns-in-Ok-clause-refused c none =
    let some = c.if-not-is_pairs.ensures.some refl in
    absurd (none some.0 (inr (some.1, some.2)))

pub returns-in-Err-clause-refused : goal.returns-in-Err-clause-refused
returns-in-Err-clause-refused c none =
    let some = c.if-not-is_pairs.ensures.some refl in
    absurd (none some.0 (inr (some.1, some.2)))
