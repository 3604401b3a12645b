use Rattle.std.proofs.Common.{◌≡◌, ◌∙◌, length, rules}
use Rattle.std.proofs.lemmas.Str.{chars_from_encodes}
use Rattle.std.specs.Str.{chars}
use Rattle.cm_abi_requests.proofs.TextSizes.{size_1}
use Rattle.cm_abi_requests.proofs.charsets.text_size.Goals as goal
use Rattle.cm_text.proofs.Utf8Laws.{size_8}

pub returns-in-Utf8 : goal.returns-in-Utf8
returns-in-Utf8 c = rw c.in-Utf8.is (size_8 c.args.text.now c.utf8.text)

pub returns-in-Latin1 : goal.returns-in-Latin1
returns-in-Latin1 c =
    let counted : c.count.result ≡ length (chars c.args.text.now) = search (rules, chars_from_encodes) in
    rw c.in-Latin1.is (counted ∙ size_1 (chars c.args.text.now))
