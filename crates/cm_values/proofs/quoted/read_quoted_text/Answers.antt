use Rattle.std.proofs.Common.{◌≡◌, ℕ, ap, Vec, Global}
use Rattle.std.specs.String.{string_bytes}
use Rattle.std.proofs.lemmas.Bool.{false≢true}
use Rattle.std.proofs.lemmas.Str.{IsUtf8-string_bytes}
use Rattle.cm_values.proofs.TextLaws.{text_reads, text_refused}
use Rattle.cm_values.proofs.quoted.read_quoted_text.Goals as goal

pub returns-in-Ok : goal.returns-in-Ok
returns-in-Ok c =
    let bytes = c.in_ok-read_quoted.field-0 in
    let same : string_bytes c.in-Ok.text ≡ bytes.items = ap (λ (v : Vec ℕ Global). v.items) c.in-Ok.ensures.ok in
    text_reads c.args.quote c.args.cursor.now.rest.now c.read_quoted.new.cursor.rest.now bytes.items (string_bytes c.in-Ok.text) c.in_ok-read_quoted.ensures same (IsUtf8-string_bytes c.in-Ok.text)

pub returns : goal.returns
returns c =
    rw c.fault.ensures (text_refused c.args.quote c.args.cursor.now.rest.now c.read_quoted.new.cursor.rest.now c.in_ok-read_quoted.field-0.items c.in_ok-read_quoted.ensures (λ utf8. false≢true (c.in-Err.ensures.succeeds utf8)))
