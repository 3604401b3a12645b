use Rattle.std.proofs.Common.{◌∙◌, ◌≡◌, ap, sym, subst, ℕ, Vec, Global}
use Rattle.std.proofs.lemmas.Bool.{false≢true}
use Rattle.std.specs.Str.{chars}
use Rattle.std.specs.String.{string_bytes}
use Rattle.cm_text.specs.Text.{IsText}
use Rattle.cm_abi_load.proofs.TextLemmas.{utf8_of}
use Rattle.cm_abi_load.proofs.texts.text_in.Goals as goal
use Rattle.cm_text.proofs.Utf8Laws.{same_chars}

pub unreachable-requires : goal.unreachable-requires
unreachable-requires g c = false≢true (c.in-Err.ensures.succeeds (utf8_of c.in-Ok.ensures.ok.0 c.in-Ok.text.items c.in-Ok.ensures.ok.2))

pub returns-clause-ok : goal.returns-clause-ok
returns-clause-ok g c =
    let bytes_are : string_bytes c.in-Ok-from_utf8.text ≡ c.in-Ok.text.items = ap (λ (v : Vec ℕ Global). v.items) c.in-Ok-from_utf8.ensures.ok in
    subst (λ cs. IsText g.S.Source.has g.S.Source.spell cs c.args.bytes.now)
    (same_chars c.in-Ok.ensures.ok.0 c.in-Ok.text.items c.in-Ok.ensures.ok.2 ∙ ap chars (sym bytes_are)) c.in-Ok.ensures.ok.1
