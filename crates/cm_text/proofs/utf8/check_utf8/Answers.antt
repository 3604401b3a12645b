use Rattle.std.proofs.Common.{subst, sym}
use Rattle.std.specs.Str.{IsValidUpTo}
use Rattle.cm_text.proofs.Utf8Lemmas.{text_of, text_up_to}
use Rattle.cm_text.proofs.utf8.check_utf8.Goals as goal

pub returns-in-Ok-clause-ok : goal.returns-in-Ok-clause-ok
returns-in-Ok-clause-ok c = text_of c.args.bytes.now c.in-Ok.ensures.cases.1

pub returns-in-Err-clause-ill_formed : goal.returns-in-Err-clause-ill_formed
returns-in-Err-clause-ill_formed c =
    text_up_to c.args.bytes.now c.valid_up_to.result (subst (IsValidUpTo c.args.bytes.now) (sym c.valid_up_to.ensures) c.in-Err.ensures.cases.1)
