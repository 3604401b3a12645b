use Rattle.std.proofs.Common.{sym, arith, inl, inr}
use Rattle.cm_leb.proofs.SignedLaws.{signed_from_past}
use Rattle.cm_leb.proofs.reading.signed_from.Goals as goal

pub returns-in_default : goal.returns-in_default
returns-in_default c = sym (signed_from_past c.args.bytes.now c.args.at (elim c.in_default.ensures.lookup.0 [ inl h ↦ omega arith | inr h ↦ absurd (omega arith) ]))
