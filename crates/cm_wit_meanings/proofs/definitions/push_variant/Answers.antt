use Rattle.std.proofs.Common.{rules}
use Rattle.cm_wit_meanings.specs.Meanings.{variant_of}
use Rattle.cm_wit_meanings.proofs.PartsAddedLaws.{answers_so, made, refused, type_added}
use Rattle.cm_wit_meanings.proofs.PartsFaultLaws.{made_fault}
use Rattle.cm_wit_meanings.proofs.definitions.push_variant.Goals as goal

pub returns-in_err-cases : goal.returns-in_err-cases
returns-in_err-cases c = answers_so (search rules) (refused c.in_err-cases.ensures (made_fault variant_of _ _))

pub push-requires : goal.push-requires
push-requires c = record { parts = c.in_ok-cases.ensures.there }

pub returns : goal.returns
returns c =
    made variant_of c.in_ok-cases.ensures (type_added c.push_cases.new.types c.push.new.types _ c.push.result c.push.ensures.there c.push.ensures.ty c.push.ensures.fault c.push.ensures.grown c.push.ensures.funcs)
