use Rattle.std.proofs.Common.{◌≡◌, ◌+◌, ◌-◌, ◌<◌, ◌++◌, ◌∷◌, ap, arith, length, length-append}
use Rattle.std.proofs.lemmas.Bool.Decides.{nat_tests}
use Rattle.std.specs.Char.{IsScalar}
use Rattle.std.specs.List.{flat_map}
use Rattle.cm_text.specs.Utf16.{spell_utf16}
use Rattle.cm_text.proofs.AsciiLemmas.{utf16_laws}
use Rattle.cm_text.proofs.TextLemmas.{ends_at, read_more}
use Rattle.cm_text.proofs.utf16.check_utf16.Goals as goal

pub returns-in_default-clause-ill_formed : goal.returns-in_default-clause-ill_formed
returns-in_default-clause-ill_formed c =
    let done = c.loop-rest.invariant.0 in
    let read = c.loop-rest.invariant.1 in
    let bytes = c.args.bytes.now in
    let rest = c.loop-rest.rest.now in
    let some : 0 < length rest = grind (arith, nat_tests, c.loop-rest-test.ensures) in
    let at : length bytes - length rest + length rest ≡ length bytes = omega (arith, ap length read.split, length-append (flat_map spell_utf16 done) rest) in
    ends_at IsScalar spell_utf16 utf16_laws done bytes rest (length bytes - length rest) read.all read.split some at c.in_default.ensures.none

pub loop-rest-preserved : goal.loop-rest-preserved
loop-rest-preserved c =
    let done = c.loop-rest.invariant.0 in
    let scalar = c.in-Some.field-0-0 in
    let plain = c.after_plain_units-rest-in-loop-rest.ensures in (
      done ++ scalar ∷ plain.0,
      read_more IsScalar spell_utf16 done c.args.bytes.now c.loop-rest.rest.now scalar c.in-Some.after.now plain.0 c.after_plain_units-rest-in-loop-rest.result.now
          c.loop-rest.invariant.1 c.in-Some.ensures.some.0 c.in-Some.ensures.some.1 plain.1 plain.2,
    )
