use Rattle.std.proofs.Common.{◌≡◌, ◌-◌, ◌+◌, ◌<◌, length, ap, arith, length-append}
use Rattle.std.specs.List.{flat_map}
use Rattle.std.proofs.lemmas.Bool.Decides.{nat_tests}
use Rattle.cm_text.proofs.TextLemmas.{ends_at}
use Rattle.cm_text.proofs.source.Source.scalars.Goals as goal

pub returns-in_default-clause-ill_formed : goal.returns-in_default-clause-ill_formed
returns-in_default-clause-ill_formed g c =
    let has = g.Self.Source.has in
    let spell = g.Self.Source.spell in
    let met = g.met.Self.Source in
    let done = c.loop-rest.out.items in
    let bytes = c.args.bytes.now in
    let rest = c.loop-rest.rest.now in
    let some : 0 < length rest = grind (arith, nat_tests, c.loop-rest-test.ensures) in
    let at : length bytes - length rest + length rest ≡ length bytes =
    omega (arith, ap length c.loop-rest.invariant.split, length-append (flat_map spell done) rest) in
    ends_at has spell (record { some_byte = met.some_byte; one_spelling = met.one_spelling }) done bytes rest (length bytes - length rest) c.loop-rest.invariant.all c.loop-rest.invariant.split some at c.in_default.ensures.none
