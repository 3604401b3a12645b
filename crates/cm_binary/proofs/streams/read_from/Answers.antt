use Rattle.std.proofs.Common.{◌<◌, ◌++◌, ◌∙◌, length, take, arith, inl}
use Rattle.std.proofs.KnownBytes.{Consumes-trans}
use Rattle.std.proofs.lemmas.Result.{err_from_is_err_and}
use Rattle.cm_binary.proofs.PieceLaws.{IsBytes-append}
use Rattle.cm_binary.proofs.StreamLaws.{read_ended, read_stays, read_fails}
use Rattle.cm_binary.proofs.streams.read_from.Goals as goal

pub returns-in-Some-eq0 : goal.returns-in-Some-eq0
returns-in-Some-eq0 g c =
    let so_far = c.loop.invariant in
    let none = c.in-Some-eq0.field-0-test in
    let room : 0 < length c.read_some.new.buffer = omega (arith, c.read_some.auto.buffer, so_far.3) in
    read_ended _ _ _ so_far.0 c.read_some.new.buffer c.in-Some-eq0.field-0 c.finish.result none so_far.1 c.in-Some-eq0.ensures.bytes (c.in-Some-eq0.ensures.end none room) so_far.2.are_bytes (c.finish.ensures so_far.0 so_far.2)

pub returns-in_err-take-in-Some : goal.returns-in_err-take-in-Some
returns-in_err-take-in-Some g c =
    let so_far = c.loop.invariant in
    let p = err_from_is_err_and c.from_residual.result c.from_residual.ensures.1 in
    let piece = take c.in-Some.count c.read_some.new.buffer in
    read_stays _ _ _ so_far.0 piece c.loop.gathered.decoder c.take.new.self.decoder c.loop.gathered.unfed.items c.take.new.self.unfed.items c.from_residual.result c.in_err-take-in-Some.field-0.0 p.0 p.1 p.2 so_far.1 c.in-Some.ensures.bytes (IsBytes-append so_far.0 piece so_far.2.are_bytes c.in_err-take-in-Some.ensures.bytes) so_far.2 c.in_err-take-in-Some.ensures.err

pub returns-in-None : goal.returns-in-None
returns-in-None g c =
    let so_far = c.loop.invariant in
    read_fails _ _ _ so_far.0 c.read_fault.result so_far.1 c.in-None.ensures.bytes so_far.2.are_bytes (c.read_fault.ensures so_far.0 so_far.2)

pub loop-preserved : goal.loop-preserved
loop-preserved g c =
    let so_far = c.loop.invariant in
    let piece = take c.in-Some.count c.read_some.new.buffer in
    (so_far.0 ++ piece, Consumes-trans _ _ _ so_far.0 piece so_far.1 c.in-Some.ensures.bytes, c.in_ok-take-in-Some.ensures.ok so_far.0 so_far.2, c.read_some.auto.buffer ∙ so_far.3)

pub returns : goal.returns
returns g c =
    let so_far = c.loop.invariant in
    (so_far.0, so_far.1, so_far.2.are_bytes, inl (c.read_fault-2.ensures so_far.0 so_far.2))
