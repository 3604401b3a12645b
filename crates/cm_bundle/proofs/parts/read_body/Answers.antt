use Rattle.std.proofs.Common.{◌∙◌, ◌+◌, ◌-◌, ap, map, arith}
use Rattle.std.proofs.lemmas.Result.{err_from_is_err_and}
use Rattle.std.proofs.lemmas.List.{map_push}
use Rattle.cm_bundle.specs.Spelled.{Spaces}
use Rattle.cm_bundle.specs.Trees.{part_tree, supply_tree}
use Rattle.cm_bundle.proofs.ReadingLoops.{body_part, body_exports, body_fails, body_part_fails, body_exports_fail, body_ends, after_is}
use Rattle.cm_bundle.proofs.parts.read_body.Goals as goal

pub returns-in_err-next-clause-read : goal.returns-in_err-next-clause-read
returns-in_err-next-clause-read c =
    let l = c.loop in
    let p = err_from_is_err_and c.from_residual.result c.from_residual.ensures.1 in
    let s : Spaces = record { counts = l.counts; places = l.places.items } in
    rw (p.1, p.2) (body_fails (1001 - l.counter) (1001 - (l.counter + 1)) s (map part_tree l.parts.items) l.bytes.end l.bytes.rest.now c.in_err-next.field-0.0 _ (omega (arith, c.loop-test.true)) c.in_err-next.ensures.read l.invariant.0)

pub returns-in_err-exports-in-Exports-clause-read : goal.returns-in_err-exports-in-Exports-clause-read
returns-in_err-exports-in-Exports-clause-read c =
    let l = c.loop in
    let p = err_from_is_err_and c.from_residual-in_err-exports-in-Exports.result c.from_residual-in_err-exports-in-Exports.ensures.1 in
    let s : Spaces = record { counts = l.counts; places = l.places.items } in
    let next = rw c.in-Exports.is at c.in_ok-next.ensures.read in
    let fails = rw c.deref.ensures.value at c.in_err-exports-in-Exports.ensures.read in
    rw (p.1, p.2) (body_exports_fail (1001 - l.counter) (1001 - (l.counter + 1)) s (map part_tree l.parts.items) l.bytes.end c.code.new.self.end l.bytes.rest.now c.code.new.self.rest.now c.in_err-exports-in-Exports.field-0.0 _ (omega (arith, c.loop-test.true)) c.in_ok-next.ensures.end next fails l.invariant.0)

pub returns-in-Exports-clause-read : goal.returns-in-Exports-clause-read
returns-in-Exports-clause-read c =
    let l = c.loop in
    let s : Spaces = record { counts = l.counts; places = l.places.items } in
    let next = rw c.in-Exports.is at c.in_ok-next.ensures.read in
    let read = rw c.deref.ensures.value at c.in_ok-exports-in-Exports.ensures.read in
    body_exports (1001 - l.counter) (1001 - (l.counter + 1)) s (map part_tree l.parts.items) (map supply_tree c.in_ok-exports-in-Exports.exports.items) l.bytes.end c.code.new.self.end l.bytes.rest.now c.code.new.self.rest.now c.read_exports.new.bytes.rest.now _ (omega (arith, c.loop-test.true)) c.in_ok-next.ensures.end next read l.invariant.0

pub returns-in_err-part-in-Part-clause-read : goal.returns-in_err-part-in-Part-clause-read
returns-in_err-part-in-Part-clause-read c =
    let l = c.loop in
    let p = err_from_is_err_and c.from_residual-in_err-part-in-Part.result c.from_residual-in_err-part-in-Part.ensures.1 in
    let s : Spaces = record { counts = l.counts; places = l.places.items } in
    let next = rw c.in-Part.is at c.in_ok-next.ensures.read in
    let fails = rw c.deref-in-Part.ensures.value at c.in_err-part-in-Part.ensures.read in
    rw (p.1, p.2) (body_part_fails (1001 - l.counter) (1001 - (l.counter + 1)) s (map part_tree l.parts.items) l.bytes.end c.code.new.self.end l.bytes.rest.now c.code.new.self.rest.now c.in_err-part-in-Part.field-0.0 _ (omega (arith, c.loop-test.true)) c.in_ok-next.ensures.end next fails l.invariant.0)

pub loop-preserved : goal.loop-preserved
loop-preserved c =
    let l = c.loop in
    let s : Spaces = record { counts = l.counts; places = l.places.items } in
    let one = c.in_ok-part-in-Part in
    let next = rw c.in-Part.is at c.in_ok-next.ensures.read in
    let read = rw c.deref-in-Part.ensures.value at one.ensures.read in
    let pushed = ap (map part_tree) c.in_ok-push-in-Part.ensures.items ∙ map_push part_tree l.parts.items one.part in
    let after = after_is s (part_tree one.part) one.aliased c.counted-counts.result c.push-in-Part.new.self.items read.1 c.counted-counts.ensures c.in_ok-push-in-Part-2.ensures.items in (
      body_part (1001 - l.counter) (1001 - (l.counter + 1)) s _ (map part_tree l.parts.items) _ (part_tree one.part) l.bytes.end c.code.new.self.end c.read_part.new.bytes.end l.bytes.rest.now c.code.new.self.rest.now c.read_part.new.bytes.rest.now _ (omega (arith, c.loop-test.true)) after pushed c.in_ok-next.ensures.end (one.ensures.end ∙ c.in_ok-next.ensures.end) next read.0 l.invariant.0,
      one.ensures.end ∙ c.in_ok-next.ensures.end ∙ l.invariant.1,
      rw c.counted-counts.ensures (omega (arith, one.ensures.functions, l.invariant.2)),
      rw c.counted-counts.ensures (omega (arith, one.ensures.instances, l.invariant.3)),
    )

pub returns-clause-read : goal.returns-clause-read
returns-clause-read c =
    let l = c.loop in
    let s : Spaces = record { counts = l.counts; places = l.places.items } in
    rw c.fault.ensures (body_ends (1001 - l.counter) s (map part_tree l.parts.items) l.bytes.end l.bytes.rest.now _ (omega (arith, c.loop-test.false)) l.invariant.0)
