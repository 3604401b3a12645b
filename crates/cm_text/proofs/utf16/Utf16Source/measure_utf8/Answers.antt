use Rattle.std.proofs.Common.{arith}
use Rattle.cm_text.proofs.PairLemmas.{unit_run_of}
use Rattle.cm_text.proofs.TightLemmas.{ascii_units_of_size}
use Rattle.cm_text.proofs.utf16.Utf16Source.measure_utf8.Goals as goal

pub overflow_mul-units : goal.overflow_mul-units
overflow_mul-units c =
    let run = unit_run_of c.args.bytes.now c.ascii_units-units.result c.ascii_units-units.ensures in
    omega (arith, run.within)

pub returns-then-units-bytes-clause-ok : goal.returns-then-units-bytes-clause-ok
returns-then-units-bytes-clause-ok c = ascii_units_of_size c.args.bytes.now c.ascii_units-units.result c.ascii_units-units.ensures c.if-units-bytes.true
