use Rattle.std.proofs.Common.{◌<◌, arith, length}
use Rattle.cm_match_serving.specs.Linkings.{components_in, set_in}
use Rattle.cm_match.proofs.Walking.{walk_ends, walk_goes_on, walk_stops}
use Rattle.cm_match.proofs.walk.walk_imports.Goals as goal
use Rattle.cm_match_serving.proofs.Judging.{set_length}

pub returns-in-Err-clause-fault : goal.returns-in-Err-clause-fault
returns-in-Err-clause-fault c =
    let set = set_in c.args.linking.now in
    let there : c.args.component < length set.spaces = omega (arith, c.requires.there, set_length (components_in c.args.linking.now)) in
    walk_stops set c.args.component c.loop-import.import c.import_count-import-end.result c.loop-import.plan.items c.in-Err.reason there c.import_count-import-end.ensures c.loop-import-test.true c.loop-import.invariant.1 c.in-Err.ensures.stops

pub loop-import-preserved : goal.loop-import-preserved
loop-import-preserved c =
    let set = set_in c.args.linking.now in
    let there : c.args.component < length set.spaces = omega (arith, c.requires.there, set_length (components_in c.args.linking.now)) in
    (c.in-Ok.ensures.known, walk_goes_on set c.args.component c.loop-import.import c.import_count-import-end.result c.loop-import.plan.items c.walk_import.new.plan.items there c.import_count-import-end.ensures c.loop-import-test.true c.loop-import.invariant.1 c.in-Ok.ensures.served)

pub returns-clause-served : goal.returns-clause-served
returns-clause-served c =
    let set = set_in c.args.linking.now in
    let there : c.args.component < length set.spaces = omega (arith, c.requires.there, set_length (components_in c.args.linking.now)) in
    walk_ends set c.args.component c.loop-import.import c.import_count-import-end.result c.loop-import.plan.items there c.import_count-import-end.ensures (omega arith) c.loop-import.invariant.1
