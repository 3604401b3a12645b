use Rattle.std.proofs.Common.{◌≡◌}
use Rattle.std.proofs.lemmas.Result.{on_ok_weaker}
use Rattle.cm_validate_spaces.specs.cm_validate_entries.Entries.{members_of}
use Rattle.cm_validate_functions.proofs.LiftLaws.{kept_met, kept_new}
use Rattle.cm_validate_functions.proofs.lifts.add_once.Goals as goal

pub returns-then-was : goal.returns-then-was
returns-then-was c = λ types funcs s all numbered kept.
    kept_met funcs s all c.args.met.now _ c.args.lifts.now.items c.args.export c.args.number (members_of types funcs c.args.instance.now) c.in_ok-was.ensures.was c.if-was.true c.in_ok-was.ensures.met numbered kept

pub returns : goal.returns
returns c = on_ok_weaker c.add_instance.result
    (λ more types funcs s all numbered kept.
    kept_new funcs s all c.args.met.now _ c.args.lifts.now.items _ c.args.export c.args.number (members_of types funcs c.args.instance.now) c.in_ok-was.ensures.met numbered (more types funcs) kept)
    c.add_instance.ensures
