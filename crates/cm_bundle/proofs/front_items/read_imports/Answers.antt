use Rattle.std.proofs.Common.{◌∙◌, refl, ap, length, arith}
use Rattle.std.proofs.lemmas.Result.{err_from_is_err_and}
use Rattle.cm_binary_grammar.proofs.ReadingLaws.{chain_turn, chain_stops}
use Rattle.cm_lemmas.proofs.Lists.{one_longer}
use Rattle.cm_bundle.specs.Fronts.{import_}
use Rattle.cm_bundle.specs.Trees.{import_tree}
use Rattle.cm_bundle.proofs.front_items.read_imports.Goals as goal

pub returns-in_err-import-clause-read : goal.returns-in_err-import-clause-read
returns-in_err-import-clause-read c =
    let p = err_from_is_err_and c.from_residual.result c.from_residual.ensures.1 in
    rw (p.1, p.2) (chain_stops (λ (s : Unit {0}). import_) (λ s x. s) import_tree c.loop.imports.items c.args.count c.loop.counter tt c.loop.bytes.end c.loop.bytes.rest.now c.in_err-import.field-0.0 _ c.loop-test.true c.in_err-import.ensures.read c.loop.invariant.0)

pub loop-preserved : goal.loop-preserved
loop-preserved c = (
  chain_turn (λ (s : Unit {0}). import_) (λ s x. s) import_tree c.loop.imports.items c.push.new.self.items c.in_ok-import.import c.args.count c.loop.counter tt tt c.loop.bytes.end c.read_import.new.bytes.end c.loop.bytes.rest.now c.read_import.new.bytes.rest.now _ c.in_ok-push.ensures.items c.in_ok-import.ensures.end refl c.loop-test.true c.in_ok-import.ensures.read c.loop.invariant.0,
  c.in_ok-import.ensures.end ∙ c.loop.invariant.1,
  omega (arith, ap length c.in_ok-push.ensures.items, one_longer c.loop.imports.items c.in_ok-import.import, c.loop.invariant.2),
)
