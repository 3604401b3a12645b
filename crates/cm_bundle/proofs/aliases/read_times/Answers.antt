use Rattle.std.proofs.Common.{◌∙◌, refl, ap, length, arith}
use Rattle.std.proofs.lemmas.Result.{err_from_is_err_and}
use Rattle.cm_binary_grammar.proofs.ReadingLaws.{chain_turn, chain_stops}
use Rattle.cm_lemmas.proofs.Lists.{one_longer}
use Rattle.cm_bundle.specs.Grammar.{alias}
use Rattle.cm_bundle.specs.Trees.{export_tree}
use Rattle.cm_bundle.proofs.aliases.read_times.Goals as goal

pub returns-in_err-export-clause-read : goal.returns-in_err-export-clause-read
returns-in_err-export-clause-read c =
    let p = err_from_is_err_and c.from_residual.result c.from_residual.ensures.1 in
    rw (p.1, p.2) (chain_stops (λ (s : Unit {0}). alias c.args.places.now) (λ s x. s) export_tree c.loop.exports.items c.args.count c.loop.counter tt c.loop.bytes.end c.loop.bytes.rest.now c.in_err-export.field-0.0 _ c.loop-test.true c.in_err-export.ensures.read c.loop.invariant.0)

pub loop-preserved : goal.loop-preserved
loop-preserved c = (
  chain_turn (λ (s : Unit {0}). alias c.args.places.now) (λ s x. s) export_tree c.loop.exports.items c.push.new.self.items c.in_ok-export.export c.args.count c.loop.counter tt tt c.loop.bytes.end c.read_alias.new.bytes.end c.loop.bytes.rest.now c.read_alias.new.bytes.rest.now _ c.in_ok-push.ensures.items c.in_ok-export.ensures.end refl c.loop-test.true c.in_ok-export.ensures.read c.loop.invariant.0,
  c.in_ok-export.ensures.end ∙ c.loop.invariant.1,
  omega (arith, ap length c.in_ok-push.ensures.items, one_longer c.loop.exports.items c.in_ok-export.export, c.loop.invariant.2),
)
