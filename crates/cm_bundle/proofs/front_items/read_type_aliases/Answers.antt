use Rattle.std.proofs.Common.{◌∙◌, refl}
use Rattle.std.proofs.lemmas.Result.{err_from_is_err_and}
use Rattle.cm_binary_grammar.proofs.ReadingLaws.{chain_turn, chain_stops}
use Rattle.cm_bundle.specs.Fronts.{type_alias}
use Rattle.cm_bundle.specs.Trees.{type_alias_tree}
use Rattle.cm_bundle.proofs.front_items.read_type_aliases.Goals as goal

pub returns-in_err-alias-clause-read : goal.returns-in_err-alias-clause-read
returns-in_err-alias-clause-read c =
    let p = err_from_is_err_and c.from_residual.result c.from_residual.ensures.1 in
    rw (p.1, p.2) (chain_stops (λ (s : Unit {0}). type_alias) (λ s x. s) type_alias_tree c.loop.aliases.items c.args.count c.loop.counter tt c.loop.bytes.end c.loop.bytes.rest.now c.in_err-alias.field-0.0 _ c.loop-test.true c.in_err-alias.ensures.read c.loop.invariant.0)

pub loop-preserved : goal.loop-preserved
loop-preserved c = (
  chain_turn (λ (s : Unit {0}). type_alias) (λ s x. s) type_alias_tree c.loop.aliases.items c.push.new.self.items c.in_ok-alias.alias c.args.count c.loop.counter tt tt c.loop.bytes.end c.read_type_alias.new.bytes.end c.loop.bytes.rest.now c.read_type_alias.new.bytes.rest.now _ c.in_ok-push.ensures.items c.in_ok-alias.ensures.end refl c.loop-test.true c.in_ok-alias.ensures.read c.loop.invariant.0,
  c.in_ok-alias.ensures.end ∙ c.loop.invariant.1,
)
