use Rattle.std.proofs.Common.{◌≡◌, ◌+◌, ◌<◌, ◌∙◌, ℕ, ap, sym, arith, take}
use Rattle.cm_types.specs.declared.limits.TheConstants.{MAX_NODES}
use Rattle.cm_types.specs.Limits.{nodes_of}
use Rattle.cm_types_arena.specs.declared.summaries.Summary.{Summary}
use Rattle.cm_validate_types.specs.TypeScopes.{arena_funcs, arena_types, own_types}
use Rattle.cm_validate_types.specs.Uses.{nodes_together}
use Rattle.cm_validate_types.proofs.MovedLaws.{told_same}
use Rattle.cm_validate_types.proofs.SettledLaws.{not_within, one_more_nodes}
use Rattle.cm_validate_types.proofs.scope.TypeScope.are_within.Goals as goal

pub returns-then-nodes-from : goal.returns-then-nodes-from
returns-then-nodes-from c =
    let s = c.args.self.now in
    let known = c.from-nodes.ensures ∙ ap (λ (k : Summary). k.nodes) c.summary.ensures ∙ ap nodes_of c.value_place.ensures.ty
    ∙ sym (told_same (arena_types s) (arena_funcs s) nodes_of c.what_stays.ensures.nodes s.own.entries.items _) in
    let so_far = ap (λ (k : ℕ). k + c.from-nodes.result) c.loop-ty.invariant.nodes
    ∙ ap (λ (k : ℕ). nodes_together (own_types s) (take c.loop-ty.ty-index c.args.uses.now) + k) known
    ∙ sym (one_more_nodes (own_types s) c.args.uses.now c.loop-ty.ty-index _ c.loop-ty-test.true) in
    let most : c.from.result ≡ MAX_NODES = c.from.ensures in
    not_within (own_types s) c.args.uses.now (c.loop-ty.ty-index + 1) (c.loop-ty.nodes + c.from-nodes.result) so_far (omega (arith, most, c.if-nodes-from.true))

pub loop-ty-preserved : goal.loop-ty-preserved
loop-ty-preserved c =
    let s = c.args.self.now in
    let known = c.from-nodes.ensures ∙ ap (λ (k : Summary). k.nodes) c.summary.ensures ∙ ap nodes_of c.value_place.ensures.ty
    ∙ sym (told_same (arena_types s) (arena_funcs s) nodes_of c.what_stays.ensures.nodes s.own.entries.items _) in
    let most : c.from.result ≡ MAX_NODES = c.from.ensures in
    record {
      nodes = ap (λ (k : ℕ). k + c.from-nodes.result) c.loop-ty.invariant.nodes
          ∙ ap (λ (k : ℕ). nodes_together (own_types s) (take c.loop-ty.ty-index c.args.uses.now) + k) known
          ∙ sym (one_more_nodes (own_types s) c.args.uses.now c.loop-ty.ty-index _ c.loop-ty-test.true);
      few = omega (arith, most, c.if-nodes-from.false);
    }
