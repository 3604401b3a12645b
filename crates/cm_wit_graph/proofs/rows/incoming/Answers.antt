use Rattle.std.proofs.Common.{◌≡◌, ◌<◌, length, get_or, arith, refl, ◌∙◌, sym, ap, subst, take, ◌++◌, ◌∷◌, [], List, ℕ, zero, suc, Vec, Global}
use Rattle.cm_wit_graph.proofs.MarkLaws.{row_is, row_push}
use Rattle.std.proofs.Math.Seq.{take-length}
use Rattle.cm_wit_graph.specs.Graphs.{Edges}
use Rattle.cm_wit_graph.specs.Rows.{row_of, sources}
use Rattle.std.proofs.lemmas.Result.{IfOk-from_err}
use Rattle.cm_wit_graph.proofs.rows.incoming.Goals as goal

pub loop-from-preserved : goal.loop-from-preserved
loop-from-preserved c =
    let within : (get_or c.args.edges.now c.loop-from.from-index (0, 0)).1 < length c.loop-from.rows.items = omega (arith, (c.requires c.loop-from.from-index (0, 0) (omega arith)).1, c.loop-from.invariant.0) in
    let old = row_is c.loop-from.rows.items (get_or c.args.edges.now c.loop-from.from-index (0, 0)).1 c.index_mut.result.now within c.index_mut.ensures.value in
    let pushed = c.in_ok-push-2.ensures.items ∙ ap (λ (xs : List ℕ). xs ++ (get_or c.args.edges.now c.loop-from.from-index (0, 0)).0 ∷ []) (sym old) in
    (c.loop-from.invariant.0, λ b lt. row_push c.loop-from.rows.items c.args.edges.now c.loop-from.from-index (get_or c.args.edges.now c.loop-from.from-index (0, 0)) c.push-in-loop-from.new.self b (omega arith) refl within pushed (c.loop-from.invariant.1 b lt))

pub returns-in_err-rows-clause-rows : goal.returns-in_err-rows-clause-rows
returns-in_err-rows-clause-rows c = IfOk-from_err c.from_residual.result _ c.from_residual.ensures.0

pub returns-in_err-rows-clause-sources : goal.returns-in_err-rows-clause-sources
returns-in_err-rows-clause-sources c = IfOk-from_err c.from_residual.result _ c.from_residual.ensures.0

pub returns-in_err-push-clause-rows : goal.returns-in_err-push-clause-rows
returns-in_err-push-clause-rows c = IfOk-from_err c.from_residual-in_err-push.result _ c.from_residual-in_err-push.ensures.0

pub returns-in_err-push-clause-sources : goal.returns-in_err-push-clause-sources
returns-in_err-push-clause-sources c = IfOk-from_err c.from_residual-in_err-push.result _ c.from_residual-in_err-push.ensures.0

pub returns-in_err-push-2-clause-rows : goal.returns-in_err-push-2-clause-rows
returns-in_err-push-2-clause-rows c = IfOk-from_err c.from_residual-in_err-push-2.result _ c.from_residual-in_err-push-2.ensures.0

pub returns-in_err-push-2-clause-sources : goal.returns-in_err-push-2-clause-sources
returns-in_err-push-2-clause-sources c = IfOk-from_err c.from_residual-in_err-push-2.result _ c.from_residual-in_err-push-2.ensures.0

pub loop-from-init : goal.loop-from-init
loop-from-init c = (omega (arith, c.loop-node.invariant.0), λ b lt. c.loop-node.invariant.1 b)

pub index_mut-requires : goal.index_mut-requires
index_mut-requires c = omega (arith, (c.requires c.loop-from.from-index (0, 0) (omega arith)).1, c.loop-from.invariant.0)

pub returns-clause-rows : goal.returns-clause-rows
returns-clause-rows c = c.loop-from.invariant.0

-- one more empty row
rows_empty : (xs : List (Vec ℕ Global)) (x : Vec ℕ Global) → x.items ≡ [] → ((b : ℕ) → row_of xs b ≡ []) → (b : ℕ) → row_of (xs ++ x ∷ []) b ≡ []
rows_empty [] x e h zero = e
rows_empty [] x e h (suc b) = refl
rows_empty (y ∷ ys) x e h zero = h zero
rows_empty (y ∷ ys) x e h (suc b) = rows_empty ys x e (λ k. h (suc k)) b

pub loop-node-preserved : goal.loop-node-preserved
loop-node-preserved c = (
  omega (arith, c.in_ok-push.ensures.len, c.loop-node.invariant.0),
  λ b. subst (λ (xs : List (Vec ℕ Global)). row_of xs b ≡ []) (sym c.in_ok-push.ensures.items) (rows_empty c.loop-node.rows.items c.new.result c.new.ensures.items c.loop-node.invariant.1 b),
)

pub returns-clause-sources : goal.returns-clause-sources
returns-clause-sources c =
    let all : c.loop-from.from-index ≡ length c.args.edges.now = omega arith in
    λ b lt. c.loop-from.invariant.1 b lt ∙ ap (λ (es : Edges). sources es b) (ap (λ (n : ℕ). take n c.args.edges.now) all ∙ take-length c.args.edges.now)
