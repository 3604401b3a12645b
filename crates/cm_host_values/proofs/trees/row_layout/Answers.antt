use Rattle.std.proofs.Common.{◌≡◌, ◌∷◌, [], ◌+◌, ◌<◌, length, drop, refl, add-one, drop-cons}
use Rattle.std.proofs.lemmas.List.{drop_all}
use Rattle.std.proofs.lemmas.Result.{IfOk-weaker}
use Rattle.cm_types.specs.Funcs.{tree_type}
use Rattle.cm_types.specs.Types.{Fields, FieldsKind, fields, no_fields, tuple_type}
use Rattle.cm_layout.specs.Layouts.{IsLayingFields, layout_of}
use Rattle.cm_layout.specs.Shapes.{layout_at}
use Rattle.cm_host_values.specs.Rows.{row_of}
use Rattle.cm_host_values.proofs.trees.row_layout.Goals as goal

pub loop-tree-preserved : goal.loop-tree-preserved
loop-tree-preserved c =
    let i = c.loop-tree.tree-index in
    let ts = c.args.trees.now in
    let x = c.tree-item.result in
    let lt : i < length ts = c.loop-tree-test.true in
    let next : drop i ts ≡ x ∷ drop (i + 1) ts = rw (add-one, drop-cons ts i x lt, ← c.tree-item.is) refl in
    c.in_ok-push.ensures.ok (row_of ts) (row_of (drop (i + 1) ts)) [] (tree_type x) (rw next at c.loop-tree.invariant) c.in_ok-layout.ensures.value

pub returns : goal.returns
returns c =
    let ts = c.args.trees.now in
    let none : drop c.loop-tree.tree-index ts ≡ [] = drop_all c.loop-tree.tree-index ts c.loop-tree-test.false in
    IfOk-weaker c.finish.result (λ l. (k : FieldsKind) (all : Fields) → IsLayingFields all no_fields c.loop-tree.builder → layout_of l ≡ layout_at (fields k all)) (λ l. layout_of l ≡ layout_at (fields tuple_type (row_of ts)))
    (λ l f. f tuple_type (row_of ts) (rw none at c.loop-tree.invariant)) c.finish.ensures
