use Rattle.std.proofs.Common.{◌≡◌, ◌∙◌, ◌∷◌, ◌++◌, [], ◌+◌, ◌<◌, length, drop, refl, sym, ap, add-one, drop-cons}
use Rattle.std.proofs.lemmas.List.{append_assoc, drop_all}
use Rattle.cm_types.specs.Funcs.{tree_type}
use Rattle.cm_layout.specs.Flattening.{flat_of, flat_of_fields}
use Rattle.cm_host_values.specs.Rows.{row_of}
use Rattle.cm_host_values.proofs.trees.row_kinds.Goals as goal

pub loop-tree-preserved : goal.loop-tree-preserved
loop-tree-preserved c =
    let i = c.loop-tree.tree-index in
    let ts = c.args.trees.now in
    let x = c.tree-item.result in
    let old = c.loop-tree.kinds.items in
    let rest = flat_of_fields (row_of (drop (i + 1) ts)) in
    let lt : i < length ts = c.loop-tree-test.true in
    let next : drop i ts ≡ x ∷ drop (i + 1) ts = rw (add-one, drop-cons ts i x lt, ← c.tree-item.is) refl in
    let more : c.extend_from_slice.new.self.items ≡ old ++ c.deref.result.now = c.in_ok-extend_from_slice.ensures.items in
    let flat : c.deref.result.now ≡ flat_of (tree_type x) = c.deref.ensures.value ∙ c.in_ok-flat.ensures.value in
    let before : old ++ (flat_of (tree_type x) ++ rest) ≡ flat_of_fields (row_of ts) = rw next at c.loop-tree.invariant in
    ap (λ ks. ks ++ rest) (more ∙ ap (λ ks. old ++ ks) flat) ∙ append_assoc old (flat_of (tree_type x)) rest ∙ before
