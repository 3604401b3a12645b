use Rattle.std.proofs.Common.{◌≡◌, ap, sym, ◌∙◌, length, rules}
use Rattle.cm_layout.specs.Shapes.{list_shape}
use Rattle.cm_types.specs.Values.{count_of, elements}
use Rattle.cm_types.specs.ValueTrees.{value_of, values_of}
use Rattle.cm_abi_store.specs.Fitting.{Fits}
use Rattle.cm_abi_store.specs.TreeLaws.{count_values}
use Rattle.cm_abi_store.proofs.SeenLayouts.{seen_List}
use Rattle.cm_abi_store.proofs.tree.TreeStoredSource.elements.Goals as goal

pub returns-in-List : goal.returns-in-List
returns-in-List c = λ n g e element sh k h ready.
    let values = c.deref.result.now in
    let is : value_of c.args.self.value.now ≡ elements (values_of values) =
    ap value_of c.in-List.is ∙ (seen_List c.in-List.values ∙ ap (λ vs. elements (values_of vs)) (sym c.deref.ensures.value)) in
    let fits : Fits n g (list_shape element sh) (elements (values_of values)) k h = rw is at ready in
    let counted : length values ≡ c.len.result = search rules in
    let many : count_of (values_of values) ≡ c.len.result = count_values values ∙ counted in
    (is, many, (fits.0.0, rw (sym many) fits.0.1), (counted, fits.1))
