use Rattle.std.proofs.Common.{◌≡◌, ap, sym, ◌∙◌}
use Rattle.cm_types.specs.Values.{parts}
use Rattle.cm_types.specs.ValueTrees.{value_of, values_of}
use Rattle.cm_abi_store.specs.TreeLaws.{count_values}
use Rattle.cm_abi_store.proofs.SeenLayouts.{seen_Fields}
use Rattle.cm_abi_store.proofs.tree.TreeValueSource.items.Goals as goal

pub returns-in-Fields : goal.returns-in-Fields
returns-in-Fields c = λ n g e element sh k h ready.
    let values = c.deref.result.now in
    let is : value_of c.args.self.value.now ≡ parts (values_of values) =
    ap value_of c.in-Fields.is ∙ (seen_Fields c.in-Fields.values ∙ ap (λ vs. parts (values_of vs)) (sym c.deref.ensures.value)) in
    let fits = rw is at ready in
    (is, (sym (count_values values) ∙ fits.0, fits.1))
