use Rattle.std.proofs.Common.{◌≡◌, ap, sym, ◌∙◌}
use Rattle.cm_types.specs.Values.{bearing}
use Rattle.cm_types.specs.ValueTrees.{value_of}
use Rattle.cm_types.specs.declared.values.Value.{Value}
use Rattle.cm_types.specs.declared.values.Value.TheViews as value
use Rattle.cm_abi_store.specs.Fitting.{FitsCase}
use Rattle.cm_abi_store.specs.TreeLaws.{case_carries}
use Rattle.cm_abi_store.proofs.SeenLayouts.{seen_bearing}
use Rattle.cm_abi_store.proofs.tree.TreeValueSource.case.Goals as goal

pub returns-in-Some : goal.returns-in-Some
returns-in-Some c = λ n g e ps k h ready.
    let is : value_of c.args.self.value.now ≡ bearing c.in-Case.index (value_of c.deref.result.now) =
    ap value_of c.in-Case.is ∙ (ap (λ p. value_of (value.Case c.in-Case.index p)) c.in-Some.is ∙ (seen_bearing c.in-Case.index c.in-Some.value ∙ ap (λ (v : Value). bearing c.in-Case.index (value_of v)) (sym c.deref.ensures))) in
    let fits : FitsCase n g ps c.in-Case.index (value_of c.deref.result.now) k h = rw is at ready in
    let carried = case_carries n g ps c.in-Case.index (value_of c.deref.result.now) k h fits in
    rw carried.1 (is, carried.2)
