use Rattle.std.proofs.Common.{map, ap, sym, subst, ◌∙◌}
use Rattle.cm_wit_worlds.specs.InterfaceViews.{files_of, placed_world}
use Rattle.cm_wit_tables.specs.TypeFaults.{AllHaveTypes}
use Rattle.cm_wit_tables.specs.DeclaredViews.{declaration_view}
use Rattle.cm_wit_signature.proofs.TypedLaws.{have_types, each_has, own_has}
use Rattle.cm_wit_signature.proofs.typing.typed_declarations.Goals as goal
use Rattle.cm_lemmas.proofs.Bools.{true_not_false}

pub returns-then-not-branch-2-clause-fault : goal.returns-then-not-branch-2-clause-fault
returns-then-not-branch-2-clause-fault c = λ h.
    let fs = files_of c.args.directory.now.files.items in
    let w = placed_world c.args.world.now in
    let e = ap (map declaration_view) c.deref-2.ensures.value ∙ c.in_ok-declarations.ensures in
    true_not_false (sym ((c.in_ok-members_have_types.ensures fs c.requires).1 (each_has fs w c.args.instances.now (map declaration_view c.deref-2.result.now) e h, own_has fs w c.args.instances.now (map declaration_view c.deref-2.result.now) e h)) ∙ c.if-not-branch-2.true)

pub returns-clause-typed : goal.returns-clause-typed
returns-clause-typed c =
    let fs = files_of c.args.directory.now.files.items in
    let w = placed_world c.args.world.now in
    let d = ap (map declaration_view) c.deref.ensures.value ∙ c.in_ok-declarations.ensures in
    let e = ap (map declaration_view) c.deref-2.ensures.value ∙ c.in_ok-declarations.ensures in
    let all = c.in_ok-all_have_types.ensures.0 c.if-not-branch.false in
    let here = subst AllHaveTypes (d ∙ sym e) all in
    let both = (c.in_ok-members_have_types.ensures fs c.requires).0 c.if-not-branch-2.false in
    have_types fs w c.args.instances.now (map declaration_view c.deref-2.result.now) e here both.0 both.1
