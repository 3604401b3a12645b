use Rattle.std.proofs.Common.{rules, ◌≡◌, ◌∙◌, List, length, map, ap, sym, subst}
use Rattle.std.proofs.lemmas.List.{length-map}
use Rattle.cm_wit_tables.specs.DeclaredViews.{declaration_view, instance_view}
use Rattle.cm_wit_reading.specs.Trees.{File}
use Rattle.cm_wit_worlds.specs.Interfaces.{PlacedInterface, interfaces}
use Rattle.cm_wit_worlds.specs.InterfaceViews.{files_of, placed_interface, placed_world}
use Rattle.cm_wit_tables.specs.Worlds.{Instance, instances, declarations}
use Rattle.cm_wit_signature.specs.Named.{HaveTypes, in_order}
use Rattle.cm_wit_signature.specs.Typing.{IsTypingFault}
use Rattle.cm_wit_signature.specs.PackageFronts.{HavePackages}
use Rattle.cm_wit_signature.proofs.PackageLaws.{all_have_packages}
use Rattle.cm_wit_signature.proofs.OrderLaws.{instances_same, imported_same, is_typed, signed_in, fault_in}
use Rattle.cm_wit_signature.proofs.signing.signature_in_order.Goals as goal

pub returns-in_err-declarations-clause-fault : goal.returns-in_err-declarations-clause-fault
returns-in_err-declarations-clause-fault c =
    let fs = files_of c.args.directory.now.files.items in
    let w = placed_world c.args.world.now in
    let count : length c.args.interfaces.now ≡ length (interfaces fs) = sym (length-map c.args.interfaces.now placed_interface) ∙ ap length c.requires.interfaces in
    let xs = instances_same (map instance_view c.in_ok-instances.instances.list.items) (length c.args.interfaces.now) (length (interfaces fs)) c.deref.result.now c.args.externs.now.imports.items c.deref-2.result.now c.args.externs.now.exports.items count c.deref.ensures.value c.deref-2.ensures.value c.in_ok-instances.ensures.list in
    let seen : map instance_view c.deref-3.result.now ≡ instances (length (interfaces fs)) c.args.externs.now.imports.items c.args.externs.now.exports.items = ap (map instance_view) c.deref-3.ensures.value ∙ xs in
    let h = c.typing_faults_are_of_worlds.ensures fs w (instances (length (interfaces fs)) c.args.externs.now.imports.items c.args.externs.now.exports.items) c.in_err-declarations.field-0.0 c.requires.externs.found (in_order c.args.externs.now.imports.items c.args.externs.now.exports.items c.requires.externs) (subst (λ (l : List Instance). IsTypingFault fs w l c.in_err-declarations.field-0.0) seen c.in_err-declarations.ensures.fault) in
    search (rules, h)

pub returns-clause-signature : goal.returns-clause-signature
returns-clause-signature c =
    let fs = files_of c.args.directory.now.files.items in
    let w = placed_world c.args.world.now in
    let count : length c.args.interfaces.now ≡ length (interfaces fs) = sym (length-map c.args.interfaces.now placed_interface) ∙ ap length c.requires.interfaces in
    let xs = instances_same (map instance_view c.in_ok-instances.instances.list.items) (length c.args.interfaces.now) (length (interfaces fs)) c.deref.result.now c.args.externs.now.imports.items c.deref-2.result.now c.args.externs.now.exports.items count c.deref.ensures.value c.deref-2.ensures.value c.in_ok-instances.ensures.list in
    let seen : map instance_view c.deref-3.result.now ≡ instances (length (interfaces fs)) c.args.externs.now.imports.items c.args.externs.now.exports.items = ap (map instance_view) c.deref-3.ensures.value ∙ xs in
    let first = imported_same c.in_ok-instances.instances.imported (length c.args.interfaces.now) (length (interfaces fs)) c.deref.result.now c.args.externs.now.imports.items count c.deref.ensures.value c.in_ok-instances.ensures.imported in
    let ds = ap (map declaration_view) c.deref-5.ensures.value ∙ (c.in_ok-declarations.ensures.declarations ∙ ap (declarations fs) seen) in
    let t = is_typed fs w (map placed_interface c.args.interfaces.now) c.args.externs.now.imports.items c.args.externs.now.exports.items (map instance_view c.in_ok-instances.instances.list.items) c.in_ok-instances.instances.imported (map declaration_view c.deref-5.result.now) c.requires.interfaces c.requires.externs xs first ds (subst (HaveTypes fs w) seen c.in_ok-declarations.ensures.typed) in
    signed_in fs w (map placed_interface c.args.interfaces.now) c.args.externs.now.imports.items c.args.externs.now.exports.items (map instance_view c.in_ok-instances.instances.list.items) c.in_ok-instances.instances.imported (map declaration_view c.deref-5.result.now) t c.tabled.result c.tabled.ensures.signature

pub returns-clause-fault : goal.returns-clause-fault
returns-clause-fault c =
    let fs = files_of c.args.directory.now.files.items in
    let w = placed_world c.args.world.now in
    let count : length c.args.interfaces.now ≡ length (interfaces fs) = sym (length-map c.args.interfaces.now placed_interface) ∙ ap length c.requires.interfaces in
    let xs = instances_same (map instance_view c.in_ok-instances.instances.list.items) (length c.args.interfaces.now) (length (interfaces fs)) c.deref.result.now c.args.externs.now.imports.items c.deref-2.result.now c.args.externs.now.exports.items count c.deref.ensures.value c.deref-2.ensures.value c.in_ok-instances.ensures.list in
    let seen : map instance_view c.deref-3.result.now ≡ instances (length (interfaces fs)) c.args.externs.now.imports.items c.args.externs.now.exports.items = ap (map instance_view) c.deref-3.ensures.value ∙ xs in
    let first = imported_same c.in_ok-instances.instances.imported (length c.args.interfaces.now) (length (interfaces fs)) c.deref.result.now c.args.externs.now.imports.items count c.deref.ensures.value c.in_ok-instances.ensures.imported in
    let ds = ap (map declaration_view) c.deref-5.ensures.value ∙ (c.in_ok-declarations.ensures.declarations ∙ ap (declarations fs) seen) in
    let t = is_typed fs w (map placed_interface c.args.interfaces.now) c.args.externs.now.imports.items c.args.externs.now.exports.items (map instance_view c.in_ok-instances.instances.list.items) c.in_ok-instances.instances.imported (map declaration_view c.deref-5.result.now) c.requires.interfaces c.requires.externs xs first ds (subst (HaveTypes fs w) seen c.in_ok-declarations.ensures.typed) in
    fault_in fs w (map placed_interface c.args.interfaces.now) c.args.externs.now.imports.items c.args.externs.now.exports.items (map instance_view c.in_ok-instances.instances.list.items) c.in_ok-instances.instances.imported (map declaration_view c.deref-5.result.now) t c.tabled.result c.tabled.ensures.fault

pub tabled-requires-clause-packages : goal.tabled-requires-clause-packages
tabled-requires-clause-packages c =
    let fs = files_of c.args.directory.now.files.items in
    let same : files_of c.deref-4.result.now ≡ fs = ap files_of c.deref-4.ensures.value in
    subst (λ (is : List PlacedInterface). HavePackages (files_of c.deref-4.result.now) is) (sym c.requires.interfaces)
    (subst (λ (xs : List File). HavePackages xs (interfaces fs)) (sym same) (all_have_packages fs))
