use Rattle.std.proofs.Common.{rules, map, ap, ◌∙◌, inl}
use Rattle.cm_wit_worlds.specs.InterfaceViews.{files_of, placed_world}
use Rattle.cm_wit_tables.specs.DeclaredViews.{instance_view}
use Rattle.cm_wit_signature.specs.Named.{imported}
use Rattle.cm_wit_signature.proofs.ReachLaws.{reached_instances, typing_fault}
use Rattle.cm_wit_signature.proofs.reaching.first_fault.Goals as goal

pub returns-in_err-typed_declarations-clause-fault : goal.returns-in_err-typed_declarations-clause-fault
returns-in_err-typed_declarations-clause-fault c =
    let fs = files_of c.args.directory.now.files.items in
    let w = placed_world c.args.world.now in
    let is = ap (map instance_view) c.deref-3.ensures.value ∙ (c.in_ok-instances.ensures ∙ ap (map imported) c.deref-2.ensures.value) in
    let are = reached_instances fs w c.in_ok-marks.marks.items c.deref.result.now c.in_ok-marked.field-0.items (map instance_view c.deref-3.result.now) c.requires.cyclic c.deref.ensures.value is c.in_ok-marks.ensures c.in_ok-marked.ensures in
    let h = typing_fault fs w (map instance_view c.deref-3.result.now) c.in_err-typed_declarations.field-0.0 c.requires.found are c.in_err-typed_declarations.ensures.fault in
    search (rules, h)

pub returns-clause-typed : goal.returns-clause-typed
returns-clause-typed c =
    let fs = files_of c.args.directory.now.files.items in
    let w = placed_world c.args.world.now in
    let is = ap (map instance_view) c.deref-3.ensures.value ∙ (c.in_ok-instances.ensures ∙ ap (map imported) c.deref-2.ensures.value) in
    let are = reached_instances fs w c.in_ok-marks.marks.items c.deref.result.now c.in_ok-marked.field-0.items (map instance_view c.deref-3.result.now) c.requires.cyclic c.deref.ensures.value is c.in_ok-marks.ensures c.in_ok-marked.ensures in
    (map instance_view c.deref-3.result.now, are, c.in_ok-typed_declarations.ensures.typed, inl c.requires.cyclic)
