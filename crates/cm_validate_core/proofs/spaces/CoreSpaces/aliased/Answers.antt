use Rattle.std.proofs.Common.{◌≡◌, List, Some, None, sym, ap, ◌∙◌}
use Rattle.std.specs.Borrow.{Bor}
use Rattle.std.specs.Option.{option_map}
use Rattle.std.specs.List.{slice_get}
use Rattle.cm_validate_core.specs.declared.entries.CoreInstanceEntry.{CoreInstanceEntry}
use Rattle.cm_validate_core.specs.declared.entries.CoreInstanceEntry.TheVariants as entry
use Rattle.cm_validate_core.specs.CoreSpaces.{memory_names_of}
use Rattle.cm_validate_core.proofs.SpaceLaws.{aliased_at, instance_numbered, names_keep}
use Rattle.cm_validate_core.proofs.spaces.CoreSpaces.aliased.Goals as goal

pub returns-in_err-item-in-Some-Instantiated-clause-kept : goal.returns-in_err-item-in-Some-Instantiated-clause-kept
returns-in_err-item-in-Some-Instantiated-clause-kept c = λ made s r.
    names_keep made c.args.self.now (record c.args.self.now { memory_names = c.exported.new.names }) s c.exported.ensures.others r

pub returns-in-None-clause-def : goal.returns-in-None-clause-def
returns-in-None-clause-def c = λ made s r.
    let p : slice_get c.args.self.now.instances.items c.args.instance ≡ None = ap (λ (xs : List CoreInstanceEntry). slice_get xs c.args.instance) (sym c.deref.ensures.value) ∙ sym c.instance_at.ensures ∙ ap (option_map (λ (e : Bor CoreInstanceEntry). e.now)) c.in-None.is in
    sym (aliased_at made c.args.self.now s c.args.sort c.args.instance c.args.name.now None r p)

pub returns-in-Some-Exporting-clause-def : goal.returns-in-Some-Exporting-clause-def
returns-in-Some-Exporting-clause-def c = λ made s r.
    let p : slice_get c.args.self.now.instances.items c.args.instance ≡ Some (entry.Exporting c.in-Some-Exporting.items) = ap (λ (xs : List CoreInstanceEntry). slice_get xs c.args.instance) (sym c.deref.ensures.value) ∙ sym c.instance_at.ensures ∙ ap (option_map (λ (e : Bor CoreInstanceEntry). e.now)) c.in-Some-Exporting.is ∙ ap Some c.in-Some-Exporting.field-0-is in
    c.named.ensures.def made ∙ sym (aliased_at made c.args.self.now s c.args.sort c.args.instance c.args.name.now (Some (entry.Exporting c.in-Some-Exporting.items)) r p)

pub returns-in-Some-Exporting-clause-numbered : goal.returns-in-Some-Exporting-clause-numbered
returns-in-Some-Exporting-clause-numbered c = λ made s r.
    let p : slice_get c.args.self.now.instances.items c.args.instance ≡ Some (entry.Exporting c.in-Some-Exporting.items) = ap (λ (xs : List CoreInstanceEntry). slice_get xs c.args.instance) (sym c.deref.ensures.value) ∙ sym c.instance_at.ensures ∙ ap (option_map (λ (e : Bor CoreInstanceEntry). e.now)) c.in-Some-Exporting.is ∙ ap Some c.in-Some-Exporting.field-0-is in
    c.named.ensures.numbered (memory_names_of c.args.self.now) (instance_numbered made c.args.self.now s c.args.instance (entry.Exporting c.in-Some-Exporting.items) r p)

pub returns-in_ok-item-in-Some-Instantiated-clause-def : goal.returns-in_ok-item-in-Some-Instantiated-clause-def
returns-in_ok-item-in-Some-Instantiated-clause-def c = λ made s r.
    let p : slice_get c.args.self.now.instances.items c.args.instance ≡ Some (entry.Instantiated c.in-Some-Instantiated.field-0-0) = ap (λ (xs : List CoreInstanceEntry). slice_get xs c.args.instance) (sym c.deref.ensures.value) ∙ sym c.instance_at.ensures ∙ ap (option_map (λ (e : Bor CoreInstanceEntry). e.now)) c.in-Some-Instantiated.is ∙ ap Some c.in-Some-Instantiated.field-0-is in
    ap Some (c.in_ok-item-in-Some-Instantiated.ensures.def made) ∙ sym (aliased_at made c.args.self.now s c.args.sort c.args.instance c.args.name.now (Some (entry.Instantiated c.in-Some-Instantiated.field-0-0)) r p)

pub returns-in_ok-item-in-Some-Instantiated-clause-kept : goal.returns-in_ok-item-in-Some-Instantiated-clause-kept
returns-in_ok-item-in-Some-Instantiated-clause-kept c = λ made s r.
    names_keep made c.args.self.now (record c.args.self.now { memory_names = c.exported.new.names }) s c.exported.ensures.others r
