use Rattle.std.proofs.Common.{◌∙◌, ap, sym, List}
use Rattle.std.specs.List.{list_all, list_any}
use Rattle.cm_types.specs.declared.def_types.CaseType.{CaseType}
use Rattle.cm_types.specs.declared.def_types.DefValType.{DefValType}
use Rattle.cm_types.specs.declared.def_types.LabeledValType.{LabeledValType}
use Rattle.cm_types.specs.DefTypes.{def_val_type_tree}
use Rattle.cm_validate_instances.specs.Definitions.{holds_used, is_payload_used, is_used, parts_sketch, payload_holds, value_def_sketch}
use Rattle.cm_validate_instances.specs.Levels.{sketches_of}
use Rattle.cm_validate_instances.proofs.level.SketchLevel.value_def.Goals as goal

pub returns-in-Record : goal.returns-in-Record
returns-in-Record c =
    let ss = sketches_of c.args.self.now in
    c.parts_sketch.ensures
    ∙ ap (λ b. parts_sketch b c.fields_hold.result) (c.fields_used.ensures ∙ ap (λ (fs : List LabeledValType). list_all (λ f. is_used ss f.ty) fs) c.deref.ensures.value)
    ∙ ap (parts_sketch (list_all (λ f. is_used ss f.ty) c.in-Record.fields.items)) (c.fields_hold.ensures ∙ ap (λ (fs : List LabeledValType). list_any (λ f. holds_used ss f.ty) fs) c.deref-in-Record.ensures.value)
    ∙ ap (λ (d : DefValType). value_def_sketch ss (def_val_type_tree d)) (sym c.in-Record.is)

pub returns-in-Variant : goal.returns-in-Variant
returns-in-Variant c =
    let ss = sketches_of c.args.self.now in
    c.parts_sketch-in-Variant.ensures
    ∙ ap (λ b. parts_sketch b c.cases_hold.result) (c.cases_used.ensures ∙ ap (λ (cs : List CaseType). list_all (λ k. is_payload_used ss k.payload) cs) c.deref-in-Variant.ensures.value)
    ∙ ap (parts_sketch (list_all (λ k. is_payload_used ss k.payload) c.in-Variant.cases.items)) (c.cases_hold.ensures ∙ ap (λ (cs : List CaseType). list_any (λ k. payload_holds ss k.payload) cs) c.deref-in-Variant-2.ensures.value)
    ∙ ap (λ (d : DefValType). value_def_sketch ss (def_val_type_tree d)) (sym c.in-Variant.is)
