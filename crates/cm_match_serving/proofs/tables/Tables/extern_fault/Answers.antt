use Rattle.std.proofs.Common.{◌∙◌, List, map, sym, ap, subst}
use Rattle.std.specs.Prelude.{IfOk}
use Rattle.cm_types.specs.Signatures.{ExternTy}
use Rattle.cm_types.specs.Signatures as extern
use Rattle.cm_types_arena.specs.Instances.{items_of, replaced_item}
use Rattle.cm_types_arena.specs.Placed.{moved_by, placed_func}
use Rattle.cm_types_arena.specs.declared.instances.InstanceType.{InstanceType}
use Rattle.cm_types_arena.specs.declared.instances.Item.{Item}
use Rattle.cm_types_arena.specs.Externs.{extern_desc_of}
use Rattle.cm_validate_model.specs.Definitions.{ExportDef}
use Rattle.cm_validate_entries.specs.ComponentSpaces.{exported_def}
use Rattle.cm_validate_entries.specs.Entries.{func_def}
use Rattle.cm_match_serving.specs.Answers.{JudgesExtern}
use Rattle.cm_match_serving.specs.Sides.{had_funcs, had_types, set_of_pair, wanted_funcs, wanted_types}
use Rattle.cm_match_serving.proofs.Judging.{func_extern}
use Rattle.cm_match_serving.proofs.tables.Tables.extern_fault.Goals as goal
use Rattle.cm_lemmas.proofs.Results.{if_ok_more}

pub returns-in-Func-have-clause-fault : goal.returns-in-Func-have-clause-fault
returns-in-Func-have-clause-fault c =
    let p = c.args.pair.now in
    let set = set_of_pair p in
    let f = placed_func (wanted_funcs p) c.in-Func.ty in
    let wanted = ap (extern_desc_of (wanted_types p) (wanted_funcs p)) c.in-Func.is in
    let have = ap (exported_def (had_types p) (had_funcs p)) c.in-Func-have.is in
    if_ok_more c.func_fault.result _ _ c.func_fault.ensures.fault (λ r h.
    subst (λ (w : ExternTy). JudgesExtern set p.importer w p.provider (exported_def (had_types p) (had_funcs p) c.args.have.now) r) (sym wanted)
    (subst (λ (e : ExportDef). JudgesExtern set p.importer (extern.func f) p.provider e r) (sym have)
    (func_extern set p.importer f p.provider (func_def (had_funcs p) c.in-Func-have.func) r h)))

pub returns-in-Instance-have-2-clause-fault : goal.returns-in-Instance-have-2-clause-fault
returns-in-Instance-have-2-clause-fault c =
    let p = c.args.pair.now in
    let set = set_of_pair p in
    let items = c.deref-in-Instance-have-2.ensures.value ∙ ap (λ (t : InstanceType). t.items.items) c.deref.ensures in
    let wanted = ap (extern_desc_of (wanted_types p) (wanted_funcs p)) c.in-Instance.is in
    let have = ap (exported_def (had_types p) (had_funcs p)) c.in-Instance-have-2.is in
    let there = ap (λ (is : List Item). extern.instance (map (replaced_item (moved_by c.in-Instance.by)) (items_of (wanted_types p) (wanted_funcs p) is))) items in
    subst (λ (w : ExternTy). IfOk c.instance_fault.result (JudgesExtern set p.importer w p.provider (exported_def (had_types p) (had_funcs p) c.args.have.now))) (there ∙ sym wanted)
    (subst (λ (e : ExportDef). IfOk c.instance_fault.result (JudgesExtern set p.importer (extern.instance (map (replaced_item (moved_by c.in-Instance.by)) (items_of (wanted_types p) (wanted_funcs p) c.deref-in-Instance-have-2.result.now))) p.provider e)) (sym have)
    c.instance_fault.ensures.fault)
