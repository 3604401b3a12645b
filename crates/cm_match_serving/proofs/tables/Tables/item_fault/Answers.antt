use Rattle.std.proofs.Common.{◌∙◌, sym, ap, subst}
use Rattle.std.specs.Prelude.{IfOk}
use Rattle.cm_types.specs.Signatures.{ItemTy, equal_resource, equal_type, func_item}
use Rattle.cm_types_arena.specs.TypeDefs.{func_at, type_at}
use Rattle.cm_types_arena.specs.Instances.{numbered}
use Rattle.cm_types_arena.specs.Placed.{moved_by}
use Rattle.cm_validate_model.specs.Spaces.{item_of_member}
use Rattle.cm_validate_entries.specs.Entries.{member_def}
use Rattle.cm_match_serving.specs.Answers.{JudgesItem, wanted_desc}
use Rattle.cm_match_serving.specs.Sides.{had_funcs, had_types, set_of_pair, wanted_funcs, wanted_types}
use Rattle.cm_match_serving.proofs.tables.Tables.item_fault.Goals as goal

pub returns-in-Func-clause-fault : goal.returns-in-Func-clause-fault
returns-in-Func-clause-fault c =
    let p = c.args.pair.now in
    let ty = c.in-Func.ty in
    let desc = ap (wanted_desc (wanted_types p) (wanted_funcs p) c.args.by) c.in-Func.is ∙ ap func_item (c.replacing.ensures.funcs_twice (moved_by ty.by) (moved_by c.args.by) (func_at (wanted_funcs p) ty.place)) in
    subst (λ (w : ItemTy). IfOk c.func_item.result (JudgesItem (set_of_pair p) p.importer w p.provider (item_of_member (member_def (had_types p) (had_funcs p) c.args.have)))) (sym desc) c.func_item.ensures.fault

pub returns-in-EqualType-clause-fault : goal.returns-in-EqualType-clause-fault
returns-in-EqualType-clause-fault c =
    let p = c.args.pair.now in
    let ty = c.in-EqualType.ty in
    let desc = ap (wanted_desc (wanted_types p) (wanted_funcs p) c.args.by) c.in-EqualType.is ∙ ap equal_type (c.replacing.ensures.twice (moved_by ty.by) (moved_by c.args.by) (type_at (wanted_types p) ty.place)) in
    subst (λ (w : ItemTy). IfOk c.type_item.result (JudgesItem (set_of_pair p) p.importer w p.provider (item_of_member (member_def (had_types p) (had_funcs p) c.args.have)))) (sym desc) c.type_item.ensures.fault

pub returns-in-EqualResource-clause-fault : goal.returns-in-EqualResource-clause-fault
returns-in-EqualResource-clause-fault c =
    let p = c.args.pair.now in
    let desc = ap (wanted_desc (wanted_types p) (wanted_funcs p) c.args.by) c.in-EqualResource.is in
    let there = ap equal_resource (c.moved_resource.ensures ∙ ap (moved_by c.args.by) c.resource.ensures) in
    subst (λ (w : ItemTy). JudgesItem (set_of_pair p) p.importer w p.provider (item_of_member (member_def (had_types p) (had_funcs p) c.args.have)) c.known_item.result) (there ∙ sym desc)
    (c.known_item.ensures (had_types p) (had_funcs p))

pub returns-in-FreshResource-clause-fault : goal.returns-in-FreshResource-clause-fault
returns-in-FreshResource-clause-fault c =
    let p = c.args.pair.now in
    let desc = ap (wanted_desc (wanted_types p) (wanted_funcs p) c.args.by) c.in-FreshResource.is in
    subst (λ (w : ItemTy). JudgesItem (set_of_pair p) p.importer w p.provider (item_of_member (member_def (had_types p) (had_funcs p) c.args.have)) c.fresh_item.result) (sym desc)
    (c.fresh_item.ensures (set_of_pair p) p.importer p.provider (moved_by c.args.by (numbered c.in-FreshResource.field-0)) (had_types p) (had_funcs p))
