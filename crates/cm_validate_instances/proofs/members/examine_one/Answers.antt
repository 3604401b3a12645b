use Rattle.std.proofs.Common.{◌++◌, sym, ap, ◌∙◌, map}
use Rattle.std.proofs.lemmas.List.{append-nil}
use Rattle.cm_types_arena.specs.Places.{funcs_of, types_of}
use Rattle.cm_validate_instances.specs.ItemSketches.{sketch_named}
use Rattle.cm_validate_instances.proofs.MemberLaws.{broken_sketch, fine_sketch}
use Rattle.cm_validate_instances.proofs.members.examine_one.Goals as goal

pub returns-in_ok-push_sketch-in-Ok-clause-sketched : goal.returns-in_ok-push_sketch-in-Ok-clause-sketched
returns-in_ok-push_sketch-in-Ok-clause-sketched c = λ s t.
    let arena = c.args.arena.now in
    let before = map sketch_named c.args.sketches.now.items in
    c.in_ok-push_sketch-in-Ok.ensures
    ∙ ap (λ more. before ++ more) (sym (fine_sketch (types_of arena) (funcs_of arena) s c.args.export.now c.in-Ok.member (c.in-Ok.ensures (types_of arena) (funcs_of arena) s t)))

pub returns-in-Err-clause-sketched : goal.returns-in-Err-clause-sketched
returns-in-Err-clause-sketched c = λ s t.
    let arena = c.args.arena.now in
    let before = map sketch_named c.args.sketches.now.items in
    sym (append-nil before)
    ∙ ap (λ more. before ++ more) (sym (broken_sketch s c.args.export.now c.in-Err.reason (c.in-Err.ensures (types_of arena) (funcs_of arena) s t)))
