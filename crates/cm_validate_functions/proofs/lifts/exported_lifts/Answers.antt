use Rattle.std.proofs.Common.{◌≡◌, ◌+◌, List, take, sym, subst}
use Rattle.cm_binary_model.specs.Trees.{SectionTree}
use Rattle.cm_validate_model.specs.Spaces.{spaces_of}
use Rattle.cm_validate_items.specs.Shared.{AreShared}
use Rattle.cm_validate_spaces.specs.Checked.{funcs_in, sections_in, spaces_in, types_in}
use Rattle.cm_validate_model.specs.Valid.{IsValid}
use Rattle.cm_validate_functions.specs.Kept.{AreKept}
use Rattle.cm_validate_functions.specs.Lifts.{LiftDef}
use Rattle.cm_validate_functions.proofs.LiftLaws.{export_at, lifts_next, numbered_at}
use Rattle.cm_validate_functions.proofs.lifts.exported_lifts.Goals as goal

pub loop-export-preserved : goal.loop-export-preserved
loop-export-preserved c =
    let checked = c.args.checked.now in
    let s = spaces_in checked in
    let i = c.loop-export.export in
    let x = c.index-exports-export.result in
    let xs = c.exports-exports.result.now in
    let shared : AreShared s c.in_ok-shared.shared = subst (λ (a : List SectionTree). AreShared (spaces_of a) c.in_ok-shared.shared) c.component.ensures.component (c.in_ok-shared.ensures.shared (subst IsValid (sym c.component.ensures.component) c.component.ensures.valid)) in
    let numbered = numbered_at (types_in checked) (funcs_in checked) s c.in_ok-shared.shared xs i x c.exported_instance-number.result c.loop-export-test.true c.index-exports-export.is c.exported_instance-number.ensures shared c.exports-exports.ensures.are in
    let at = export_at (types_in checked) (funcs_in checked) s xs i x c.loop-export-test.true c.index-exports-export.is c.exports-exports.ensures.are in
    subst (λ (ls : List LiftDef). AreKept (funcs_in checked) s ls c.add_export.new.met c.add_export.new.lifts.items) (sym (lifts_next s.exports i _ at))
    (c.in_ok-add_export.ensures (types_in checked) (funcs_in checked) s _ numbered c.loop-export.invariant)
