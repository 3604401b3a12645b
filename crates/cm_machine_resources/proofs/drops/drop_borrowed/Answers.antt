use Rattle.std.proofs.Common.{◌≡◌, ℕ, ◌+◌, ◌-◌, ◌<◌, List, Some, length, sym, ap, subst, ◌∙◌, arith}
use Rattle.std.specs.Prelude.{slice_set}
use Rattle.std.proofs.lemmas.Option.{same_Some}
use Rattle.cm_handles.specs.Borrows.{borrows_of}
use Rattle.cm_handles.specs.Handles.{Handles, after_release, handle_at}
use Rattle.cm_machine_model.specs.declared.frame.Frame.{Frame}
use Rattle.cm_machine_model.specs.declared.frame.Purpose.TheVariants as purpose
use Rattle.cm_machine_model.specs.State.{State, table_at}
use Rattle.cm_machine_model.specs.Valid.{frame_at}
use Rattle.cm_machine_parts.specs.Kept.{AreBorrowsCounted, IsEncodedAtTop}
use Rattle.cm_machine_parts.specs.States.{handles_in, state_of}
use Rattle.cm_machine_resources.proofs.Finding.{borrowed_less, borrowed_same, found_stands}
use Rattle.cm_machine_resources.proofs.drops.drop_borrowed.Goals as goal

pub borrows-count-requires : goal.borrows-count-requires
borrows-count-requires c =
    let s : State = state_of c.args.state.now in
    let d = c.args.dropped.now in
    let stands : handle_at (table_at s.tables d.instance) d.index ≡ Some d.handle = found_stands (table_at s.tables d.instance) d.index d.resource d.handle c.requires.found.1 in
    let b = c.requires.runs.1.valid.borrowed d.instance d.index c.args.call d.handle stands c.requires.borrowed in
    omega (arith, c.frames_have_instances.ensures.places s.stack c.args.call (record { instance = d.instance; purpose = purpose.Call b.stands_call }) b.stands, c.requires.runs.1.valid.few)

pub set_borrows-requires : goal.set_borrows-requires
set_borrows-requires c =
    let s : State = state_of c.args.state.now in
    let d = c.args.dropped.now in
    let stands : handle_at (table_at s.tables d.instance) d.index ≡ Some d.handle = found_stands (table_at s.tables d.instance) d.index d.resource d.handle c.requires.found.1 in
    let b = c.requires.runs.1.valid.borrowed d.instance d.index c.args.call d.handle stands c.requires.borrowed in
    omega (arith, c.frames_have_instances.ensures.places s.stack c.args.call (record { instance = d.instance; purpose = purpose.Call b.stands_call }) b.stands, c.requires.runs.1.valid.few)

pub overflow_sub-count : goal.overflow_sub-count
overflow_sub-count c =
    let s : State = state_of c.args.state.now in
    let d = c.args.dropped.now in
    let table : Handles = table_at s.tables d.instance in
    let stands : handle_at table d.index ≡ Some d.handle = found_stands table d.index d.resource d.handle c.requires.found.1 in
    let b = c.requires.runs.1.valid.borrowed d.instance d.index c.args.call d.handle stands c.requires.borrowed in
    omega (arith, c.requires.runs.1.kept.counted c.args.call (record { instance = d.instance; purpose = purpose.Call b.stands_call }) b.stands, borrowed_less c.borrows_are_counted.ensures.release table d.index d.handle c.args.call stands c.requires.borrowed, c.borrows-count.ensures)

pub returns-clause-kept : goal.returns-clause-kept
returns-clause-kept c plan runs =
    let s : State = state_of c.args.state.now in
    let d = c.args.dropped.now in
    let call = c.args.call in
    let borrows : List ℕ = c.args.state.now.stack.borrows in
    let table : Handles = table_at s.tables d.instance in
    let stands : handle_at table d.index ≡ Some d.handle = found_stands table d.index d.resource d.handle c.requires.found.1 in
    let b = runs.valid.borrowed d.instance d.index call d.handle stands c.requires.borrowed in
    let frame : Frame = record { instance = d.instance; purpose = purpose.Call b.stands_call } in
    let less : borrows_of call (after_release table d.index) + 1 ≡ borrows_of call table = borrowed_less c.borrows_are_counted.ensures.release table d.index d.handle call stands c.requires.borrowed in
    let count = runs.kept.counted call frame b.stands in
    let room : call < length borrows = omega (arith, c.frames_have_instances.ensures.places s.stack call frame b.stands, runs.valid.few, c.len.ensures.numbers) in
    let counted = c.what_is_kept_stays.ensures.counted borrows s.stack s.tables d.instance (after_release table d.index) call (c.borrows-count.result - 1) runs.kept.counted room c.requires.found.0
    (λ f at. (ap (λ (g : Frame). g.instance) (same_Some f frame (sym at ∙ b.stands)), omega (arith, count, less, c.borrows-count.ensures)))
    (λ other ne. borrowed_same c.borrows_are_counted.ensures.release table d.index d.handle call other stands c.requires.borrowed ne) in
    let tables : List Handles = handles_in c.release.new.tables.items in
    let there : AreBorrowsCounted c.set_borrows.new.self.borrows s.stack tables = subst (λ (bs : List ℕ). AreBorrowsCounted bs s.stack tables) (sym c.set_borrows.ensures.borrows) (subst (λ (ts : List Handles). AreBorrowsCounted (slice_set borrows call (c.borrows-count.result - 1)) s.stack ts) (sym c.release.ensures) counted) in
    record {
      counted = subst (λ (fs : List Frame). AreBorrowsCounted c.set_borrows.new.self.borrows fs tables) (sym c.set_borrows.ensures.frames) there;
      encoded = subst (λ (fs : List Frame). IsEncodedAtTop plan c.args.state.now.passing fs) (sym c.set_borrows.ensures.frames) runs.kept.encoded;
    }
