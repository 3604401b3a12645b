use Rattle.std.proofs.Common.{◌≡◌, Some, ap, sym, subst, ◌∙◌}
use Rattle.cm_types_arena.specs.Places.{funcs_of}
use Rattle.cm_types_arena.specs.TypeDefs.{func_at}
use Rattle.cm_types_arena.specs.Replaced.{replaced_func}
use Rattle.cm_types_numbers.specs.Numbering.{number_func, numbering}
use Rattle.cm_types_numbers.specs.Moved.{brought_by, moved_through}
use Rattle.cm_types_numbers.specs.declared.moves.Moves.{Moves}
use Rattle.cm_types_numbers.proofs.PlacedStays.{all_funcs_stay}
use Rattle.cm_types_numbers.proofs.known_placed.KnownPlaced.number_func_type.Goals as goal

pub returns-in-Some-clause-number : goal.returns-in-Some-clause-number
returns-in-Some-clause-number g c =
    let s = g.R.Replacement.replacement c.args.replacement.now in
    let place = c.args.brought.ty.place in
    let f = func_at (funcs_of c.args.types.now) place in
    let before = numbering c.args.numbers.now in
    ap (number_func before) (c.replacing.ensures.funcs_twice (brought_by c.args.brought) s f)
    ∙ subst (λ (m : Moves). number_func before (replaced_func (λ r. s (moved_through m r)) f) ≡ Some c.in-Some.number) c.moves-moves.ensures
    (c.requires.funcs (record { moves = c.moves-moves.result; place = place }) c.in-Some.number (sym c.get.ensures ∙ c.in-Some.is))

pub returns-in_err-number-clause-known : goal.returns-in_err-number-clause-known
returns-in_err-number-clause-known g c =
    let s = g.R.Replacement.replacement c.args.replacement.now in
    let before = numbering c.args.numbers.now in
    let after = numbering c.number_func_type.new.numbers in
    record {
      types = c.number_func_type.ensures.known;
      funcs = all_funcs_stay before after (λ u us ns. c.numbers_stay.ensures.funcs before after u us ns c.number_func_type.ensures.kept) s (funcs_of c.args.types.now) c.args.self.now.funcs c.requires.funcs;
    }

pub returns-in_err-note-clause-known : goal.returns-in_err-note-clause-known
returns-in_err-note-clause-known g c =
    let s = g.R.Replacement.replacement c.args.replacement.now in
    let fs = funcs_of c.args.types.now in
    let before = numbering c.args.numbers.now in
    let after = numbering c.number_func_type.new.numbers in
    record {
      types = c.number_func_type.ensures.known;
      funcs = c.note.ensures after s fs (all_funcs_stay before after (λ u us ns. c.numbers_stay.ensures.funcs before after u us ns c.number_func_type.ensures.kept) s fs c.args.self.now.funcs c.requires.funcs) c.in_ok-number.ensures.number;
    }

pub returns-clause-number : goal.returns-clause-number
returns-clause-number g c =
    let s = g.R.Replacement.replacement c.args.replacement.now in
    let f = func_at (funcs_of c.args.types.now) c.args.brought.ty.place in
    let after = numbering c.number_func_type.new.numbers in
    ap (number_func after) (c.replacing.ensures.funcs_twice (brought_by c.args.brought) s f)
    ∙ subst (λ (m : Moves). number_func after (replaced_func (λ r. s (moved_through m r)) f) ≡ Some c.in_ok-number.number) c.moves-moves.ensures c.in_ok-number.ensures.number

pub returns-clause-known : goal.returns-clause-known
returns-clause-known g c =
    let s = g.R.Replacement.replacement c.args.replacement.now in
    let fs = funcs_of c.args.types.now in
    let before = numbering c.args.numbers.now in
    let after = numbering c.number_func_type.new.numbers in
    record {
      types = c.number_func_type.ensures.known;
      funcs = c.note.ensures after s fs (all_funcs_stay before after (λ u us ns. c.numbers_stay.ensures.funcs before after u us ns c.number_func_type.ensures.kept) s fs c.args.self.now.funcs c.requires.funcs) c.in_ok-number.ensures.number;
    }
