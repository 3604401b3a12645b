use Rattle.std.proofs.Common.{◌≡◌, Some, ap, subst, ◌∙◌}
use Rattle.cm_types_arena.specs.Places.{funcs_of, types_of}
use Rattle.cm_types_arena.specs.TypeDefs.{type_at}
use Rattle.cm_types_arena.specs.Replaced.{replaced}
use Rattle.cm_types_numbers.specs.Numbering.{number, numbering}
use Rattle.cm_types_numbers.specs.Moved.{brought_by, moved_through}
use Rattle.cm_types_numbers.specs.declared.moves.Moves.{Moves}
use Rattle.cm_types_numbers.proofs.PlacedStays.{all_funcs_stay}
use Rattle.cm_types_numbers.proofs.known_placed.KnownPlaced.number_type.Goals as goal
use Rattle.cm_lemmas.proofs.Results.{if_ok_more}

pub returns-clause-number : goal.returns-clause-number
returns-clause-number g c =
    let s = g.R.Replacement.replacement c.args.replacement.now in
    let x = type_at (types_of c.args.types.now) c.args.brought.ty.place in
    let after = numbering c.number_type.new.numbers in
    if_ok_more c.number_type.result _ _ c.number_type.ensures.number (λ n is.
    ap (number after) (c.replacing.ensures.twice (brought_by c.args.brought) s x)
    ∙ subst (λ (m : Moves). number after (replaced (λ r. s (moved_through m r)) x) ≡ Some n) c.moves.ensures is)

pub returns-clause-known : goal.returns-clause-known
returns-clause-known g c =
    let s = g.R.Replacement.replacement c.args.replacement.now in
    let before = numbering c.args.numbers.now in
    let after = numbering c.number_type.new.numbers in
    record {
      types = c.number_type.ensures.known;
      funcs = all_funcs_stay before after (λ u us ns. c.numbers_stay.ensures.funcs before after u us ns c.number_type.ensures.kept) s (funcs_of c.args.types.now) c.args.self.now.funcs c.requires.funcs;
    }
