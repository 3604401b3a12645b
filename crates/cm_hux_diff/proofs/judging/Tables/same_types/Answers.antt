use Rattle.std.proofs.Common.{refl}
use Rattle.cm_types_numbers.specs.Numbering.{numbering}
use Rattle.cm_types_arena.specs.Replaced.{replaced}
use Rattle.cm_types_numbers.specs.Moved.{brought_type}
use Rattle.cm_hux_diff.specs.Views.{standing_of}
use Rattle.cm_hux_diff.proofs.Numbers.{type_stays}
use Rattle.cm_hux_diff.proofs.judging.Tables.same_types.Goals as goal
use Rattle.cm_lemmas.proofs.Numbers.{test_tells}

pub number_type-requires-2 : goal.number_type-requires-2
number_type-requires-2 c =
    let start = numbering c.args.self.now.numbers in
    let before = numbering c.number_type.new.numbers in
    c.known_stays.ensures start before (standing_of c.args.offered.now) c.args.offered.now.types.now c.args.self.now.offered c.number_type.ensures.kept c.requires.of_offered

pub returns-clause-same : goal.returns-clause-same
returns-clause-same c =
    let before = numbering c.number_type.new.numbers in
    let after = numbering c.number_type-2.new.numbers in
    let left = type_stays c.numbers_stay.ensures.types before after (standing_of c.args.wanted.now) (brought_type c.args.wanted.now.types.now c.args.x) c.in_ok-left.left c.number_type-2.ensures.kept c.in_ok-left.ensures.number in
    test_tells c.in_ok-left.left c.in_ok-right.right _ _ refl (c.tell_apart.ensures.types (replaced (standing_of c.args.wanted.now) (brought_type c.args.wanted.now.types.now c.args.x)) (replaced (standing_of c.args.offered.now) (brought_type c.args.offered.now.types.now c.args.y)) c.in_ok-left.left c.in_ok-right.right left c.in_ok-right.ensures.number)

pub returns-clause-known : goal.returns-clause-known
returns-clause-known c =
    let before = numbering c.number_type.new.numbers in
    let after = numbering c.number_type-2.new.numbers in
    record {
      of_wanted = c.known_stays.ensures before after (standing_of c.args.wanted.now) c.args.wanted.now.types.now c.number_type.new.self c.number_type-2.ensures.kept c.number_type.ensures.known;
      of_offered = c.number_type-2.ensures.known;
    }
