use Rattle.std.proofs.Common.{◌≡◌, ℕ, [], ◌∷◌, Option, Some, ap, refl}
use Rattle.cm_types_arena.specs.Placed.{moved_by, placed_type}
use Rattle.cm_types_arena.specs.Places.{types_of}
use Rattle.cm_types_arena.specs.TypeDefs.{type_at}
use Rattle.cm_types_numbers.specs.Numbering.{number, numbering}
use Rattle.cm_shims.proofs.HeadLaws.{head_is}
use Rattle.cm_shims.proofs.judge.Tables.same_types.Goals as goal
use Rattle.cm_lemmas.proofs.Numbers.{test_tells}

pub returns-clause-same : goal.returns-clause-same
returns-clause-same c =
    let before = numbering c.number_type.new.self.numbers in
    let after = numbering c.number_type-2.new.self.numbers in
    let arena = types_of c.args.arena.now in
    let n = c.in_ok-left.left in
    let stays = c.numbers_stay.ensures.types before after (moved_by c.args.a.by) (type_at arena c.args.a.place ∷ []) (n ∷ []) c.number_type-2.ensures.kept (ap (λ (o : Option ℕ). o ∷ []) c.in_ok-left.ensures.number) in
    let left : number after (placed_type arena c.args.a) ≡ Some n = head_is _ _ [] [] stays in
    test_tells n c.in_ok-right.right _ _ refl (c.tell_apart.ensures.types (placed_type arena c.args.a) (placed_type arena c.args.b) n c.in_ok-right.right left c.in_ok-right.ensures.number)
