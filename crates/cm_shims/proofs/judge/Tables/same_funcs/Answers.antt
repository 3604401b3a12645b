use Rattle.std.proofs.Common.{◌≡◌, ℕ, [], ◌∷◌, Option, Some, ap, refl}
use Rattle.cm_types_arena.specs.Placed.{moved_by, placed_func}
use Rattle.cm_types_arena.specs.Places.{funcs_of}
use Rattle.cm_types_arena.specs.TypeDefs.{func_at}
use Rattle.cm_types_numbers.specs.Numbering.{number_func, numbering}
use Rattle.cm_shims.proofs.HeadLaws.{head_is}
use Rattle.cm_shims.proofs.judge.Tables.same_funcs.Goals as goal
use Rattle.cm_lemmas.proofs.Numbers.{test_tells}

pub returns-clause-same : goal.returns-clause-same
returns-clause-same c =
    let before = numbering c.number_func.new.self.numbers in
    let after = numbering c.number_func-2.new.self.numbers in
    let arena = funcs_of c.args.arena.now in
    let n = c.in_ok-left.left in
    let stays = c.numbers_stay.ensures.funcs before after (moved_by c.args.a.by) (func_at arena c.args.a.place ∷ []) (n ∷ []) c.number_func-2.ensures.kept (ap (λ (o : Option ℕ). o ∷ []) c.in_ok-left.ensures.number) in
    let left : number_func after (placed_func arena c.args.a) ≡ Some n = head_is _ _ [] [] stays in
    test_tells n c.in_ok-right.right _ _ refl (c.tell_apart.ensures.funcs (placed_func arena c.args.a) (placed_func arena c.args.b) n c.in_ok-right.right left c.in_ok-right.ensures.number)
