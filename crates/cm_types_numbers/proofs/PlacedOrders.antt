-- What the orders of moves, and of moved functions, take for equal, moves resources alike.
use Rattle.std.proofs.Common.{◌≡◌, ℕ, Option, Some, None, refl, ap, ◌∙◌}
use Rattle.std.specs.Option.{option_cmp}
use Rattle.std.specs.Ordering.{nat_cmp, ordering_then}
use Rattle.std.specs.declared.cmp.Ordering.{Ordering}
use Rattle.std.specs.declared.cmp.Ordering.TheVariants.{Less, Equal, Greater}
use Rattle.std.proofs.lemmas.Map.Lookups.{exact_unsigned}
use Rattle.std.proofs.Math.Path.{fun_ext}
use Rattle.cm_types.specs.declared.resource.ResourceId.{ResourceId}
use Rattle.cm_types_arena.specs.Moves.{moved}
use Rattle.cm_types_arena.specs.Replaced.{Standing}
use Rattle.cm_types_arena.specs.contracts.moves.MoveOrd.TheImpl as move_ord
use Rattle.cm_types_arena.specs.declared.moves.Move.{Move}
use Rattle.cm_types_arena.specs.Placed.{moved_by}
use Rattle.cm_types_numbers.specs.Moved.{moved_through}
use Rattle.cm_types_numbers.specs.PlacedTables.{func_order, moves_order}
use Rattle.cm_types_numbers.specs.declared.moves.Moves.{Moves}
use Rattle.cm_types_numbers.specs.declared.moves.MovedFunc.{MovedFunc}

move_order : Move → Move → Ordering
move_order = (move_ord.ghosts).cmp

both_equal : (a b : Ordering) → ordering_then a b ≡ Equal → (a ≡ Equal) × (b ≡ Equal)
both_equal Less b e = absurd cc
both_equal Equal b e = (refl, e)
both_equal Greater b e = absurd cc

same_move : (a b : Move) → move_order a b ≡ Equal → (r : ResourceId) → moved a.first a.count a.next r ≡ moved b.first b.count b.next r
unfolding move_order
same_move a b e r =
    let first = both_equal (nat_cmp a.first b.first) (ordering_then (nat_cmp a.count b.count) (nat_cmp a.next b.next)) e in
    let others = both_equal (nat_cmp a.count b.count) (nat_cmp a.next b.next) first.1 in
    ap (λ (x : ℕ). moved x a.count a.next r) (exact_unsigned a.first b.first first.0)
    ∙ ap (λ (x : ℕ). moved b.first x a.next r) (exact_unsigned a.count b.count others.0)
    ∙ ap (λ (x : ℕ). moved b.first b.count x r) (exact_unsigned a.next b.next others.1)

same_option : (x y : Option Move) → option_cmp move_order x y ≡ Equal → (r : ResourceId) → moved_by x r ≡ moved_by y r
same_option None None e r = refl
same_option None (Some b) e r = absurd cc
same_option (Some a) None e r = absurd cc
same_option (Some a) (Some b) e r = same_move a b e r

same_moves : (j k : Moves) → moves_order j k ≡ Equal → (r : ResourceId) → moved_through j r ≡ moved_through k r
unfolding move_order
same_moves j k e r =
    let both = both_equal (option_cmp move_order j.inner k.inner) (option_cmp move_order j.outer k.outer) e in
    ap (moved_by j.outer) (same_option j.inner k.inner both.0 r) ∙ same_option j.outer k.outer both.1 (moved_by k.inner r)

-- so the same stands for each resource, once it is moved
pub same_standing : (s : Standing) (j k : Moves) → moves_order j k ≡ Equal → (let a : Standing = λ r. s (moved_through j r) in a) ≡ (λ r. s (moved_through k r))
same_standing s j k e = fun_ext (λ r. ap s (same_moves j k e r))

pub same_func : (s : Standing) (j k : MovedFunc) → func_order j k ≡ Equal → ((let a : Standing = λ r. s (moved_through j.moves r) in a) ≡ (λ r. s (moved_through k.moves r))) × (j.place ≡ k.place)
same_func s j k e =
    let both = both_equal (moves_order j.moves k.moves) (nat_cmp j.place k.place) e in
    (same_standing s j.moves k.moves both.0, exact_unsigned j.place k.place both.1)
