use Rattle.std.proofs.Common.{◌≡◌, ◌<◌, length, map, take}
use Rattle.std.specs.BTreeMap.{get}
use Rattle.std.specs.List.{AllByRecursion}
use Rattle.std.specs.Ordering.{nat_cmp}
use Rattle.cm_types.specs.Limits.{depth_of}
use Rattle.cm_types_arena.specs.Arena.{parts_in}
use Rattle.cm_types_arena.specs.Places.{funcs_of, types_of}
use Rattle.cm_types_arena.specs.TypeDefs.{type_at}
use Rattle.cm_types_arena.specs.Replaced.{replaced}
use Rattle.cm_validate_types.specs.Copies.{AreCopies, BeginsWith, CopiesOnce}
use Rattle.cm_validate_types.proofs.copies.+copy_at.Given as goal

-- what a type holds is less deep than the type
abbrev pub decreases-copy_at : goal.decreases-copy_at
decreases-copy_at g l = depth_of (type_at (types_of l.types.now) l.place)

-- the parts so far are copied
abbrev pub invariant-loop-i : goal.invariant-loop-i
invariant-loop-i g l = record {
  kept : BeginsWith (types_of l.types) (types_of l.fn.types);
  funcs : funcs_of l.types ≡ funcs_of l.fn.types;
  copies : AreCopies (g.R.Replacement.replacement l.by) (types_of l.types) (get nat_cmp l.copies);
  once : CopiesOnce (g.R.Replacement.replacement l.by) (types_of l.fn.types) (types_of l.types) (get nat_cmp l.fn.copies) (get nat_cmp l.copies) l.place;
  there : AllByRecursion (λ p. p < length (types_of l.types)) l.copied.items;
  copied : map (type_at (types_of l.types)) l.copied.items ≡ map (replaced (g.R.Replacement.replacement l.by)) (take l.i (parts_in (type_at (types_of l.fn.types) l.place)));
}
