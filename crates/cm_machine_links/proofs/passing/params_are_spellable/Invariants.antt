use Rattle.std.proofs.Common.{◌≡◌, true, map, take}
use Rattle.std.specs.List.{AllByRecursion}
use Rattle.cm_types.specs.Spellable.{is_spellable}
use Rattle.cm_types_arena.specs.Places.{types_of}
use Rattle.cm_types_arena.specs.TypeDefs.{type_at}
use Rattle.cm_machine_links.proofs.passing.params_are_spellable.Given as goal

abbrev pub invariant-loop-place : goal.invariant-loop-place
invariant-loop-place l =
    AllByRecursion (λ t. is_spellable t ≡ true) (map (type_at (types_of l.types)) (take l.place-index l.place-items))
