use Rattle.std.proofs.Common.{◌≡◌, map, take}
use Rattle.cm_types.specs.TypeTrees.{field_of}
use Rattle.cm_validate_types.proofs.definitions.field_defs.Given as goal

-- the definitions so far have the labels and the places so far
abbrev pub invariant-loop-i : goal.invariant-loop-i
invariant-loop-i l = record {
  labels : map (λ d. d.label) l.defs.items ≡ map (λ f. (field_of f).0) (take l.i l.fields);
  places : map (λ d. d.ty) l.defs.items ≡ take l.i l.parts;
}
