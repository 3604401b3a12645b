use Rattle.std.proofs.Common.{◌≡◌, take, true}
use Rattle.cm_validate_types.specs.SettledScopes.{StaysSettled}
use Rattle.cm_validate_types.specs.TypeScopes.{HasGrown, own_types, types_around}
use Rattle.cm_validate_types.specs.Uses.{are_uses_unmoved}
use Rattle.cm_validate_types.proofs.scope.TypeScope.settle_all.Given as goal

-- those so far are settled, and the types are what they were
abbrev pub invariant-loop-ty : goal.invariant-loop-ty
invariant-loop-ty l = record {
  settled : are_uses_unmoved l.self.own.entries.items (take l.ty-index l.uses) ≡ true;
  own : own_types l.self ≡ own_types l.fn.self;
  around : types_around l.self ≡ types_around l.fn.self;
  grown : HasGrown l.fn.self l.self;
  stays : StaysSettled l.fn.self l.self;
}
