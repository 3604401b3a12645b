-- The arena of a scope has what it had.
use Rattle.std.proofs.Common.{◌≡◌, List, [], ◌++◌, refl, sym, ap, ◌∙◌, append-nil, append_assoc}
use Rattle.cm_validate_types.specs.declared.scope.TypeScope.{TypeScope}
use Rattle.cm_validate_types.specs.TypeScopes.{Extends, HasGrown, arena_funcs, arena_types}

pub unchanged : (old new : TypeScope) → arena_types new ≡ arena_types old → arena_funcs new ≡ arena_funcs old → HasGrown old new
unchanged old new p q = (([], p ∙ sym (append-nil (arena_types old))), ([], q ∙ sym (append-nil (arena_funcs old))))

pub same : (s : TypeScope) → HasGrown s s
same s = unchanged s s refl refl

pub more : {A : Type 0} (xs ys zs : List A) → Extends xs ys → Extends ys zs → Extends xs zs
more xs ys zs p q = (p.0 ++ q.0, q.1 ∙ ap (λ v. v ++ q.0) p.1 ∙ append_assoc xs p.0 q.0)

pub grown_on : (a b c : TypeScope) → HasGrown a b → HasGrown b c → HasGrown a c
grown_on a b c p q = (more (arena_types a) (arena_types b) (arena_types c) p.0 q.0, more (arena_funcs a) (arena_funcs b) (arena_funcs c) p.1 q.1)
