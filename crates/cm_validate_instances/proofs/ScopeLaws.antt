-- A scope to which a type was added, or nothing.
use Rattle.std.proofs.Common.{◌≡◌, List, [], ◌∷◌, ◌++◌, Option, Some, None, Result, Ok, Err, IfOk, OnErr, MatchOption, refl}
use Rattle.cm_types.specs.Signatures.{NamedItem}
use Rattle.cm_validate_model.specs.Declarations.{Scope, with_type}
use Rattle.cm_validate_model.specs.Definitions.{TypeDef}

module _ (s : Scope) (types around : List TypeDef) (items : List NamedItem) (same_around : around ≡ s.around) (same_items : items ≡ s.items) where
  abbrev pub after : Scope
  after = record { types = types; around = around; next = s.next; items = items }

  after_is : (all : List TypeDef) → types ≡ all → after ≡ record s { types = all }
  after_is all e = rw (e, same_around, same_items) refl

  pub declared_by : {T E : Type 0} (r : Result (Option T) E) (t : TypeDef) → IfOk r (λ x. MatchOption x (types ≡ s.types ++ t ∷ []) (λ _. types ≡ s.types))
      → IfOk r (λ x. MatchOption x (after ≡ with_type s t) (λ _. after ≡ s))
  declared_by (Ok None) t h = after_is (s.types ++ t ∷ []) h
  declared_by (Ok (Some x)) t h = after_is s.types h
  declared_by (Err e) t h = tt

  pub kept_by : {T E : Type 0} (r : Result T E) → OnErr r (types ≡ s.types) → OnErr r (after ≡ s)
  kept_by (Ok x) h = tt
  kept_by (Err e) h = after_is s.types h
