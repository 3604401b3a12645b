-- What stands under a name, in a map and in the list of its entries.
use Rattle.std.proofs.Common.{◌≡◌, ℕ, Bool, true, false, cond, List, [], ◌∷◌, map, Some, refl, IfSome}
use Rattle.std.specs.Borrow.{Bor}
use Rattle.std.specs.Map.{lookup}
use Rattle.std.specs.Option.{option_map}
use Rattle.std.specs.Str.{bytes_eq}
use Rattle.cm_validate_model.specs.Definitions.{CoreFuncDef}
use Rattle.cm_validate_model.specs.Spaces.{core_def_named}
use Rattle.cm_validate_core.specs.declared.entries.CoreItem.{CoreItem}
use Rattle.cm_validate_core.specs.Entries.{def_of, named_def}
use Rattle.cm_validate_core.specs.CoreSpaces.{AreItemsNumbered, IsItemNumbered, MemoryNames}
use Rattle.cm_lemmas.proofs.Lists.{texts_either_way}

pub named_law : (made : ℕ → CoreFuncDef) (name : List ℕ) (es : List (Bor (List ℕ) × CoreItem)) → option_map (def_of made) (lookup (λ k. bytes_eq name k.now) es) ≡ core_def_named (map (named_def made) es) name
named_law made name [] = refl
named_law made name (e ∷ es) = rw (texts_either_way e.0.now name) (here (named_law made name es) (bytes_eq name e.0.now))
  where
    here : option_map (def_of made) (lookup (λ k. bytes_eq name k.now) es) ≡ core_def_named (map (named_def made) es) name → (t : Bool) → option_map (def_of made) (cond t (Some e.1) (lookup (λ k. bytes_eq name k.now) es)) ≡ cond t (Some (def_of made e.1)) (core_def_named (map (named_def made) es) name)
    here rest true = refl
    here rest false = rest

pub numbered_law : (names : MemoryNames) (name : List ℕ) (es : List (Bor (List ℕ) × CoreItem)) → AreItemsNumbered names es → IfSome (lookup (λ k. bytes_eq name k.now) es) (IsItemNumbered names)
numbered_law names name [] a = tt
numbered_law names name (e ∷ es) a = here (numbered_law names name es a.1) (bytes_eq name e.0.now)
  where
    here : IfSome (lookup (λ k. bytes_eq name k.now) es) (IsItemNumbered names) → (t : Bool) → IfSome (cond t (Some e.1) (lookup (λ k. bytes_eq name k.now) es)) (IsItemNumbered names)
    here rest true = a.0
    here rest false = rest
