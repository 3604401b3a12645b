-- Items that add nothing to the core spaces.
use Rattle.std.proofs.Common.{◌≡◌, ℕ, List, [], ◌++◌, arith, ap, ◌∙◌, append-nil}
use Rattle.cm_validate_model.specs.Definitions.{CoreFuncDef}
use Rattle.cm_validate_model.specs.Items.{Item}
use Rattle.cm_validate_model.specs.Spaces.{Spaces, after_item, aliased, global_in, memory_after, memory_in, new_core_funcs, new_core_instances, new_core_modules, table_in}
use Rattle.cm_validate_core.specs.declared.spaces.CoreSpaces.{CoreSpaces}
use Rattle.cm_validate_core.specs.CoreSpaces.{IsCoreOf}

same : {A : Type 0} (xs ys zs : List A) → ys ≡ [] → xs ≡ zs → xs ++ ys ≡ zs
same xs ys zs e h = ap (λ v. xs ++ v) e ∙ append-nil xs ∙ h

pub nothing_added : (x : Item) (made : ℕ → CoreFuncDef) (c : CoreSpaces) (s : Spaces)
    → new_core_modules x ≡ 0 → new_core_instances s x ≡ [] → new_core_funcs s x ≡ [] → aliased table_in s x ≡ [] → aliased memory_in s x ≡ [] → aliased global_in s x ≡ [] → memory_after s x ≡ s.memory
    → IsCoreOf made c s → IsCoreOf made c (after_item s x)
nothing_added x made c s ms is fs ts mems gs first r = record {
  modules = omega (arith, ms, r.modules);
  instances = same s.core_instances (new_core_instances s x) _ is r.instances;
  funcs = same s.core_funcs (new_core_funcs s x) _ fs r.funcs;
  tables = same s.tables (aliased table_in s x) _ ts r.tables;
  memories = same s.memories (aliased memory_in s x) _ mems r.memories;
  globals = same s.globals (aliased global_in s x) _ gs r.globals;
  memory = first ∙ r.memory;
  no_guests = r.no_guests;
  memories_numbered = r.memories_numbered;
  instances_numbered = r.instances_numbered;
  memory_numbered = r.memory_numbered;
}
