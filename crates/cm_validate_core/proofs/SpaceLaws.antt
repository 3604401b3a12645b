-- The spaces of a component, at an index and with more names.
use Rattle.std.proofs.Common.{◌≡◌, ℕ, subst, List, [], ◌∷◌, Option, Some, None, refl, ap, ◌∙◌, IfSome, Result, Ok, Err, OnErr}
use Rattle.std.proofs.lemmas.Option.{slice_get-map}
use Rattle.std.specs.List.{AllByRecursion, slice_get}
use Rattle.std.specs.Option.{option_map, option_and_then}
use Rattle.cm_binary_model.specs.declared.instances.CoreSort.{CoreSort}
use Rattle.cm_validate_model.specs.Definitions.{CoreDef, CoreFuncDef, CoreInstanceDef}
use Rattle.cm_validate_model.specs.Spaces.{Spaces, aliased_core, core_export_in}
use Rattle.cm_binary_model.specs.Trees.{core_instance_export}
use Rattle.cm_validate_model.specs.declared.fault.ValidReason.TheVariants as reason
use Rattle.cm_validate_model.specs.Items.{alias_item}
use Rattle.cm_validate_model.specs.Reasons.{found, least, unless}
use Rattle.cm_validate_model.specs.Rules.{broken, is_of_core_sort}
use Rattle.cm_validate_core.specs.declared.entries.CoreItem.{CoreItem}
use Rattle.cm_validate_core.specs.declared.entries.CoreItem.TheVariants as item
use Rattle.cm_validate_core.specs.declared.entries.GuestMemory.{GuestMemory}
use Rattle.cm_validate_core.specs.declared.entries.CoreInstanceEntry.{CoreInstanceEntry}
use Rattle.cm_validate_core.specs.declared.entries.CoreInstanceEntry.TheVariants as entry
use Rattle.cm_validate_core.specs.declared.spaces.CoreSpaces.{CoreSpaces}
use Rattle.cm_validate_core.specs.NameMaps.{entries_of}
use Rattle.cm_validate_core.specs.Entries.{instance_of}
use Rattle.cm_validate_core.specs.CoreSpaces.{IsCoreOf, IsFirstNumbered, IsInstanceNumbered, IsItemNumbered, IsMemoryNumbered, KeepsNumbers, MemoryNames, memory_names_of}
use Rattle.cm_lemmas.proofs.Lists.{got_at}

-- ---- at an index

pub aliased_at : (made : ℕ → CoreFuncDef) (c : CoreSpaces) (s : Spaces) (sort : CoreSort) (i : ℕ) (name : List ℕ) (o : Option CoreInstanceEntry) → IsCoreOf made c s → slice_get c.instances.items i ≡ o → aliased_core s sort i name ≡ option_and_then (λ e. core_export_in sort i name (instance_of made e)) o
aliased_at made c s sort i name o r e =
    ap (λ (xs : List CoreInstanceDef). option_and_then (core_export_in sort i name) (slice_get xs i)) r.instances
    ∙ ap (option_and_then (core_export_in sort i name)) (slice_get-map (instance_of made) c.instances.items i ∙ ap (option_map (instance_of made)) e)
    ∙ through o
  where
    through : (o : Option CoreInstanceEntry) → option_and_then (core_export_in sort i name) (option_map (instance_of made) o) ≡ option_and_then (λ e. core_export_in sort i name (instance_of made e)) o
    through None = refl
    through (Some x) = refl

pub instance_numbered : (made : ℕ → CoreFuncDef) (c : CoreSpaces) (s : Spaces) (i : ℕ) (e : CoreInstanceEntry) → IsCoreOf made c s → slice_get c.instances.items i ≡ Some e → IsInstanceNumbered (memory_names_of c) e
instance_numbered made c s i e r is = got_at (IsInstanceNumbered (memory_names_of c)) c.instances.items i e r.instances_numbered is

-- ---- with more names

all_keep : {A : Type 0} (P Q : A → Type 0) (xs : List A) → ((x : A) → P x → Q x) → AllByRecursion P xs → AllByRecursion Q xs
all_keep P Q [] f a = tt
all_keep P Q (x ∷ xs) f a = (f x a.0, all_keep P Q xs f a.1)

item_keeps : (old new : MemoryNames) → KeepsNumbers old new → (i : CoreItem) → IsItemNumbered old i → IsItemNumbered new i
item_keeps old new k (item.Func f) a = tt
item_keeps old new k (item.Table e) a = tt
item_keeps old new k (item.Memory m) a = k m.export.name.now m.number a
item_keeps old new k (item.Global e) a = tt

instance_keeps : (old new : MemoryNames) → KeepsNumbers old new → (e : CoreInstanceEntry) → IsInstanceNumbered old e → IsInstanceNumbered new e
instance_keeps old new k (entry.Instantiated m) a = tt
instance_keeps old new k (entry.Exporting items) a = all_keep (λ e. IsItemNumbered old e.1) (λ e. IsItemNumbered new e.1) (entries_of items) (λ e. item_keeps old new k e.1) a

first_keeps : (old new : MemoryNames) → KeepsNumbers old new → (o : Option GuestMemory) → IsFirstNumbered old o → IsFirstNumbered new o
first_keeps old new k None a = tt
first_keeps old new k (Some m) a = k m.export.name.now m.number a

-- the spaces c with the names of d
pub names_keep : (made : ℕ → CoreFuncDef) (c d : CoreSpaces) (s : Spaces) → KeepsNumbers (memory_names_of c) (memory_names_of d) → IsCoreOf made c s → IsCoreOf made (record c { memory_names = d.memory_names }) s
names_keep made c d s k r = record {
  modules = r.modules;
  instances = r.instances;
  funcs = r.funcs;
  tables = r.tables;
  memories = r.memories;
  globals = r.globals;
  memory = r.memory;
  no_guests = r.no_guests;
  memories_numbered = all_keep (IsMemoryNumbered (memory_names_of c)) (IsMemoryNumbered (memory_names_of d)) c.memories.items (λ m. k m.export.name.now m.number) r.memories_numbered;
  instances_numbered = all_keep (IsInstanceNumbered (memory_names_of c)) (IsInstanceNumbered (memory_names_of d)) c.instances.items (instance_keeps (memory_names_of c) (memory_names_of d) k) r.instances_numbered;
  memory_numbered = first_keeps (memory_names_of c) (memory_names_of d) k c.memory r.memory_numbered;
}

-- ---- what an alias breaks

pub broken_at : (s : Spaces) (sort : CoreSort) (i : ℕ) (name : List ℕ) (o : Option CoreDef) → aliased_core s sort i name ≡ o → least (broken s (alias_item (core_instance_export sort i name))) ≡ least (found (λ d. unless (is_of_core_sort sort d) reason.WrongSort) o)
broken_at s sort i name o e = ap (λ (p : Option CoreDef). least (found (λ d. unless (is_of_core_sort sort d) reason.WrongSort) p)) e

pub on_any_err : {A E P : Type 0} (r : Result A E) → P → OnErr r P
on_any_err (Ok x) p = tt
on_any_err (Err e) p = p

pub numbered_there : (names : MemoryNames) (o : Option CoreItem) (i : CoreItem) → o ≡ Some i → IfSome o (IsItemNumbered names) → IsItemNumbered names i
numbered_there names None i e a = absurd cc
numbered_there names (Some j) i e a = subst (IsItemNumbered names) (some_is e) a
  where
    some_is : Some j ≡ Some i → j ≡ i
    some_is f = cc
