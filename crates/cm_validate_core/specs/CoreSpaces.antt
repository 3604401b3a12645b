-- The core index spaces, as those of a whole component.
use Rattle.std.specs.Prelude.{◌≡◌, ⊤, ℕ, false, List, Option, Some, None, map}
use Rattle.std.specs.Borrow.{Bor}
use Rattle.std.specs.List.{AllByRecursion}
use Rattle.std.specs.Option.{option_map}
use Rattle.cm_binary_model.specs.Trees.{CanonTree, lift}
use Rattle.cm_validate_model.specs.Definitions.{CoreFuncDef}
use Rattle.cm_validate_model.specs.Items.{Item}
use Rattle.cm_validate_model.specs.declared.fault.ValidReason.{ValidReason}
use Rattle.cm_validate_model.specs.Options.{is_guest}
use Rattle.cm_validate_model.specs.Reasons.{least}
use Rattle.cm_validate_model.specs.Rules.{broken}
use Rattle.cm_validate_model.specs.Spaces.{Spaces, after_item}
use Rattle.cm_validate_core.specs.NameMaps.{entries_of}
use Rattle.cm_validate_core.specs.NamedValues.{names_in, place_of}
use Rattle.cm_validate_core.specs.declared.entries.GuestMemory.{GuestMemory}
use Rattle.cm_validate_core.specs.declared.entries.CoreItem.{CoreItem}
use Rattle.cm_validate_core.specs.declared.entries.CoreItem.TheVariants as item
use Rattle.cm_validate_core.specs.declared.entries.CoreInstanceEntry.{CoreInstanceEntry}
use Rattle.cm_validate_core.specs.declared.entries.CoreInstanceEntry.TheVariants as entry
use Rattle.cm_validate_core.specs.declared.spaces.CoreSpaces.{CoreSpaces}
use Rattle.cm_validate_core.specs.Entries.{export_of, memory_of, func_of, instance_of}

-- ---- the numbers of memories

-- the names that memories of instances of modules were aliased by, each once
abbrev pub MemoryNames : Type 0
MemoryNames = List (List ℕ)

-- those of the core spaces
abbrev pub memory_names_of : CoreSpaces → MemoryNames
memory_names_of c = names_in (entries_of c.memory_names)

-- the number of a memory is the place of its name
abbrev pub IsMemoryNumbered : MemoryNames → GuestMemory → Type 0
IsMemoryNumbered names m = place_of m.export.name.now names ≡ Some m.number

abbrev pub IsItemNumbered : MemoryNames → CoreItem → Type 0
IsItemNumbered names (item.Memory m) = IsMemoryNumbered names m
IsItemNumbered names _ = ⊤

abbrev pub AreItemsNumbered : MemoryNames → List (Bor (List ℕ) × CoreItem) → Type 0
AreItemsNumbered names items = AllByRecursion (λ e. IsItemNumbered names e.1) items

abbrev pub IsInstanceNumbered : MemoryNames → CoreInstanceEntry → Type 0
IsInstanceNumbered names (entry.Instantiated m) = ⊤
IsInstanceNumbered names (entry.Exporting items) = AreItemsNumbered names (entries_of items)

abbrev pub IsFirstNumbered : MemoryNames → Option GuestMemory → Type 0
IsFirstNumbered names None = ⊤
IsFirstNumbered names (Some m) = IsMemoryNumbered names m

-- names keep their numbers where others are added
abbrev pub KeepsNumbers : MemoryNames → MemoryNames → Type 0
KeepsNumbers old new = (name : List ℕ) (n : ℕ)
    → place_of name old ≡ Some n → place_of name new ≡ Some n

-- ---- what they are

-- These are the core index spaces among the spaces of a component, where `made` tells by its number
-- what a canonical definition made.
pub record IsCoreOf (made : ℕ → CoreFuncDef) (c : CoreSpaces) (s : Spaces) : Type 0 where
  pub modules : s.core_modules ≡ c.modules
  pub instances : s.core_instances ≡ map (instance_of made) c.instances.items
  pub funcs : s.core_funcs ≡ map (func_of made) c.funcs.items
  pub tables : s.tables ≡ map export_of c.tables.items
  pub memories : s.memories ≡ map memory_of c.memories.items
  pub globals : s.globals ≡ map export_of c.globals.items
  pub memory : s.memory ≡ option_map memory_of c.memory
  pub no_guests : (n : ℕ) → is_guest (made n) ≡ false
  pub memories_numbered : AllByRecursion (IsMemoryNumbered (memory_names_of c)) c.memories.items
  pub instances_numbered : AllByRecursion (IsInstanceNumbered (memory_names_of c)) c.instances.items
  pub memory_numbered : IsFirstNumbered (memory_names_of c) c.memory

-- the spaces are those after an item, whatever they were before it
abbrev pub Becomes : Item → CoreSpaces → CoreSpaces → Type 0
Becomes x old new =
    (made : ℕ → CoreFuncDef) (s : Spaces) → IsCoreOf made old s → IsCoreOf made new (after_item s x)

-- the spaces stand for the same as before
abbrev pub Stays : CoreSpaces → CoreSpaces → Type 0
Stays old new = (made : ℕ → CoreFuncDef) (s : Spaces) → IsCoreOf made old s → IsCoreOf made new s

-- what stands for the spaces before an item stands for those after it
abbrev pub StaysAfter : Item → Type 0
StaysAfter x =
    (made : ℕ → CoreFuncDef) (c : CoreSpaces) (s : Spaces) → IsCoreOf made c s
    → IsCoreOf made c (after_item s x)

-- ---- what calls answer

-- the spaces after an item that violates no rule; where it violates a rule, those before it
abbrev pub after_answer : Option ValidReason → Spaces → Item → Spaces
after_answer None s x = after_item s x
after_answer (Some r) s x = s

-- A call answers for an item: with the least reason to refuse it, or else after it.
pub record Answers (x : Item) (old : CoreSpaces) (r : Option ValidReason) (new : CoreSpaces)
    : Type 0 where
  pub fault : (made : ℕ → CoreFuncDef) (s : Spaces) → IsCoreOf made old s → r ≡ least (broken s x)
  pub after : (made : ℕ → CoreFuncDef) (s : Spaces) → IsCoreOf made old s
      → IsCoreOf made new (after_answer r s x)

-- ---- what canonical definitions make

-- how many core functions canonical definitions made so far, which have the numbers from 0 on
abbrev pub made_count : CoreSpaces → ℕ
made_count c = c.made

-- the number of the core function that a canonical definition makes; a lift makes none
abbrev pub number_made : CoreSpaces → CanonTree → Option ℕ
number_made c (lift f os ty) = None
number_made c _ = Some (made_count c)

-- how many core functions a canonical definition makes
abbrev pub count_made : CanonTree → ℕ
count_made (lift f os ty) = 0
count_made _ = 1
