-- The first memory that options name, and the spaces after a canonical definition.
use Rattle.std.proofs.Common.{◌≡◌, ℕ, ◌+◌, ◌<◌, ◌≤◌, true, false, List, [], ◌++◌, length, get_or, drop, Option, Some, None, refl, sym, ap, ◌∙◌, add-one, drop-cons, arith}
use Rattle.std.proofs.lemmas.List.{append-nil, drop_all}
use Rattle.std.specs.Option.{option_map, option_or}
use Rattle.std.specs.Prelude.{is_some}
use Rattle.cm_binary_model.specs.declared.canons.CanonOption.{CanonOption}
use Rattle.cm_binary_model.specs.Trees.{CanonTree}
use Rattle.cm_validate_model.specs.Definitions.{CoreExport, CoreFuncDef}
use Rattle.cm_validate_model.specs.Items.{canon_item}
use Rattle.cm_validate_model.specs.Spaces.{Spaces, after_item, first_memory, memory_after, new_core_funcs, option_memory}
use Rattle.cm_validate_core.specs.declared.entries.GuestMemory.{GuestMemory}
use Rattle.cm_validate_core.specs.declared.spaces.CoreSpaces.{CoreSpaces}
use Rattle.cm_validate_core.specs.CoreSpaces.{IsCoreOf, IsFirstNumbered, memory_names_of}
use Rattle.cm_validate_core.specs.Entries.{memory_of}

memory_next : (s : Spaces) (os : List CanonOption) (i : ℕ) (o : CanonOption) → i < length os → o ≡ get_or os i o → first_memory s (drop i os) ≡ option_or (option_memory s o) (first_memory s (drop (i + 1) os))
memory_next s os i o lt is = rw (add-one, drop-cons os i o lt, ← is) refl

takes : (m : Option GuestMemory) (rest : Option CoreExport) → is_some m ≡ true → option_or (option_map memory_of m) rest ≡ option_map memory_of m
takes None rest e = absurd cc
takes (Some m) rest e = refl

skips : (m : Option GuestMemory) (rest : Option CoreExport) → is_some m ≡ false → option_or (option_map memory_of m) rest ≡ rest
skips None rest e = refl
skips (Some m) rest e = absurd cc

pub memory_here : (s : Spaces) (os : List CanonOption) (i : ℕ) (o : CanonOption) (m : Option GuestMemory) → i < length os → o ≡ get_or os i o → option_map memory_of m ≡ option_memory s o → is_some m ≡ true → first_memory s (drop i os) ≡ first_memory s os → option_map memory_of m ≡ first_memory s os
memory_here s os i o m lt is e there before =
    sym (takes m (first_memory s (drop (i + 1) os)) there)
    ∙ ap (λ v. option_or v (first_memory s (drop (i + 1) os))) e
    ∙ sym (memory_next s os i o lt is)
    ∙ before

pub memory_later : (s : Spaces) (os : List CanonOption) (i : ℕ) (o : CanonOption) (m : Option GuestMemory) → i < length os → o ≡ get_or os i o → option_map memory_of m ≡ option_memory s o → is_some m ≡ false → first_memory s (drop i os) ≡ first_memory s os → first_memory s (drop (i + 1) os) ≡ first_memory s os
memory_later s os i o m lt is e there before =
    sym (skips m (first_memory s (drop (i + 1) os)) there)
    ∙ ap (λ v. option_or v (first_memory s (drop (i + 1) os))) e
    ∙ sym (memory_next s os i o lt is)
    ∙ before

pub memory_none : (s : Spaces) (os : List CanonOption) (i : ℕ) → length os ≤ i → first_memory s (drop i os) ≡ first_memory s os → None ≡ first_memory s os
memory_none s os i le before = sym (ap (first_memory s) (drop_all i os le)) ∙ before

-- ---- after a canonical definition

pub no_more_funcs : (made : ℕ → CoreFuncDef) (c : CoreSpaces) (s : Spaces) → IsCoreOf made c s → IsCoreOf made c (record s { core_funcs = s.core_funcs ++ [] })
no_more_funcs made c s r = rw (append-nil s.core_funcs) r

pub canon_done : (made : ℕ → CoreFuncDef) (c : CoreSpaces) (m : Option GuestMemory) (s : Spaces) (t : CanonTree) (new : List CoreFuncDef)
    → IsCoreOf made c (record s { core_funcs = s.core_funcs ++ new }) → new ≡ new_core_funcs s (canon_item t)
    → option_map memory_of m ≡ memory_after s (canon_item t) → IsFirstNumbered (memory_names_of c) m
    → IsCoreOf made (record c { memory = m }) (after_item s (canon_item t))
canon_done made c m s t new r e f n = record {
  modules = omega arith ∙ r.modules;
  instances = append-nil s.core_instances ∙ r.instances;
  funcs = ap (λ (fs : List CoreFuncDef). s.core_funcs ++ fs) (sym e) ∙ r.funcs;
  tables = append-nil s.tables ∙ r.tables;
  memories = append-nil s.memories ∙ r.memories;
  globals = append-nil s.globals ∙ r.globals;
  memory = sym f;
  no_guests = r.no_guests;
  memories_numbered = r.memories_numbered;
  instances_numbered = r.instances_numbered;
  memory_numbered = n;
}
