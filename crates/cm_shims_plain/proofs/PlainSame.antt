-- A file without shims is its own plain component.
use Rattle.std.proofs.Common.{◌≡◌, ℕ, suc, List, [], ◌∷◌, ◌++◌, map, Ok, refl, sym, ap, ◌∙◌, append_assoc, append-nil, inl, inr}
use Rattle.std.proofs.lemmas.Bool.{cases_Bool}
use Rattle.cm_binary_grammar.specs.Whole.{state_after}
use Rattle.cm_types.specs.DefTypes.{DefTypeTree}
use Rattle.cm_binary_model.specs.declared.externs.ExternDesc.{ExternDesc}
use Rattle.cm_binary_model.specs.declared.externs.ExternDesc.TheVariants as descs
use Rattle.cm_binary_model.specs.declared.externs.Import.{Import}
use Rattle.cm_binary_model.specs.declared.instances.InlineExport.{InlineExport}
use Rattle.cm_binary_model.specs.Trees as sections
use Rattle.cm_binary_model.specs.Trees.{SectionTree, AliasTree}
use Rattle.cm_shims_plain.specs.Trees as trees
use Rattle.cm_shims_plain.specs.Trees.{ShimTree}
use Rattle.cm_shims_plain.specs.Origins.{Origin}
use Rattle.cm_shims_plain.specs.Plain.{Items, Imports, Instances, Plain, def_step, alias_step, types_behind, is_of_type, imported, import_step, instance_step, item_fault, file_fault, section_step, plain_step, with_import, with_instances, with_section, no_items, no_imports, no_instances}
use Rattle.cm_shims_plain.specs.Spaces.{Types, place}
use Rattle.cm_shims_plain.specs.Steps.{each_numbered}
use Rattle.cm_shims_plain.specs.Widened.{numbers_from, own_items, own_origins, widened, widened_desc, widened_import}
use Rattle.cm_shims_plain.proofs.SameLaws.{IsSame, place_same, define_same, def_same, alias_same, canons_same, exports_same}

-- What goes through items keeps them, and types at their own indices.
record Kept {A : Type 0} (before : List A) (xs : List A) (s : Items A) : Type 0 where
  items : s.items ≡ before ++ xs
  types : IsSame s.types

kept_more : {A : Type 0} (before : List A) (x y : A) (xs : List A) (s : Items A) → y ≡ x → Kept (before ++ y ∷ []) xs s → Kept before (x ∷ xs) s
kept_more before x y xs s same h = record { items = h.items ∙ (rw same (append_assoc before (x ∷ []) xs)); types = h.types }

defs_kept : (ts : List DefTypeTree) (s : Items DefTypeTree) → IsSame s.types → Kept s.items ts (state_after def_step s ts)
defs_kept [] s h = record { items = sym (append-nil s.items); types = h }
defs_kept (t ∷ ts) s h = kept_more s.items t _ ts _ (def_same (place s.types) (place_same s.types h) t) (defs_kept ts (def_step s t) (define_same s.types h))

behind_same : (s : Types) (a : AliasTree) → IsSame s → IsSame (types_behind s a)
behind_same s a h =
    elim (cases_Bool (is_of_type a)) [
      | inl t ↦ rw t (define_same s h)
      | inr f ↦ rw f h
    ]

aliases_kept : (as_ : List AliasTree) (s : Items AliasTree) → IsSame s.types → Kept s.items as_ (state_after alias_step s as_)
aliases_kept [] s h = record { items = sym (append-nil s.items); types = h }
aliases_kept (a ∷ as_) s h = kept_more s.items a _ as_ _ (alias_same (place s.types) (place_same s.types h) a) (aliases_kept as_ (alias_step s a) (behind_same s.types a h))

-- ---- imports and instances

import_kept : (n : ℕ) (s : Imports) (name : List ℕ) (d : ExternDesc) → IsSame s.types → imported n s name (widened_desc d) ≡ Ok (with_import n (record { name = name; desc = d }) s)
import_kept n s name (descs.Func ty) h = rw (place_same s.types h ty) refl
import_kept n s name (descs.Instance ty) h = rw (place_same s.types h ty) refl

imports_kept : (is : List Import) (n : ℕ) (s : Imports) → IsSame s.types → each_numbered item_fault import_step n s (map widened_import is) ≡ Ok (record { types = s.types; items = s.items ++ is; from = s.from ++ numbers_from n is })
imports_kept [] n s h = rw (append-nil s.items, append-nil s.from) refl
imports_kept (i ∷ is) n s h = rw (import_kept n s i.name i.desc h) (imports_kept is (suc n) (with_import n i s) h ∙ rw (append_assoc s.items (i ∷ []) is, append_assoc s.from (n ∷ []) (numbers_from (suc n) is)) refl)

abbrev with_more : Instances → List (List InlineExport) → Instances
with_more s is = record { types = s.types; made = s.made; from = s.from; bytes = s.bytes; instances = s.instances ++ is; wants = s.wants }

instances_kept : (shims : List ShimTree) (is : List (List InlineExport)) (n : ℕ) (s : Instances) → IsSame s.types → each_numbered item_fault (instance_step shims) n s (map trees.of_exports is) ≡ Ok (with_more s is)
instances_kept shims [] n s h = rw (append-nil s.instances) refl
instances_kept shims (e ∷ is) n s h = rw (exports_same (place s.types) (place_same s.types h) e) (instances_kept shims is (suc n) (with_more s (e ∷ [])) h ∙ rw (append_assoc s.instances (e ∷ []) is) refl)

-- ---- sections

-- A step goes through a section and keeps it.
record Goes (n : ℕ) (s : Plain) (section : SectionTree) : Type 0 where
  next : Plain
  step : section_step n s (widened section) ≡ Ok next
  sections : next.sections ≡ s.sections ++ section ∷ []
  origins : next.origins ≡ s.origins ++ record { section = n; items = own_items section } ∷ []
  wants : next.wants ≡ s.wants
  types : IsSame next.types

goes : (n : ℕ) (s : Plain) (section : SectionTree) → IsSame s.types → Goes n s section
goes n s (sections.custom name bytes) h = record { next = plain_step n s (sections.custom name bytes); step = refl; sections = refl; origins = refl; wants = refl; types = h }
goes n s (sections.core_module bytes) h = record { next = plain_step n s (sections.core_module bytes); step = refl; sections = refl; origins = refl; wants = refl; types = h }
goes n s (sections.core_instances items) h = record { next = plain_step n s (sections.core_instances items); step = refl; sections = refl; origins = refl; wants = refl; types = h }
goes n s (sections.instances items) h = record {
  next = with_instances n s (with_more (no_instances s) items);
  step = rw (instances_kept s.shims items 0 (no_instances s) h) refl;
  sections = ap (λ (xs : List SectionTree). xs ++ sections.instances items ∷ []) (append-nil s.sections);
  origins = ap (λ (xs : List Origin). xs ++ record { section = n; items = [] } ∷ []) (append-nil s.origins);
  wants = refl;
  types = h;
}
goes n s (sections.aliases items) h =
    let k = aliases_kept items (no_items s.types) h in record {
      next = plain_step n s (sections.aliases items);
      step = refl;
      sections = ap (λ (xs : List AliasTree). s.sections ++ sections.aliases xs ∷ []) k.items;
      origins = refl;
      wants = refl;
      types = k.types;
    }
goes n s (sections.types items) h =
    let k = defs_kept items (no_items s.types) h in record {
      next = plain_step n s (sections.types items);
      step = refl;
      sections = ap (λ (xs : List DefTypeTree). s.sections ++ sections.types xs ∷ []) k.items;
      origins = refl;
      wants = refl;
      types = k.types;
    }
goes n s (sections.canons items) h = record {
  next = plain_step n s (sections.canons items);
  step = refl;
  sections = rw (canons_same (place s.types) (place_same s.types h) items) refl;
  origins = refl;
  wants = refl;
  types = h;
}
goes n s (sections.imports items) h = record { next = with_section s.types (sections.imports items) (record { section = n; items = numbers_from 0 items }) s; step = rw (imports_kept items 0 (no_imports s.types) h) refl; sections = refl; origins = refl; wants = refl; types = h }
goes n s (sections.exports items) h = record { next = plain_step n s (sections.exports items); step = refl; sections = refl; origins = refl; wants = refl; types = h }

pub record Ends (s : Plain) (n : ℕ) (c : List SectionTree) : Type 0 where
  pub end : Plain
  pub steps : each_numbered file_fault section_step n s (map widened c) ≡ Ok end
  pub sections : end.sections ≡ s.sections ++ c
  pub origins : end.origins ≡ s.origins ++ own_origins n c
  pub wants : end.wants ≡ s.wants

pub ends : (c : List SectionTree) (n : ℕ) (s : Plain) → IsSame s.types → Ends s n c
ends [] n s h = record { end = s; steps = refl; sections = sym (append-nil s.sections); origins = sym (append-nil s.origins); wants = refl }
ends (x ∷ c) n s h =
    let g = goes n s x h in
    let e = ends c (suc n) g.next g.types in record {
      end = e.end;
      steps = rw g.step e.steps;
      sections = e.sections ∙ (ap (λ (xs : List SectionTree). xs ++ c) g.sections ∙ append_assoc s.sections (x ∷ []) c);
      origins = e.origins ∙ (ap (λ (xs : List Origin). xs ++ own_origins (suc n) c) g.origins ∙ append_assoc s.origins (record { section = n; items = own_items x } ∷ []) (own_origins (suc n) c));
      wants = e.wants ∙ g.wants;
    }
