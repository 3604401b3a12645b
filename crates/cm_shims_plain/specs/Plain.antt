-- The plain component that a file stands for, in which no shim stands: an instance of a shim is
-- made of the functions and types that it exports, behind the types that the shim defines; an
-- import of a type that is equal to another is that type.
use Rattle.std.specs.Prelude.{ℕ, ◌-◌, nat_le, Bool, true, false, List, [], ◌∷◌, ◌++◌, map}
use Rattle.std.specs.Prelude.{length, replicate, slice_get, Result, Ok, Err, if◌then◌else◌}
use Rattle.std.specs.Option.{option_map_or}
use Rattle.cm_binary_grammar.specs.Faults.{and_then}
use Rattle.cm_binary_grammar.specs.Whole.{state_after}
use Rattle.cm_types.specs.DefTypes.{DefTypeTree}
use Rattle.cm_binary_model.specs.declared.externs.ExternDesc.TheVariants as descs
use Rattle.cm_binary_model.specs.declared.externs.Import.{Import}
use Rattle.cm_binary_model.specs.declared.instances.InlineExport.{InlineExport}
use Rattle.cm_binary_model.specs.declared.instances.InstanceExportSort.TheVariants as sorts
use Rattle.cm_binary_model.specs.declared.limits.TheConstants.{MAX_FILE_BYTES}
use Rattle.cm_binary_model.specs.Trees as sections
use Rattle.cm_binary_model.specs.Trees.{SectionTree, AliasTree, CanonTree}
use Rattle.cm_shims_plain.specs.declared.parts.Argument.{Argument}
use Rattle.cm_shims_plain.specs.declared.parts.WideDesc.{WideDesc}
use Rattle.cm_shims_plain.specs.declared.parts.WideDesc.TheVariants as wide_descs
use Rattle.cm_shims_plain.specs.declared.parts.WideImport.{WideImport}
use Rattle.cm_shims_plain.specs.Trees as trees
use Rattle.cm_shims_plain.specs.Trees.{ShimTree, WideInstanceTree, WideSectionTree}
use Rattle.cm_shims_plain.specs.declared.fault.ItemFault.{ItemFault}
use Rattle.cm_shims_plain.specs.declared.fault.PlainFault.{PlainFault}
use Rattle.cm_shims_plain.specs.declared.fault.ShimReason.{ShimReason}
use Rattle.cm_shims_plain.specs.declared.fault.ShimReason.TheVariants.{NoSuchShim, TooLong}
use Rattle.cm_shims_plain.specs.declared.fault.ShimReason.TheVariants.{NameTwice}
use Rattle.cm_shims_plain.specs.declared.wants.Want.{Want}
use Rattle.cm_shims_plain.specs.Instantiated.{Instantiated, instantiated, instantiating, given_by}
use Rattle.cm_shims_plain.specs.Instantiated.{add_type, define_type, type_at}
use Rattle.cm_shims_plain.specs.Names.{first_twice, import_keys}
use Rattle.cm_shims_plain.specs.Origins.{Origin}
use Rattle.cm_shims_plain.specs.Renumbered.{renumbered_def, renumbered_alias, renumbered_canon}
use Rattle.cm_shims_plain.specs.Renumbered.{renumbered_export}
use Rattle.cm_shims_plain.specs.Spaces.{Types, place}
use Rattle.cm_shims_plain.specs.Steps.{each_numbered, or_reason}

-- Items that were gone through, renumbered, and the types behind them.
pub record Items (A : Type 0) : Type 0 where
  pub types : Types
  pub items : List A

abbrev pub with_item : {A : Type 0} → Types → List A → A → Items A
with_item types items x = record { types = types; items = items ++ x ∷ [] }

-- ---- the items of sections

-- A type definition.
abbrev pub def_step : Items DefTypeTree → DefTypeTree → Items DefTypeTree
def_step s t = with_item (define_type s.types) s.items (renumbered_def (place s.types) t)

-- Whether an alias is of a type, and so defines one.
abbrev pub is_of_type : AliasTree → Bool
is_of_type (sections.instance_export sorts.Type instance name) = true
is_of_type (sections.instance_export sorts.Func instance name) = false
is_of_type (sections.core_instance_export sort instance name) = false
is_of_type (sections.outer_type outer) = true

-- The types behind an alias.
abbrev pub types_behind : Types → AliasTree → Types
types_behind s a = if is_of_type a then define_type s else s

-- An alias.
abbrev pub alias_step : Items AliasTree → AliasTree → Items AliasTree
alias_step s a = with_item (types_behind s.types a) s.items (renumbered_alias (place s.types) a)

-- The imports of a section as far as it was gone through: the types; the imports that stay, and
-- which of the section each of them is.
pub record Imports : Type 0 where
  pub types : Types
  pub items : List Import
  pub from : List ℕ

abbrev pub with_import : ℕ → Import → Imports → Imports
with_import n i s = record {
  types = s.types;
  items = s.items ++ i ∷ [];
  from = s.from ++ n ∷ [];
}

-- An import of a function or an instance stays; a type is one that is there.
abbrev pub imported : ℕ → Imports → List ℕ → WideDesc → Result Imports ShimReason
imported n s name (wide_descs.Func ty) =
    Ok (with_import n (record { name = name; desc = descs.Func (place s.types ty) }) s)
imported n s name (wide_descs.Instance ty) =
    Ok (with_import n (record { name = name; desc = descs.Instance (place s.types ty) }) s)
imported n s name (wide_descs.Type ty) = and_then (type_at s.types.places ty)
    (λ p. Ok (record { types = add_type p s.types; items = s.items; from = s.from }))

abbrev pub import_step : ℕ → Imports → WideImport → Result Imports ShimReason
import_step n s i = imported n s i.name i.desc

-- ---- instances

-- The instances of a section as far as it was gone through: the types; those that shims define, and
-- which instance of the section each of them is for; how many bytes of shims may still be gone
-- through; the instances; what shims want of types.
pub record Instances : Type 0 where
  pub types : Types
  pub made : List DefTypeTree
  pub from : List ℕ
  pub bytes : ℕ
  pub instances : List (List InlineExport)
  pub wants : List Want

-- An instance that is made of exports.
abbrev pub of_exports : Instances → List InlineExport → Instances
of_exports s exports = record {
  types = s.types;
  made = s.made;
  from = s.from;
  bytes = s.bytes;
  instances = s.instances ++ map (renumbered_export (place s.types)) exports ∷ [];
  wants = s.wants;
}

-- The instance of this number, of a shim of so many bytes: the types made behind those that were
-- made before are for it.
abbrev pub of_shim : ℕ → Instances → ℕ → Instantiated → Instances
of_shim n s size i = record {
  types = record { places = s.types.places; count = i.types.count };
  made = i.made;
  from = s.from ++ replicate (length i.made - length s.from) n;
  bytes = s.bytes - size;
  instances = s.instances ++ i.exports ∷ [];
  wants = i.wants;
}

-- An instance of a shim, with what it is given. What shims have to be gone through for their
-- instances may take as many bytes as a file, each shim once an instance.
abbrev pub shim_instance : ℕ → Instances → List Argument → ShimTree → Result Instances ShimReason
shim_instance n s args shim = if nat_le shim.size s.bytes
    then and_then (given_by args s.types.places) (λ g.
    and_then (instantiated g (instantiating s.types.count s.made s.wants) shim.sections) (λ i.
    Ok (of_shim n s shim.size i)))
    else Err TooLong

abbrev pub instance_step : List ShimTree → ℕ → Instances → WideInstanceTree
    → Result Instances ShimReason
instance_step shims n s (trees.of_exports exports) = Ok (of_exports s exports)
instance_step shims n s (trees.instantiate component args) =
    and_then (or_reason NoSuchShim (slice_get shims component)) (shim_instance n s args)

-- ---- sections

-- A file as far as it was gone through: its types, its shims; how many bytes of shims may still be
-- gone through; the sections of the plain component, and where each comes from; what shims want of
-- types.
pub record Plain : Type 0 where
  pub types : Types
  pub shims : List ShimTree
  pub bytes : ℕ
  pub sections : List SectionTree
  pub origins : List Origin
  pub wants : List Want

-- The section of the plain component that these items make, behind the others.
abbrev pub with_section : Types → SectionTree → Origin → Plain → Plain
with_section types section origin s = record {
  types = types;
  shims = s.shims;
  bytes = s.bytes;
  sections = s.sections ++ section ∷ [];
  origins = s.origins ++ origin ∷ [];
  wants = s.wants;
}

abbrev pub no_items : {A : Type 0} → Types → Items A
no_items s = record { types = s; items = [] }

abbrev pub no_imports : Types → Imports
no_imports s = record { types = s; items = []; from = [] }

-- A section that a file without shims may have too, with its types renumbered, and the types behind
-- it.
abbrev pub plain_section : Types → SectionTree → Types × SectionTree
plain_section s (sections.types ts) = let i = state_after def_step (no_items s) ts in
    (i.types, sections.types i.items)
plain_section s (sections.aliases as_) = let i = state_after alias_step (no_items s) as_ in
    (i.types, sections.aliases i.items)
plain_section s (sections.canons cs) =
    (s, sections.canons (map (renumbered_canon (place s)) cs))
plain_section s section = (s, section)

-- Such a section: each item of it is one of the plain component.
abbrev pub plain_step : ℕ → Plain → SectionTree → Plain
plain_step n s section = let x = plain_section s.types section in
    with_section x.0 x.1 (record { section = n; items = [] }) s

-- A shim, which makes no section.
abbrev pub with_shim : ShimTree → Plain → Plain
with_shim shim s = record {
  types = s.types;
  shims = s.shims ++ shim ∷ [];
  bytes = s.bytes;
  sections = s.sections;
  origins = s.origins;
  wants = s.wants;
}

-- The section of the types that shims define, if they define any.
abbrev pub made_section : List DefTypeTree → List SectionTree
made_section [] = []
made_section (t ∷ ts) = sections.types (t ∷ ts) ∷ []

-- Where it comes from.
abbrev pub made_origin : ℕ → List DefTypeTree → List ℕ → List Origin
made_origin n [] from = []
made_origin n (t ∷ ts) from = record { section = n; items = from } ∷ []

-- Instances, behind the types that shims define.
abbrev pub no_instances : Plain → Instances
no_instances s = record {
  types = s.types;
  made = [];
  from = [];
  bytes = s.bytes;
  instances = [];
  wants = s.wants;
}

abbrev pub with_instances : ℕ → Plain → Instances → Plain
with_instances n s i = record {
  types = i.types;
  shims = s.shims;
  bytes = i.bytes;
  sections = (s.sections ++ made_section i.made) ++ sections.instances i.instances ∷ [];
  origins = (s.origins ++ made_origin n i.made i.from)
      ++ record { section = n; items = [] } ∷ [];
  wants = i.wants;
}

-- A reason with the place of its item in its section, and in the file.
abbrev pub item_fault : ℕ → ShimReason → ItemFault
item_fault item reason = record { item = item; reason = reason }

abbrev pub file_fault : ℕ → ItemFault → PlainFault
file_fault section f = record { section = section; item = f.item; reason = f.reason }

-- A shim whose imports have sorts and names of which none stands twice.
abbrev pub shim_step : Plain → ShimTree → Result Plain ItemFault
shim_step s shim = option_map_or (λ n. Err (item_fault n NameTwice))
    (first_twice (import_keys shim.sections)) (Ok (with_shim shim s))

-- A section of the file, with its number.
abbrev pub section_step : ℕ → Plain → WideSectionTree → Result Plain ItemFault
section_step n s (trees.plain_section section) = Ok (plain_step n s section)
section_step n s (trees.shim shim) = shim_step s shim
section_step n s (trees.wide_instances items) =
    and_then (each_numbered item_fault (instance_step s.shims) 0 (no_instances s) items)
    (λ i. Ok (with_instances n s i))
section_step n s (trees.wide_imports items) =
    and_then (each_numbered item_fault import_step 0 (no_imports s.types) items)
    (λ i. Ok (with_section i.types (sections.imports i.items)
    (record { section = n; items = i.from }) s))

-- Nothing of a file was gone through.
abbrev pub nothing : Plain
nothing = record {
  types = record { places = []; count = 0 };
  shims = [];
  bytes = MAX_FILE_BYTES;
  sections = [];
  origins = [];
  wants = [];
}

-- What the file with these sections comes to.
abbrev pub plain : List WideSectionTree → Result Plain PlainFault
plain file = each_numbered file_fault section_step 0 nothing file
