-- What an engine needs to instantiate the core modules of a component, in the order of its
-- definitions (Binary.md, "Core Instance Definitions", "Alias Definitions" and "Canonical
-- Definitions"; the numbers are this project's own choice).
use Rattle.std.specs.Prelude.{◌≡◌, ◌⊎◌, ⊤, ℕ, List, [], ◌∷◌, length, map}
use Rattle.std.specs.List.{flat_map}
use Rattle.cm_binary_model.specs.Trees.{AliasTree, ArgTree, CanonTree, CoreExportTree}
use Rattle.cm_binary_model.specs.Trees.{CoreInstanceTree, SectionTree, aliases, canons}
use Rattle.cm_binary_model.specs.Trees.{core_exports, core_instance_export, core_instances}
use Rattle.cm_binary_model.specs.Trees.{core_module, instantiate, lift, lower, resource_drop}
use Rattle.cm_binary_model.specs.Trees.{resource_new, resource_rep}
use Rattle.cm_binary_model.specs.declared.canons.CanonOption.{CanonOption}
use Rattle.cm_binary_model.specs.declared.canons.CanonOption.TheVariants as option
use Rattle.cm_binary_model.specs.declared.instances.CoreSort.{CoreSort}
use Rattle.cm_binary_model.specs.declared.instances.CoreSort.TheVariants as core_sort
use Rattle.cm_shims.specs.Files.{IsFileFault}
use Rattle.huxarte_c_calls.specs.Texts.{written}
use Rattle.huxarte_c_calls.specs.Verdicts.{fine}
use Rattle.huxarte_c_calls.specs.declared.verdicts.HuxVerdict.{HuxVerdict}
use Rattle.huxarte_c_components.specs.Faults.{of_component}
use Rattle.huxarte_c_components.specs.Sound.{StandsFor}
use Rattle.huxarte_c_components.specs.declared.fault.ComponentFault.{ComponentFault}
use Rattle.huxarte_c_components.specs.declared.fault.ComponentFault.TheVariants as fault
use Rattle.huxarte_c_components.specs.declared.plan_part.HuxPlan.{HuxPlan}
use Rattle.huxarte_c_components.specs.declared.plan_part.HuxPlanKind.{HuxPlanKind}
use Rattle.huxarte_c_components.specs.declared.plan_part.HuxPlanKind.TheVariants as kind
use Rattle.huxarte_c_components.specs.declared.plan_part.HuxPlanPart.{HuxPlanPart}
use Rattle.huxarte_c_components.specs.declared.plan_part.Part.{Part}

-- a part: what it is, of what it is made, how many of the next parts are words of it, and its bytes
pub record PartTree : Type 0 where
  pub kind : ℕ
  pub index : ℕ
  pub sort : ℕ
  pub count : ℕ
  pub bytes : List ℕ

-- the number of a kind
abbrev pub kind_number : HuxPlanKind → ℕ
kind_number kind.Module = 1
kind_number kind.Instance = 2
kind_number kind.Given = 3
kind_number kind.Inline = 4
kind_number kind.Item = 5
kind_number kind.Alias = 6
kind_number kind.Lower = 7
kind_number kind.New = 8
kind_number kind.Drop = 9
kind_number kind.Represent = 10
kind_number kind.Lift = 11
kind_number kind.CanonOption = 12

-- the number of a sort
abbrev pub sort_number : CoreSort → ℕ
sort_number core_sort.Func = 0
sort_number core_sort.Table = 1
sort_number core_sort.Memory = 2
sort_number core_sort.Global = 3

abbrev pub plan_part : HuxPlanKind → ℕ → ℕ → ℕ → List ℕ → PartTree
plan_part k index sort count bytes = record {
  kind = kind_number k;
  index = index;
  sort = sort;
  count = count;
  bytes = bytes;
}

-- a part as the code has it
abbrev pub part_tree : Part → PartTree
part_tree p = plan_part p.kind p.index p.sort p.count p.bytes.now

-- ---- the parts

-- a core instance that a core module is given
abbrev pub given_part : ArgTree → PartTree
given_part a = plan_part kind.Given a.instance 0 0 a.name

-- a core definition under a name
abbrev pub item_part : CoreExportTree → PartTree
item_part e = plan_part kind.Item e.index (sort_number e.sort) 0 e.name

-- a core instance, and behind it what it has
abbrev pub instance_parts : CoreInstanceTree → List PartTree
instance_parts (instantiate module_ args) =
    plan_part kind.Instance module_ 0 (length args) [] ∷ map given_part args
instance_parts (core_exports items) =
    plan_part kind.Inline 0 0 (length items) [] ∷ map item_part items

-- an alias of what a core instance exports
abbrev pub alias_parts : AliasTree → List PartTree
alias_parts (core_instance_export sort instance name) =
    plan_part kind.Alias instance (sort_number sort) 0 name ∷ []
alias_parts _ = []

-- an option of a canonical definition, by its code (Binary.md, `canonopt`)
abbrev pub option_part : CanonOption → PartTree
option_part option.Utf8 = plan_part kind.CanonOption 0 0 0 []
option_part option.Utf16 = plan_part kind.CanonOption 0 1 0 []
option_part option.Latin1Utf16 = plan_part kind.CanonOption 0 2 0 []
option_part (option.Memory memory) = plan_part kind.CanonOption memory 3 0 []
option_part (option.Realloc func) = plan_part kind.CanonOption func 4 0 []
option_part (option.PostReturn func) = plan_part kind.CanonOption func 5 0 []

-- a canonical definition, and behind it its options
abbrev pub canon_parts : CanonTree → List PartTree
canon_parts (lift core_func options ty) =
    plan_part kind.Lift core_func 0 (length options) [] ∷ map option_part options
canon_parts (lower func options) =
    plan_part kind.Lower func 0 (length options) [] ∷ map option_part options
canon_parts (resource_new resource) = plan_part kind.New resource 0 0 [] ∷ []
canon_parts (resource_drop resource) = plan_part kind.Drop resource 0 0 [] ∷ []
canon_parts (resource_rep resource) = plan_part kind.Represent resource 0 0 [] ∷ []

-- a section
abbrev pub section_parts : SectionTree → List PartTree
section_parts (core_module bytes) = plan_part kind.Module 0 0 0 bytes ∷ []
section_parts (core_instances is) = flat_map instance_parts is
section_parts (aliases as_) = flat_map alias_parts as_
section_parts (canons cs) = flat_map canon_parts cs
section_parts _ = []

-- the plan of a component
abbrev pub plan_of : List SectionTree → List PartTree
plan_of sections = flat_map section_parts sections

-- ---- in numbers

abbrev pub row_of : PartTree → HuxPlanPart
row_of p = record {
  length = length p.bytes;
  count = p.count;
  kind = p.kind;
  index = p.index;
  sort = p.sort;
}

-- the bytes of all parts, one behind the other
abbrev pub texts_of : List PartTree → List ℕ
texts_of parts = flat_map (λ p. p.bytes) parts

-- a plan is told: how long it is, and in buffers as much as there is room for
pub record IsTold (sections : List SectionTree) (plan : HuxPlan) (rows after : List HuxPlanPart)
    (texts texts_after : List ℕ) : Type 0 where
  pub parts : plan.parts ≡ length (plan_of sections)
  pub bytes : plan.bytes ≡ length (texts_of (plan_of sections))
  pub rows_are : after ≡ written rows (map row_of (plan_of sections))
  pub texts_are : texts_after ≡ written texts (texts_of (plan_of sections))

-- that of the component of a file
abbrev pub IsToldOf : List ℕ → HuxPlan → List HuxPlanPart → List HuxPlanPart → List ℕ → List ℕ
    → Type 0
IsToldOf file plan rows after texts texts_after = (sections : List SectionTree)
    × StandsFor file sections × IsTold sections plan rows after texts texts_after

-- why there is none
abbrev pub IsNoPlan : List ℕ → ComponentFault → Type 0
IsNoPlan file (fault.Files f) = IsFileFault (file ∷ []) f
IsNoPlan file fault.Memory = ⊤
IsNoPlan file _ = ⊥

-- a verdict, and what is told before and after: a plan, or unchanged by a refusal
abbrev pub IsPlanVerdict : List ℕ → HuxVerdict → HuxPlan → HuxPlan → List HuxPlanPart
    → List HuxPlanPart → List ℕ → List ℕ → Type 0
IsPlanVerdict file v before plan rows after texts texts_after =
    (IsToldOf file plan rows after texts texts_after × (v ≡ fine))
    ⊎ ((r : ComponentFault) × IsNoPlan file r × (v ≡ of_component r) × (plan ≡ before)
    × (after ≡ rows) × (texts_after ≡ texts))
