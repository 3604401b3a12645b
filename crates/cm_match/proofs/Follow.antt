-- From an import to what serves it.
use Rattle.std.proofs.Common.{◌≡◌, ℕ, List, Option, Some, None, slice_get, refl, sym, ap, ◌∙◌, Bor}
use Rattle.std.proofs.lemmas.Option.{slice_get-map}
use Rattle.std.specs.Option.{option_map, option_and_then}
use Rattle.cm_validate_model.specs.Definitions.{ExportDef, exported_func, exported_instance, FuncDef}
use Rattle.cm_validate_model.specs.Definitions as definitions
use Rattle.cm_validate_model.specs.Spaces.{Spaces, spaces_of}
use Rattle.cm_match_serving.specs.cm_validate_spaces.Checked as checked
use Rattle.cm_match_serving.specs.cm_validate_spaces.Exported.{exported_func_of, func_under}
use Rattle.cm_match_serving.specs.cm_validate_spaces.declared.checked.Checked.{Checked}
use Rattle.cm_match_model.specs.Origins.{Links, item_name}
use Rattle.cm_match_model.specs.declared.component.Link.{Link}
use Rattle.cm_match_model.specs.Imports.{LinkSet, export_in, links_of}
use Rattle.cm_match_model.specs.Targets.{func_for, linked_func, serving_func}
use Rattle.cm_match_serving.specs.Sets.{funcs_at, sections_of, spaces_of_all}

-- ---- a component of the set

pub space_at : (cs : List Checked) (n : ℕ) → slice_get (spaces_of_all cs) n ≡ option_map checked.spaces_in (slice_get cs n)
space_at cs n = slice_get-map spaces_of (sections_of cs) n ∙ ap (option_map spaces_of) (slice_get-map checked.sections_in cs n) ∙ twice (slice_get cs n)
  where
    twice : (o : Option Checked) → option_map spaces_of (option_map checked.sections_in o) ≡ option_map checked.spaces_in o
    twice None = refl
    twice (Some c) = refl

export_none : (cs : List Checked) (n export : ℕ) → slice_get cs n ≡ None → export_in (spaces_of_all cs) n export ≡ None
export_none cs n export e = rw (space_at cs n, e) refl

-- ---- what an export is, or has under a name

under_def : (name : Option (List ℕ)) (o : Option definitions.NamedExport) → option_and_then (λ e. func_under name e.def) o ≡ option_and_then (func_under name) (option_map (λ e. e.def) o)
under_def name None = refl
under_def name (Some e) = refl

pub exported_by : (cs : List Checked) (n export : ℕ) (name : Option (List ℕ)) (p : Checked) → slice_get cs n ≡ Some p → exported_func_of (checked.spaces_in p) export name ≡ option_and_then (func_under name) (export_in (spaces_of_all cs) n export)
exported_by cs n export name p e = rw (space_at cs n, e) (under_def name (slice_get (checked.spaces_in p).exports export))

pub exported_by_none : (cs : List Checked) (n export : ℕ) (name : Option (List ℕ)) → slice_get cs n ≡ None → option_and_then (func_under name) (export_in (spaces_of_all cs) n export) ≡ None
exported_by_none cs n export name e = rw (space_at cs n, e) refl

pub funcs_of_it : (cs : List Checked) (n : ℕ) (p : Checked) → slice_get cs n ≡ Some p → funcs_at cs n ≡ checked.funcs_in p
funcs_of_it cs n p e = rw e refl

-- ---- what serves

pub alone : (s : Spaces) (import : ℕ) (o : Option ExportDef) → option_and_then (func_under None) o ≡ option_and_then (func_for s import None) o
alone s import None = refl
alone s import (Some (exported_func f)) = refl
alone s import (Some (exported_instance ms)) = refl

pub under : (s : Spaces) (import item : ℕ) (name : List ℕ) (o : Option ExportDef) → item_name s import item ≡ Some name → option_and_then (func_under (Some name)) o ≡ option_and_then (func_for s import (Some item)) o
under s import item name None e = refl
under s import item name (Some (exported_func f)) e = rw e refl
under s import item name (Some (exported_instance ms)) e = rw e refl

pub nothing_under : (s : Spaces) (import item : ℕ) (o : Option ExportDef) → item_name s import item ≡ None → option_and_then (func_for s import (Some item)) o ≡ None
nothing_under s import item None e = refl
nothing_under s import item (Some x) e = rw e refl

at_least : (set : LinkSet) (c i : ℕ) (l : Link) (o : Option Spaces) → slice_get set.spaces c ≡ o → links_of set c i ≡ Some l → (s : Spaces) × (slice_get set.spaces c ≡ Some s)
at_least set c i l (Some s) e f = (s, e)
at_least set c i l None e f = let g = rw e at f in absurd cc

pub space_of : (set : LinkSet) (c i : ℕ) (l : Link) → links_of set c i ≡ Some l → (s : Spaces) × (slice_get set.spaces c ≡ Some s)
space_of set c i l f = at_least set c i l (slice_get set.spaces c) refl f

pub serves : (set : LinkSet) (c i : ℕ) (item : Option ℕ) (l : Link) (s : Spaces) → slice_get set.spaces c ≡ Some s → links_of set c i ≡ Some l → serving_func set.spaces (links_of set) c i item ≡ linked_func set.spaces s i item l
serves set c i item l s e f = ap (option_and_then (λ t. option_and_then (linked_func set.spaces t i item) (links_of set c i))) e ∙ ap (option_and_then (linked_func set.spaces s i item)) f

nothing_at : (set : List Spaces) (links : Links) (c i : ℕ) (item : Option ℕ) (o : Option Spaces) → slice_get set c ≡ o → links c i ≡ None → serving_func set links c i item ≡ None
nothing_at set links c i item None e f = rw e refl
nothing_at set links c i item (Some s) e f = rw (e, f) refl

pub nothing_serves : (set : List Spaces) (links : Links) (c i : ℕ) (item : Option ℕ) → links c i ≡ None → serving_func set links c i item ≡ None
nothing_serves set links c i item f = nothing_at set links c i item (slice_get set c) refl f

-- a component that was got
pub provider_at : (cs at : List Checked) (n : ℕ) (p : Bor Checked) → at ≡ cs → option_map (λ x. x.now) (Some p) ≡ slice_get at n → slice_get cs n ≡ Some p.now
provider_at cs at n p same e = sym (e ∙ ap (λ l. slice_get l n) same)

pub none_at : (cs at : List Checked) (n : ℕ) → at ≡ cs → None ≡ slice_get at n → slice_get cs n ≡ None
none_at cs at n same e = sym (e ∙ ap (λ l. slice_get l n) same)
