-- What the functions of components pass, at their places.
use Rattle.std.proofs.Common.{◌≡◌, ◌∙◌, ◌+◌, ◌<◌, ℕ, zero, suc, List, [], ◌∷◌, length, map, get_or, Option, Some, None, refl, ap, sym, subst, arith, Vec, Global}
use Rattle.std.specs.Prelude.{◌&&◌}
use Rattle.std.specs.Option.{option_map}
use Rattle.std.specs.declared.sync.Arc.{Arc}
use Rattle.std.proofs.lemmas.List.{length-map}
use Rattle.cm_types.specs.Spellable.{are_spellable, is_spellable, is_spellable_payload}
use Rattle.cm_types.specs.Types.{Ty, Fields, FuncTy, field, no_fields}
use Rattle.cm_types_arena.specs.Replaced.{Standing, replaced, replaced_fields, replaced_func}
use Rattle.cm_binary_model.specs.declared.canons.CanonOption.{CanonOption}
use Rattle.cm_validate_spaces.specs.Checked.{funcs_in}
use Rattle.cm_validate_spaces.specs.declared.checked.Checked.{Checked}
use Rattle.cm_match_model.specs.Imports.{LinkSet}
use Rattle.cm_match_model.specs.Serving.{standing}
use Rattle.cm_match_serving.specs.Sets.{funcs_at}
use Rattle.cm_match_model.specs.Targets.{Target}
use Rattle.cm_machine_parts.specs.Links.{IsLinkOf, side_in}
use Rattle.cm_machine_links.specs.Planning.{first_in, link_to, post_return_in, side_of}
use Rattle.cm_machine_links.specs.Standing.{AreCallTypes, AreTypesOf, IsCallTypes, IsSpelled}
use Rattle.cm_machine_parts.specs.declared.link.Link.{Link}
use Rattle.cm_machine_parts.specs.declared.link.CallTypes.{CallTypes}

-- ---- places

pub as_many_rows : (set : LinkSet) (c : ℕ) (cs : List Checked) (rows : List (List (Arc CallTypes Global))) → AreTypesOf set c cs rows → length rows ≡ length cs
as_many_rows set c [] [] h = refl
as_many_rows set c [] (r ∷ rows) h = absurd h
as_many_rows set c (x ∷ cs) [] h = absurd h
as_many_rows set c (x ∷ cs) (r ∷ rows) h = ap suc (as_many_rows set (c + 1) cs rows h.1)

row_from : (set : LinkSet) (c : ℕ) (cs : List Checked) (rows : List (List (Arc CallTypes Global))) (k m : ℕ) → m ≡ c + k → AreTypesOf set c cs rows → AreCallTypes (standing set m) (funcs_at cs k) (get_or rows k [])
row_from set c [] [] k m e h = tt
row_from set c [] (r ∷ rows) k m e h = absurd h
row_from set c (x ∷ cs) [] k m e h = absurd h
row_from set c (x ∷ cs) (r ∷ rows) zero m e h = let same : c ≡ m = omega (arith, e) in subst (λ n. AreCallTypes (standing set n) (funcs_in x) r) same h.0
row_from set c (x ∷ cs) (r ∷ rows) (suc k) m e h = row_from set (c + 1) cs rows k m (omega (arith, e)) h.1

pub row_at : (set : LinkSet) (cs : List Checked) (rows : List (List (Arc CallTypes Global))) (k : ℕ) → AreTypesOf set 0 cs rows → AreCallTypes (standing set k) (funcs_at cs k) (get_or rows k [])
row_at set cs rows k h = row_from set 0 cs rows k k (omega arith) h

-- a component whose functions have types is one of so many
pub is_component : (cs : List Checked) (k place : ℕ) → place < length (funcs_at cs k) → k < length cs
is_component [] k place h = absurd (omega (arith, h))
is_component (x ∷ cs) zero place h = omega arith
is_component (x ∷ cs) (suc k) place h = omega (arith, is_component cs k place h)

pub as_many_types : (s : Standing) (fs : List FuncTy) (ts : List (Arc CallTypes Global)) → AreCallTypes s fs ts → length ts ≡ length fs
as_many_types s [] [] h = refl
as_many_types s [] (t ∷ ts) h = absurd h
as_many_types s (f ∷ fs) [] h = absurd h
as_many_types s (f ∷ fs) (t ∷ ts) h = ap suc (as_many_types s fs ts h.2)

pub types_at : (s : Standing) (fs : List FuncTy) (ts : List (Arc CallTypes Global)) (i : ℕ) (f : FuncTy) (t : Arc CallTypes Global) → AreCallTypes s fs ts → i < length fs
    → IsCallTypes s (get_or fs i f) (get_or ts i t).value × IsSpelled (get_or fs i f)
types_at s [] ts i f t h lt = absurd (omega (arith, lt))
types_at s (g ∷ fs) [] i f t h lt = absurd h
types_at s (g ∷ fs) (u ∷ ts) zero f t h lt = (h.0, h.1)
types_at s (g ∷ fs) (u ∷ ts) (suc i) f t h lt = types_at s fs ts i f t h.2 (omega (arith, lt))

-- a list of lists as it stands in memory
abbrev Rows : Type 0
Rows = List (Vec (Arc CallTypes Global) Global)

mapped_row : (types : Rows) (k : ℕ) (v : Vec (Arc CallTypes Global) Global) → k < length types → v ≡ get_or types k v → get_or (map (λ r. r.items) types) k [] ≡ v.items
mapped_row [] k v lt is = absurd (omega (arith, lt))
mapped_row (t ∷ types) zero v lt is = ap (λ (r : Vec (Arc CallTypes Global) Global). r.items) (sym is)
mapped_row (t ∷ types) (suc k) v lt is = mapped_row types k v (omega (arith, lt)) is

pub rows_there : (set : LinkSet) (cs : List Checked) (types : Rows) (k place : ℕ) → AreTypesOf set 0 cs (map (λ r. r.items) types) → place < length (funcs_at cs k) → k < length types
rows_there set cs types k place known there =
    omega (arith, as_many_rows set 0 cs (map (λ r. r.items) types) known, length-map types (λ (r : Vec (Arc CallTypes Global) Global). r.items), is_component cs k place there)

pub row_of : (set : LinkSet) (cs : List Checked) (types : Rows) (k place : ℕ) (v : Vec (Arc CallTypes Global) Global) → AreTypesOf set 0 cs (map (λ r. r.items) types) → place < length (funcs_at cs k)
    → v ≡ get_or types k v → AreCallTypes (standing set k) (funcs_at cs k) v.items
row_of set cs types k place v known there is =
    subst (AreCallTypes (standing set k) (funcs_at cs k)) (mapped_row types k v (rows_there set cs types k place known there) is) (row_at set cs (map (λ r. r.items) types) k known)

pub place_there : (s : Standing) (fs : List FuncTy) (ts : List (Arc CallTypes Global)) (i : ℕ) → AreCallTypes s fs ts → i < length fs → i < length ts
place_there s fs ts i h lt = omega (arith, as_many_types s fs ts h, lt)

-- ---- spelled

fields_spelled : ((s : Standing) (t : Ty) → is_spellable (replaced s t) ≡ is_spellable t) → (s : Standing) (fs : Fields) → are_spellable (replaced_fields s fs) ≡ are_spellable fs
fields_spelled same s no_fields = refl
fields_spelled same s (field l t fs) = ap (λ b. b && are_spellable (replaced_fields s fs)) (same s t) ∙ ap (λ b. is_spellable t && b) (fields_spelled same s fs)

payload_spelled : ((s : Standing) (t : Ty) → is_spellable (replaced s t) ≡ is_spellable t) → (s : Standing) (o : Option Ty) → is_spellable_payload (option_map (replaced s) o) ≡ is_spellable_payload o
payload_spelled same s None = refl
payload_spelled same s (Some t) = same s t

spelled_still : ((s : Standing) (t : Ty) → is_spellable (replaced s t) ≡ is_spellable t) → (s : Standing) (f : FuncTy) → IsSpelled f → IsSpelled (replaced_func s f)
spelled_still same s f h = (fields_spelled same s f.params ∙ h.0, payload_spelled same s f.result ∙ h.1)

-- ---- a link

-- a link of the code stands for that of a lower to this lift
pub link_is : (set : LinkSet) (os : List CanonOption) (t : Target) (k : Link)
    → ((s : Standing) (t : Ty) → is_spellable (replaced s t) ≡ is_spellable t)
    → k.instance ≡ t.component → k.func ≡ t.core_func → k.post_return ≡ first_in post_return_in t.options → side_in k.caller ≡ side_of os → side_in k.callee ≡ side_of t.options
    → IsCallTypes (standing set t.component) t.ty k.types.value → IsSpelled t.ty
    → IsLinkOf (link_to set os t) k × IsSpelled (link_to set os t).type
link_is set os t k same i f p a b types spelled = (
  record {
    instance_is = i;
    func_is = f;
    post_return_is = p;
    caller_is = a;
    callee_is = b;
    params_are = types.params_are;
    results_are = types.results_are;
    pointer_is = types.pointer_is;
  },
  spelled_still same (standing set t.component) t.ty spelled,
)
