-- What core functions of the code stand for, one by one.
use Rattle.std.proofs.Common.{◌≡◌, ◌∙◌, ◌+◌, ◌<◌, ℕ, List, [], ◌∷◌, ◌++◌, length, map, take, get_or, true, Option, Some, None, is_some, refl, ap, sym, subst, arith, slice_get, option_and_then, Vec, Global}
use Rattle.std.specs.List.{AllByRecursion}
use Rattle.std.specs.Option.{option_map}
use Rattle.std.proofs.lemmas.Option.{slice_get_read}
use Rattle.std.specs.declared.sync.Arc.{Arc}
use Rattle.cm_types.specs.declared.resource.ResourceId.{ResourceId}
use Rattle.cm_types.specs.Types.{FuncTy}
use Rattle.cm_binary_model.specs.declared.canons.CanonOption.{CanonOption}
use Rattle.cm_validate_model.specs.Definitions.{CoreExport, CoreFuncDef, guest, lowered, making, dropping, reading}
use Rattle.cm_validate_model.specs.Spaces.{Spaces}
use Rattle.cm_validate_model.specs.Valid.{IsValid}
use Rattle.cm_validate_spaces.specs.Checked.{sections_in, spaces_in, funcs_in}
use Rattle.cm_validate_spaces.specs.declared.checked.Checked.{Checked}
use Rattle.cm_match_model.specs.Imports.{LinkSet, Sees, links_of, seen_by}
use Rattle.cm_match_model.specs.Serving.{standing}
use Rattle.cm_match_model.specs.Targets.{Target, targets_of}
use Rattle.cm_match_serving.specs.Sets.{spaces_of_all}
use Rattle.cm_machine_model.specs.Plan as plan
use Rattle.cm_machine_links.specs.Planned.{IsCoreFuncOf}
use Rattle.cm_machine_parts.specs.Links.{IsLinkOf}
use Rattle.cm_machine_links.specs.Planning.{core_func_of, destructor_in, destructor_of, link_to, origin_in}
use Rattle.cm_machine_links.specs.Standing.{AllStand, AreCallTypes, AreTypesOf, IsCoreSpelled, IsSpelled, RowsStand, Stands}
use Rattle.cm_machine_links.specs.declared.core_funcs.CoreFunc.{CoreFunc}
use Rattle.cm_machine_links.specs.declared.core_funcs.CoreFunc.TheVariants as core_func
use Rattle.cm_machine_parts.specs.declared.link.Link.{Link}
use Rattle.cm_machine_parts.specs.declared.link.CallTypes.{CallTypes}
use Rattle.cm_lemmas.proofs.Lists.{long_enough, take_one}
use Rattle.cm_match_serving.proofs.Rows.{set_at}
use Rattle.cm_lemmas.proofs.Options.{some_in}

-- ---- one core function

abbrev StandsFor : plan.CoreFunc → CoreFunc → Type 0
StandsFor p f = IsCoreFuncOf p f × IsCoreSpelled p

stands_by : (set : LinkSet) (c : ℕ) (d : CoreFuncDef) (p : plan.CoreFunc) (f : CoreFunc) → core_func_of set c d ≡ Some p → StandsFor p f → Stands set c d f
stands_by set c d p f is h q at = subst (λ (x : plan.CoreFunc). StandsFor x f) (some_in (sym is ∙ at)) h

pub stands_guest : (set : LinkSet) (c : ℕ) (e : CoreExport) → Stands set c (guest e) core_func.Guest
stands_guest set c e = stands_by set c (guest e) plan.guest core_func.Guest refl (tt, tt)

pub stands_lowered : (set : LinkSet) (c import : ℕ) (item : Option ℕ) (ty : FuncTy) (os : List CanonOption) (t : Target) (k : Link)
    → targets_of set.spaces (links_of set) c import item ≡ Some t → IsLinkOf (link_to set os t) k × IsSpelled (link_to set os t).type → Stands set c (lowered import item ty os) (core_func.Lowered k)
stands_lowered set c import item ty os t k to h =
    stands_by set c (lowered import item ty os) (plan.lowered (link_to set os t)) (core_func.Lowered k) (ap (option_map (λ t. plan.lowered (link_to set os t))) to) h

pub stands_makes : (set : LinkSet) (c n : ℕ) (r : ResourceId) → origin_in set c n ≡ Some r → Stands set c (making n) (core_func.Makes r)
stands_makes set c n r is = stands_by set c (making n) (plan.makes r) (core_func.Makes r) (ap (option_map plan.makes) is) (refl, tt)

pub stands_drops : (set : LinkSet) (c n : ℕ) (r : ResourceId) (d : Option ℕ) → origin_in set c n ≡ Some r → d ≡ destructor_of set r → Stands set c (dropping n) (core_func.Drops r d)
stands_drops set c n r d is by =
    stands_by set c (dropping n) (plan.drops r (destructor_of set r)) (core_func.Drops r d) (ap (option_map (λ r. plan.drops r (destructor_of set r))) is) ((refl, by), tt)

pub stands_represents : (set : LinkSet) (c n : ℕ) (r : ResourceId) → origin_in set c n ≡ Some r → Stands set c (reading n) (core_func.Represents r)
stands_represents set c n r is = stands_by set c (reading n) (plan.represents r) (core_func.Represents r) (ap (option_map plan.represents) is) (refl, tt)

-- what is behind an option is there
pub there_before : {A B : Type 0} (f : A → B) (o : Option A) → is_some (option_map f o) ≡ true → is_some o ≡ true
there_before f None h = cc h
there_before f (Some x) h = refl

-- ---- destructors

pub no_destructor : (cs : List Checked) (sees : Sees) (r : ResourceId) → slice_get cs r.component ≡ None → destructor_of (seen_by sees (spaces_of_all cs)) r ≡ None
no_destructor cs sees r none =
    ap (λ (o : Option Spaces). option_and_then destructor_in (option_and_then (λ s. slice_get s.resources r.number) o)) (set_at cs r.component ∙ ap (option_map spaces_in) none)

pub destructor_by : (cs : List Checked) (sees : Sees) (r : ResourceId) (x : Checked) → slice_get cs r.component ≡ Some x → destructor_of (seen_by sees (spaces_of_all cs)) r ≡ option_and_then destructor_in (slice_get (spaces_in x).resources r.number)
destructor_by cs sees r x is =
    ap (λ (o : Option Spaces). option_and_then destructor_in (option_and_then (λ s. slice_get s.resources r.number) o)) (set_at cs r.component ∙ ap (option_map spaces_in) is)

-- ---- lists

-- ---- components

pub component_at : (cs ds : List Checked) (i : ℕ) (x : Checked) → cs ≡ ds → i < length cs → x ≡ get_or cs i x → slice_get ds i ≡ Some x
component_at cs ds i x same lt is = subst (λ (xs : List Checked). slice_get xs i ≡ Some x) same (slice_get_read cs (length cs) i x refl lt is)

pub mapped_more : (rows : List (Vec (Arc CallTypes Global) Global)) (row : Vec (Arc CallTypes Global) Global) → map (λ v. v.items) (rows ++ row ∷ []) ≡ map (λ v. v.items) rows ++ row.items ∷ []
mapped_more [] row = refl
mapped_more (r ∷ rows) row = ap (λ l. r.items ∷ l) (mapped_more rows row)

pub rows_more : (rows : List (Vec CoreFunc Global)) (row : Vec CoreFunc Global) → map (λ v. v.items) (rows ++ row ∷ []) ≡ map (λ v. v.items) rows ++ row.items ∷ []
rows_more [] row = refl
rows_more (r ∷ rows) row = ap (λ l. r.items ∷ l) (rows_more rows row)

-- ---- one more

pub one_more_stands : (set : LinkSet) (c : ℕ) (ds : List CoreFuncDef) (fs : List CoreFunc) (i : ℕ) (d : CoreFuncDef) (f : CoreFunc) → slice_get ds i ≡ Some d
    → Stands set c d f → AllStand set c (take i ds) fs → AllStand set c (take (i + 1) ds) (fs ++ f ∷ [])
one_more_stands set c ds fs i d f at stands h = subst (λ (l : List CoreFuncDef). AllStand set c l (fs ++ f ∷ [])) (sym (take_one ds i d at)) (joined (take i ds) fs h)
  where
    joined : (es : List CoreFuncDef) (gs : List CoreFunc) → AllStand set c es gs → AllStand set c (es ++ d ∷ []) (gs ++ f ∷ [])
    joined [] [] k = (stands, tt)
    joined [] (g ∷ gs) k = absurd k
    joined (e ∷ es) [] k = absurd k
    joined (e ∷ es) (g ∷ gs) k = (k.0, joined es gs k.1)

pub one_more_row : (set : LinkSet) (ss : List Spaces) (rows : List (List CoreFunc)) (i : ℕ) (s : Spaces) (row : List CoreFunc) → slice_get ss i ≡ Some s
    → AllStand set i s.core_funcs row → RowsStand set 0 (take i ss) rows → RowsStand set 0 (take (i + 1) ss) (rows ++ row ∷ [])
one_more_row set ss rows i s row at stands h =
    subst (λ (l : List Spaces). RowsStand set 0 l (rows ++ row ∷ [])) (sym (take_one ss i s at)) (joined 0 (take i ss) rows (omega (arith, long_enough ss i s at)) h)
  where
    joined : (n : ℕ) (ts : List Spaces) (rs : List (List CoreFunc)) → n + length ts ≡ i → RowsStand set n ts rs → RowsStand set n (ts ++ s ∷ []) (rs ++ row ∷ [])
    joined n [] [] e k = let same : i ≡ n = omega (arith, e) in (subst (λ m. AllStand set m s.core_funcs row) same stands, tt)
    joined n [] (r ∷ rs) e k = absurd k
    joined n (t ∷ ts) [] e k = absurd k
    joined n (t ∷ ts) (r ∷ rs) e k = (k.0, joined (n + 1) ts rs (omega (arith, e)) k.1)

pub one_more_types : (set : LinkSet) (cs : List Checked) (rows : List (List (Arc CallTypes Global))) (i : ℕ) (x : Checked) (row : List (Arc CallTypes Global)) → slice_get cs i ≡ Some x
    → AreCallTypes (standing set i) (funcs_in x) row → AreTypesOf set 0 (take i cs) rows → AreTypesOf set 0 (take (i + 1) cs) (rows ++ row ∷ [])
one_more_types set cs rows i x row at types h =
    subst (λ (l : List Checked). AreTypesOf set 0 l (rows ++ row ∷ [])) (sym (take_one cs i x at)) (joined 0 (take i cs) rows (omega (arith, long_enough cs i x at)) h)
  where
    joined : (n : ℕ) (ts : List Checked) (rs : List (List (Arc CallTypes Global))) → n + length ts ≡ i → AreTypesOf set n ts rs → AreTypesOf set n (ts ++ x ∷ []) (rs ++ row ∷ [])
    joined n [] [] e k = let same : i ≡ n = omega (arith, e) in (subst (λ m. AreCallTypes (standing set m) (funcs_in x) row) same types, tt)
    joined n [] (r ∷ rs) e k = absurd k
    joined n (t ∷ ts) [] e k = absurd k
    joined n (t ∷ ts) (r ∷ rs) e k = (k.0, joined (n + 1) ts rs (omega (arith, e)) k.1)

-- ---- valid

pub one_more_valid : (cs : List Checked) (i : ℕ) (x : Checked) → slice_get cs i ≡ Some x → IsValid (sections_in x) → AllByRecursion IsValid (map sections_in (take i cs)) → AllByRecursion IsValid (map sections_in (take (i + 1) cs))
one_more_valid cs i x at valid h = subst (λ (l : List Checked). AllByRecursion IsValid (map sections_in l)) (sym (take_one cs i x at)) (joined (take i cs) h)
  where
    joined : (ts : List Checked) → AllByRecursion IsValid (map sections_in ts) → AllByRecursion IsValid (map sections_in (ts ++ x ∷ []))
    joined [] k = (valid, tt)
    joined (t ∷ ts) k = (k.0, joined ts k.1)
