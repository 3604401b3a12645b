-- One answer to what each imported function comes to.
use Rattle.std.proofs.Common.{◌≡◌, ◌∙◌, ℕ, zero, suc, ◌<◌, List, Option, Some, None, refl, sym, ap, subst, arith, option_and_then, slice_get}
use Rattle.cm_validate_model.specs.Definitions.{FuncDef, lifted, imported}
use Rattle.cm_validate_model.specs.Spaces.{Spaces}
use Rattle.cm_match_model.specs.Origins.{LeadEarlier, Links}
use Rattle.cm_match_model.specs.Imports.{export_in}
use Rattle.cm_match_model.specs.Targets.{AreTargets, FuncAt, Targets, func_for, linked_func, serving_func, target_by, target_of, target_within, targets_of}
use Rattle.cm_match_model.proofs.ListLemmas.{mapped}
use Rattle.cm_lemmas.proofs.Options.{stepped}

-- what serves an import is of an earlier component
pub serving_earlier : (set : List Spaces) (links : Links) (c i : ℕ) (item : Option ℕ) (g : FuncAt) → LeadEarlier links → serving_func set links c i item ≡ Some g → g.component < c
serving_earlier set links c i item g early h =
    let s = stepped (slice_get set c) (λ s. option_and_then (linked_func set s i item) (links c i)) g h in
    let l = stepped (links c i) (linked_func set s.0 i item) g s.2 in
    let f = mapped (option_and_then (func_for s.0 i item) (export_in set l.0.component l.0.export)) (λ f. record { component = l.0.component; func = f }) g l.2 in
    subst (λ (n : ℕ). n < c) (ap (λ (x : FuncAt). x.component) f.2) (early c i l.0 l.1)

same_by : (s t : Targets) (c : ℕ) (f : FuncDef) → ((i : ℕ) (item : Option ℕ) → s c i item ≡ t c i item) → target_by s c f ≡ target_by t c f
same_by s t c (lifted f ty os) same = refl
same_by s t c (imported i item ty) same = same i item

-- targets that agree on earlier components agree on what serves an import
agree : (s t : Targets) (c : ℕ) (o : Option FuncAt) → ((g : FuncAt) → o ≡ Some g → g.component < c) → ((d i : ℕ) (item : Option ℕ) → d < c → s d i item ≡ t d i item)
    → option_and_then (target_of s) o ≡ option_and_then (target_of t) o
agree s t c None early same = refl
agree s t c (Some g) early same = same_by s t g.component g.func (λ i item. same g.component i item (early g refl))

unique_below : (set : List Spaces) (links : Links) (s t : Targets) → LeadEarlier links → AreTargets set links s → AreTargets set links t
    → (n c i : ℕ) (item : Option ℕ) → c < n → s c i item ≡ t c i item
unique_below set links s t early a b zero c i item h = absurd (omega (arith, h))
unique_below set links s t early a b (suc n) c i item h =
    a c i item
    ∙ agree s t c (serving_func set links c i item) (λ g e. serving_earlier set links c i item g early e) (λ d j k l. unique_below set links s t early a b n d j k (omega (arith, h, l)))
    ∙ sym (b c i item)

pub unique : (set : List Spaces) (links : Links) (s t : Targets) → LeadEarlier links → AreTargets set links s → AreTargets set links t → (c i : ℕ) (item : Option ℕ) → s c i item ≡ t c i item
unique set links s t early a b c i item = unique_below set links s t early a b (suc c) c i item (omega arith)

-- more components do not change what a function comes to
enough : (set : List Spaces) (links : Links) → LeadEarlier links → (m n c i : ℕ) (item : Option ℕ) → c < m → c < n → target_within m set links c i item ≡ target_within n set links c i item
enough set links early zero n c i item h k = absurd (omega (arith, h))
enough set links early (suc m) zero c i item h k = absurd (omega (arith, k))
enough set links early (suc m) (suc n) c i item h k =
    agree (target_within m set links) (target_within n set links) c (serving_func set links c i item) (λ g e. serving_earlier set links c i item g early e)
    (λ d j it l. enough set links early m n d j it (omega (arith, h, l)) (omega (arith, k, l)))

pub exists : (set : List Spaces) (links : Links) → LeadEarlier links → AreTargets set links (targets_of set links)
exists set links early c i item =
    agree (target_within c set links) (targets_of set links) c (serving_func set links c i item) (λ g e. serving_earlier set links c i item g early e)
    (λ d j it l. enough set links early c (suc d) d j it l (omega arith))
