-- The imports of a set, one after another.
use Rattle.std.proofs.Common.{◌≡◌, ◌⊎◌, inl, inr, ℕ, zero, suc, ◌+◌, ◌<◌, ◌≤◌, List, [], ◌∷◌, ◌++◌, length, take, drop, Option, Some, None, slice_get, refl, sym, ap, ◌∙◌, arith, subst, append_assoc, append-nil}
use Rattle.std.specs.List.{AllByRecursion}
use Rattle.std.specs.Option.{option_map}
use Rattle.std.specs.Prelude.{option_to_list}
use Rattle.cm_types.specs.Signatures.{NamedExtern}
use Rattle.cm_validate_model.specs.Spaces.{Spaces}
use Rattle.cm_match_model.specs.declared.fault.LinkFault.{LinkFault}
use Rattle.cm_match_model.specs.declared.fault.LinkReason.{LinkReason}
use Rattle.cm_match_model.specs.declared.fault.LinkReason.TheVariants as reason
use Rattle.cm_match_model.specs.declared.plan.PlanLine.{PlanLine}
use Rattle.cm_match_model.specs.Imports.{ImportAt, LinkSet, Sees, all_imports_from, import_at, import_in, imports_from, imports_of, link_of, seen_by}
use Rattle.cm_match_model.specs.Links.{IsNotServed, IsServed, lines_of, plan_line}
use Rattle.cm_match.specs.Before.{AreServedBefore, imports_at, imports_before}
use Rattle.std.specs.Bool.{⊤}
use Rattle.cm_types.specs.Signatures.{ExternTy, ItemTy}
use Rattle.cm_types.specs.Signatures as extern
use Rattle.cm_match_model.specs.declared.plan.TheConstants.{MAX_COMPONENTS}
use Rattle.cm_validate_model.specs.Definitions.{ExportDef, exported_func, exported_instance}
use Rattle.cm_match_serving.specs.cm_validate_spaces.Checked as checked
use Rattle.cm_match_serving.specs.cm_validate_spaces.declared.checked.Checked.{Checked}
use Rattle.cm_match_model.specs.Links.{CanBeLinked, IsLinkFault, plan_of}
use Rattle.cm_match_model.specs.Serving.{IsExternUnserved, IsUnserved, item_under}
use Rattle.cm_match_serving.specs.Sets.{spaces_of_all}
use Rattle.cm_match.specs.Walks.{HasServed, IsFirstOf, IsWalkFault, Serves, Stops}
use Rattle.cm_match.proofs.Follow.{space_at}
use Rattle.cm_match_serving.proofs.Judging.{set_length}
use Rattle.cm_lemmas.proofs.Options.{some_is}

-- ---- lists

taken_all : {A : Type 0} (xs : List A) → take (length xs) xs ≡ xs
taken_all [] = refl
taken_all (x ∷ xs) = ap (λ l. x ∷ l) (taken_all xs)

from_zero : (n m : ℕ) → n ≡ m → 0 + n ≡ m
from_zero n m e = omega (arith, e)

module _ {A : Type 0} where
  pub all_both : (P : A → Type 0) (xs ys : List A) → AllByRecursion P xs → AllByRecursion P ys → AllByRecursion P (xs ++ ys)
  all_both P [] ys a b = b
  all_both P (x ∷ xs) ys a b = (a.0, all_both P xs ys a.1 b)

  pub split_at : (xs : List A) (n : ℕ) (x : A) → slice_get xs n ≡ Some x → xs ≡ take n xs ++ x ∷ drop (suc n) xs
  split_at [] n x e = absurd cc
  split_at (y ∷ ys) zero x e = ap (λ z. z ∷ ys) cc
  split_at (y ∷ ys) (suc n) x e = ap (λ l. y ∷ l) (split_at ys n x e)

  pub take_next : (xs : List A) (n : ℕ) (x : A) → slice_get xs n ≡ Some x → take (suc n) xs ≡ take n xs ++ x ∷ []
  take_next [] n x e = absurd cc
  take_next (y ∷ ys) zero x e = ap (λ z. z ∷ []) cc
  take_next (y ∷ ys) (suc n) x e = ap (λ l. y ∷ l) (take_next ys n x e)

  pub got_below : (xs : List A) (n : ℕ) (x : A) → slice_get xs n ≡ Some x → n < length xs
  got_below [] n x e = absurd cc
  got_below (y ∷ ys) zero x e = omega arith
  got_below (y ∷ ys) (suc n) x e = let h = got_below ys n x e in omega arith

  pub got_at : (xs : List A) (n : ℕ) → n < length xs → (x : A) × (slice_get xs n ≡ Some x)
  got_at [] n h = absurd (omega arith)
  got_at (y ∷ ys) zero h = (y, refl)
  got_at (y ∷ ys) (suc n) h = got_at ys n (omega arith)

  pub length_taken : (xs : List A) (n : ℕ) → n ≤ length xs → length (take n xs) ≡ n
  length_taken [] zero h = refl
  length_taken [] (suc n) h = absurd (omega arith)
  length_taken (y ∷ ys) zero h = refl
  length_taken (y ∷ ys) (suc n) h = ap suc (length_taken ys n (omega arith))

-- ---- imports of a component

import_numbered : (c n k : ℕ) (xs : List NamedExtern) (x : NamedExtern) → slice_get xs k ≡ Some x → slice_get (imports_from c n xs) k ≡ Some (import_at c (n + k) x)
import_numbered c n k [] x e = absurd cc
import_numbered c n zero (y ∷ ys) x e = ap (λ z. Some (import_at c n z)) (some_is y x e) ∙ ap (λ m. Some (import_at c m x)) (omega arith)
import_numbered c n (suc k) (y ∷ ys) x e = import_numbered c (n + 1) k ys x e ∙ ap (λ m. Some (import_at c m x)) (omega arith)

pub imports_length : (c n : ℕ) (xs : List NamedExtern) → length (imports_from c n xs) ≡ length xs
imports_length c n [] = refl
imports_length c n (x ∷ xs) = ap suc (imports_length c (n + 1) xs)

pub import_found : (set : List Spaces) (c n : ℕ) (s : Spaces) (x : NamedExtern) → slice_get set c ≡ Some s → slice_get s.imports n ≡ Some x → slice_get (imports_at set c) n ≡ Some (import_at c n x)
import_found set c n s x e f = rw e (import_numbered c 0 n s.imports x f ∙ ap (λ m. Some (import_at c m x)) (from_zero n n refl))

pub imports_here : (set : List Spaces) (c : ℕ) (s : Spaces) → slice_get set c ≡ Some s → imports_at set c ≡ imports_from c 0 s.imports
imports_here set c s e = rw e refl

-- ---- imports of components

all_both_from : (c : ℕ) (xs ys : List Spaces) → all_imports_from c (xs ++ ys) ≡ all_imports_from c xs ++ all_imports_from (c + length xs) ys
all_both_from c [] ys = ap (λ n. all_imports_from n ys) (omega arith)
all_both_from c (x ∷ xs) ys =
    ap (λ l. imports_from c 0 x.imports ++ l) (all_both_from (c + 1) xs ys ∙ ap (λ n. all_imports_from (c + 1) xs ++ all_imports_from n ys) (omega arith))
    ∙ sym (append_assoc (imports_from c 0 x.imports) (all_imports_from (c + 1) xs) (all_imports_from (c + suc (length xs)) ys))

pub through : (set : List Spaces) (c : ℕ) (s : Spaces) → slice_get set c ≡ Some s → all_imports_from 0 (take (suc c) set) ≡ all_imports_from 0 (take c set) ++ imports_at set c
through set c s e =
    ap (all_imports_from 0) (take_next set c s e) ∙ all_both_from 0 (take c set) (s ∷ [])
    ∙ ap (λ l. all_imports_from 0 (take c set) ++ l)
    (ap (λ n. all_imports_from n (s ∷ [])) (from_zero (length (take c set)) c (length_taken set c (let h = got_below set c s e in omega arith))) ∙ append-nil (imports_from c 0 s.imports) ∙ sym (imports_here set c s e))

pub from_here : (set : List Spaces) (c : ℕ) (s : Spaces) → slice_get set c ≡ Some s → (rest : List ImportAt) × (imports_of set ≡ all_imports_from 0 (take c set) ++ (imports_at set c ++ rest))
from_here set c s e = (
  all_imports_from (c + 1) (drop (suc c) set),
  ap (all_imports_from 0) (split_at set c s e) ∙ all_both_from 0 (take c set) (s ∷ drop (suc c) set)
      ∙ ap (λ l. all_imports_from 0 (take c set) ++ l)
      (ap (λ n. all_imports_from n (s ∷ drop (suc c) set)) (from_zero (length (take c set)) c (length_taken set c (let h = got_below set c s e in omega arith))) ∙ ap (λ l. l ++ all_imports_from (c + 1) (drop (suc c) set)) (sym (imports_here set c s e))),
)

-- ---- lines

lines_both : (set : LinkSet) (xs ys : List ImportAt) → lines_of set (xs ++ ys) ≡ lines_of set xs ++ lines_of set ys
lines_both set [] ys = refl
lines_both set (x ∷ xs) ys = ap (λ l. option_to_list (option_map (plan_line x) (link_of set x)) ++ l) (lines_both set xs ys) ∙ sym (append_assoc (option_to_list (option_map (plan_line x) (link_of set x))) (lines_of set xs) (lines_of set ys))

-- ---- a walk

pub begun : (set : LinkSet) → HasServed set 0 0 []
begun set = record { served = tt; lines = refl }

-- one more import
pub one_more : (set : LinkSet) (c n : ℕ) (x : NamedExtern) (s : Spaces) (old new : List PlanLine) → slice_get set.spaces c ≡ Some s → slice_get s.imports n ≡ Some x → HasServed set c n old → IsServed set (import_at c n x) → new ≡ old ++ lines_of set (import_at c n x ∷ []) → HasServed set c (suc n) new
one_more set c n x s old new e f h i l =
    let more : imports_before set.spaces c (suc n) ≡ imports_before set.spaces c n ++ import_at c n x ∷ [] =
    ap (λ m. all_imports_from 0 (take c set.spaces) ++ m) (take_next (imports_at set.spaces c) n (import_at c n x) (import_found set.spaces c n s x e f)) ∙ sym (append_assoc (all_imports_from 0 (take c set.spaces)) (take n (imports_at set.spaces c)) (import_at c n x ∷ [])) in
    record {
      served = subst (AllByRecursion (IsServed set)) (sym more) (all_both (IsServed set) (imports_before set.spaces c n) (import_at c n x ∷ []) h.served (i, tt));
      lines = l ∙ ap (λ m. m ++ lines_of set (import_at c n x ∷ [])) h.lines ∙ sym (lines_both set (imports_before set.spaces c n) (import_at c n x ∷ [])) ∙ ap (lines_of set) (sym more);
    }

-- all of a component
pub next_component : (set : LinkSet) (c : ℕ) (s : Spaces) (plan : List PlanLine) → slice_get set.spaces c ≡ Some s → HasServed set c (length s.imports) plan → HasServed set (suc c) 0 plan
next_component set c s plan e h =
    let same : imports_before set.spaces c (length s.imports) ≡ imports_before set.spaces (suc c) 0 =
    ap (λ m. all_imports_from 0 (take c set.spaces) ++ m) (ap (λ n. take n (imports_at set.spaces c)) (sym (ap length (imports_here set.spaces c s e) ∙ imports_length c 0 s.imports)) ∙ taken_all (imports_at set.spaces c))
    ∙ sym (through set.spaces c s e) ∙ sym (append-nil (all_imports_from 0 (take (suc c) set.spaces))) in
    record {
      served = subst (AllByRecursion (IsServed set)) same h.served;
      lines = h.lines ∙ ap (lines_of set) same;
    }

-- the whole set
pub all_before : (set : LinkSet) → imports_before set.spaces (length set.spaces) 0 ≡ imports_of set.spaces
all_before set = append-nil (all_imports_from 0 (take (length set.spaces) set.spaces)) ∙ ap (all_imports_from 0) (taken_all set.spaces)

-- the import that is not served is the first
pub stopped : (set : LinkSet) (c n : ℕ) (x : NamedExtern) (s : Spaces) (plan : List PlanLine) (r : LinkReason) → slice_get set.spaces c ≡ Some s → slice_get s.imports n ≡ Some x → HasServed set c n plan → IsNotServed set (import_at c n x) r → IsFirstOf set c n r
stopped set c n x s plan r e f h i =
    let here = from_here set.spaces c s e in
    let cut = split_at (imports_at set.spaces c) n (import_at c n x) (import_found set.spaces c n s x e f) in
    record {
      import = import_at c n x;
      first = record {
        front = imports_before set.spaces c n;
        rest = drop (suc n) (imports_at set.spaces c) ++ here.0;
        split = here.1 ∙ ap (λ m. all_imports_from 0 (take c set.spaces) ++ (m ++ here.0)) cut
            ∙ ap (λ m. all_imports_from 0 (take c set.spaces) ++ m) (append_assoc (take n (imports_at set.spaces c)) (import_at c n x ∷ drop (suc n) (imports_at set.spaces c)) here.0)
            ∙ sym (append_assoc (all_imports_from 0 (take c set.spaces)) (take n (imports_at set.spaces c)) (import_at c n x ∷ (drop (suc n) (imports_at set.spaces c) ++ here.0)));
        before = h.served;
      };
      component_is = refl;
      number_is = refl;
      fails = i;
    }

-- ---- the components of a set

pub count_of : (cs : List Checked) (c : ℕ) (p : Checked) (s : Spaces) (k : ℕ) → slice_get cs c ≡ Some p → k ≡ length (checked.spaces_in p).imports → slice_get (spaces_of_all cs) c ≡ Some s → k ≡ length s.imports
count_of cs c p s k e f g = f ∙ ap (λ t. length t.imports) (some_is (checked.spaces_in p) s (sym (space_at cs c ∙ ap (option_map checked.spaces_in) e) ∙ g))
  where
    some_is : (x y : Spaces) → Some x ≡ Some y → x ≡ y
    some_is x y e = cc

pub count_none : (cs : List Checked) (c : ℕ) (s : Spaces) (k : ℕ) → slice_get cs c ≡ None → slice_get (spaces_of_all cs) c ≡ Some s → k ≡ length s.imports
count_none cs c s k e g = let h = sym (space_at cs c ∙ ap (option_map checked.spaces_in) e) ∙ g in absurd cc

abbrev pub IsCountAt : LinkSet → ℕ → ℕ → Type 0
IsCountAt set c count = (s : Spaces) → slice_get set.spaces c ≡ Some s → count ≡ length s.imports

import_there : (set : LinkSet) (c n : ℕ) (s : Spaces) (x : NamedExtern) → slice_get set.spaces c ≡ Some s → slice_get s.imports n ≡ Some x → import_in set.spaces c n ≡ Some x
import_there set c n s x e f = rw e f

pub walk_stops : (set : LinkSet) (c n count : ℕ) (plan : List PlanLine) (r : LinkReason) → c < length set.spaces → IsCountAt set c count → n < count → HasServed set c n plan → Stops set c n r → IsWalkFault set (record { component = c; import = n; reason = r })
walk_stops set c n count plan r h k l served stops =
    let s = got_at set.spaces c h in
    let same = k s.0 s.1 in
    let x = got_at s.0.imports n (omega arith) in
    told s.0 x.0 s.1 x.1 (stops x.0 (import_there set c n s.0 x.0 s.1 x.1))
  where
    told : (s : Spaces) (x : NamedExtern) → slice_get set.spaces c ≡ Some s → slice_get s.imports n ≡ Some x → (r ≡ reason.Memory) ⊎ IsNotServed set (import_at c n x) r → IsWalkFault set (record { component = c; import = n; reason = r })
    told s x e f (inl m) = inl (m, served.served)
    told s x e f (inr u) = inr (stopped set c n x s plan r e f served u)

pub walk_goes_on : (set : LinkSet) (c n count : ℕ) (old new : List PlanLine) → c < length set.spaces → IsCountAt set c count → n < count → HasServed set c n old → Serves set c n old new → HasServed set c (n + 1) new
walk_goes_on set c n count old new h k l served serves =
    let s = got_at set.spaces c h in
    let same = k s.0 s.1 in
    let x = got_at s.0.imports n (omega arith) in
    let one = serves x.0 (import_there set c n s.0 x.0 s.1 x.1) in
    subst (λ m. HasServed set c m new) (omega arith) (one_more set c n x.0 s.0 old new s.1 x.1 served one.0 one.1)

pub walk_ends : (set : LinkSet) (c n count : ℕ) (plan : List PlanLine) → c < length set.spaces → IsCountAt set c count → n ≡ count → HasServed set c n plan → HasServed set (c + 1) 0 plan
walk_ends set c n count plan h k e served =
    let s = got_at set.spaces c h in
    subst (λ m. HasServed set m 0 plan) (omega arith) (next_component set c s.0 plan s.1 (subst (λ m. HasServed set c m plan) (e ∙ k s.0 s.1) served))

-- ---- what it comes to

pub linked_whole : (set : LinkSet) (plan : List PlanLine) → 0 < length set.spaces → length set.spaces ≤ MAX_COMPONENTS → HasServed set (length set.spaces) 0 plan → CanBeLinked set
linked_whole set plan some few h = record { some = some; few = few; served = subst (AllByRecursion (IsServed set)) (all_before set) h.served }

pub plan_whole : (set : LinkSet) (plan : List PlanLine) → HasServed set (length set.spaces) 0 plan → plan ≡ plan_of set
plan_whole set plan h = h.lines ∙ ap (lines_of set) (all_before set)

-- the reasons for which an export does not serve
abbrev IsOfItem : LinkReason → Type 0
IsOfItem reason.Empty = ⊥
IsOfItem reason.TooMany = ⊥
IsOfItem reason.NoProvider = ⊥
IsOfItem reason.TwoProviders = ⊥
IsOfItem reason.MissingExport = ⊤
IsOfItem reason.DifferentType = ⊤
IsOfItem reason.DifferentResource = ⊤
IsOfItem reason.Memory = ⊥

of_item : (set : LinkSet) (c d : ℕ) (w : ItemTy) (o : Option ItemTy) (r : LinkReason) → IsUnserved set c w d o r → IsOfItem r
of_item set c d w None reason.Empty h = h
of_item set c d w None reason.TooMany h = h
of_item set c d w None reason.NoProvider h = h
of_item set c d w None reason.TwoProviders h = h
of_item set c d w None reason.MissingExport h = tt
of_item set c d w None reason.DifferentType h = tt
of_item set c d w None reason.DifferentResource h = tt
of_item set c d w None reason.Memory h = h
of_item set c d w (Some x) reason.Empty h = h
of_item set c d w (Some x) reason.TooMany h = h
of_item set c d w (Some x) reason.NoProvider h = h
of_item set c d w (Some x) reason.TwoProviders h = h
of_item set c d w (Some x) reason.MissingExport h = tt
of_item set c d w (Some x) reason.DifferentType h = tt
of_item set c d w (Some x) reason.DifferentResource h = tt
of_item set c d w (Some x) reason.Memory h = h

of_extern : (set : LinkSet) (c d : ℕ) (x : ExternTy) (e : ExportDef) (r : LinkReason) → IsExternUnserved set c x d e r → IsOfItem r
of_extern set c d (extern.func f) (exported_func g) r h = subst IsOfItem (sym h.0) tt
of_extern set c d (extern.func f) (exported_instance ms) r h = subst IsOfItem (sym h) tt
of_extern set c d (extern.instance is) (exported_func g) r h = subst IsOfItem (sym h) tt
of_extern set c d (extern.instance is) (exported_instance ms) r h = of_item set c d h.0.desc (item_under ms h.0.name) r h.2

pub first_fault : (set : LinkSet) (c n : ℕ) (r : LinkReason) → 0 < length set.spaces → length set.spaces ≤ MAX_COMPONENTS → IsFirstOf set c n r → IsLinkFault set c n r
first_fault set c n reason.Empty some few f = absurd (of_extern set f.import.component f.fails.link.component f.import.item.desc f.fails.export reason.Empty f.fails.fails)
first_fault set c n reason.TooMany some few f = absurd (of_extern set f.import.component f.fails.link.component f.import.item.desc f.fails.export reason.TooMany f.fails.fails)
first_fault set c n reason.Memory some few f = of_extern set f.import.component f.fails.link.component f.import.item.desc f.fails.export reason.Memory f.fails.fails
first_fault set c n reason.NoProvider some few f = record { some = some; few = few; import = f.import; first = f.first; component_is = f.component_is; number_is = f.number_is; fails = f.fails }
first_fault set c n reason.TwoProviders some few f = record { some = some; few = few; import = f.import; first = f.first; component_is = f.component_is; number_is = f.number_is; fails = f.fails }
first_fault set c n reason.MissingExport some few f = record { some = some; few = few; import = f.import; first = f.first; component_is = f.component_is; number_is = f.number_is; fails = f.fails }
first_fault set c n reason.DifferentType some few f = record { some = some; few = few; import = f.import; first = f.first; component_is = f.component_is; number_is = f.number_is; fails = f.fails }
first_fault set c n reason.DifferentResource some few f = record { some = some; few = few; import = f.import; first = f.first; component_is = f.component_is; number_is = f.number_is; fails = f.fails }

pub fault_whole : (set : LinkSet) (f : LinkFault) → 0 < length set.spaces → length set.spaces ≤ MAX_COMPONENTS → IsWalkFault set f → ((f.reason ≡ reason.Memory) × AreServedBefore set f.component f.import) ⊎ IsLinkFault set f.component f.import f.reason
fault_whole set f some few (inl m) = inl m
fault_whole set f some few (inr g) = inr (first_fault set f.component f.import f.reason some few g)

pub only_memory : (set : LinkSet) (f : LinkFault) → (CanBeLinked set → IsLinkFault set f.component f.import f.reason → ⊥) → 0 < length set.spaces → length set.spaces ≤ MAX_COMPONENTS → IsWalkFault set f → CanBeLinked set → f.reason ≡ reason.Memory
only_memory set f never some few (inl m) can = m.0
only_memory set f never some few (inr g) can = absurd (never can (first_fault set f.component f.import f.reason some few g))

-- ---- of components

pub linked_set : (cs ds : List Checked) (sees : Sees) (plan : List PlanLine) → ds ≡ cs → 0 < length cs → length cs ≤ MAX_COMPONENTS → HasServed (seen_by sees (spaces_of_all ds)) (length ds) 0 plan → CanBeLinked (seen_by sees (spaces_of_all cs))
linked_set cs ds sees plan same some few h =
    let l = set_length cs in
    let set = seen_by sees (spaces_of_all cs) in
    let g : HasServed set (length cs) 0 plan = subst (λ xs. HasServed (seen_by sees (spaces_of_all xs)) (length xs) 0 plan) same h in
    linked_whole set plan (omega (arith, l)) (omega (arith, l)) (subst (λ n. HasServed set n 0 plan) (sym l) g)

pub plan_set : (cs ds : List Checked) (sees : Sees) (plan : List PlanLine) → ds ≡ cs → HasServed (seen_by sees (spaces_of_all ds)) (length ds) 0 plan → plan ≡ plan_of (seen_by sees (spaces_of_all cs))
plan_set cs ds sees plan same h =
    let set = seen_by sees (spaces_of_all cs) in
    let g : HasServed set (length cs) 0 plan = subst (λ xs. HasServed (seen_by sees (spaces_of_all xs)) (length xs) 0 plan) same h in
    plan_whole set plan (subst (λ n. HasServed set n 0 plan) (sym (set_length cs)) g)

pub fault_set : (cs ds : List Checked) (sees : Sees) (f : LinkFault) → ds ≡ cs → 0 < length cs → length cs ≤ MAX_COMPONENTS → IsWalkFault (seen_by sees (spaces_of_all ds)) f
    → ((f.reason ≡ reason.Memory) × AreServedBefore (seen_by sees (spaces_of_all cs)) f.component f.import) ⊎ IsLinkFault (seen_by sees (spaces_of_all cs)) f.component f.import f.reason
fault_set cs ds sees f same some few h =
    let l = set_length cs in
    fault_whole (seen_by sees (spaces_of_all cs)) f (omega (arith, l)) (omega (arith, l)) (subst (λ xs. IsWalkFault (seen_by sees (spaces_of_all xs)) f) same h)

pub memory_set : (cs ds : List Checked) (sees : Sees) (f : LinkFault) → (CanBeLinked (seen_by sees (spaces_of_all cs)) → IsLinkFault (seen_by sees (spaces_of_all cs)) f.component f.import f.reason → ⊥) → ds ≡ cs → 0 < length cs → length cs ≤ MAX_COMPONENTS
    → IsWalkFault (seen_by sees (spaces_of_all ds)) f → CanBeLinked (seen_by sees (spaces_of_all cs)) → f.reason ≡ reason.Memory
memory_set cs ds sees f never same some few h can =
    let l = set_length cs in
    only_memory (seen_by sees (spaces_of_all cs)) f never (omega (arith, l)) (omega (arith, l)) (subst (λ xs. IsWalkFault (seen_by sees (spaces_of_all xs)) f) same h) can
