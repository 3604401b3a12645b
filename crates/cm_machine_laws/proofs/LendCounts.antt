-- Counts of lends, one entry of a table after another.
use Rattle.std.proofs.Common.{◌≡◌, ◌≢◌, ℕ, zero, suc, ◌+◌, ◌-◌, ◌<◌, ◌⊎◌, inl, inr, Bool, true}
use Rattle.std.proofs.Common.{false, List, [], ◌∷◌, ◌++◌, length, map, get_or, Option, Some, None}
use Rattle.std.proofs.Common.{refl, sym, ap, subst, ◌∙◌, arith}
use Rattle.std.specs.Prelude.{slice_set, Contains, ◌==◌, ◌&&◌, not, if◌then◌else◌}
use Rattle.std.specs.Option.{option_map}
use Rattle.std.proofs.lemmas.Bool.{cases_eq, cases_lt, eq-eqb, ne_eqb, eqb-true}
use Rattle.std.proofs.lemmas.List.{get_or-set_other}
use Rattle.std.proofs.lemmas.Option.{none-some, same_Some}
use Rattle.cm_handles.specs.Handles.{Handles, after_close, after_lend, after_release}
use Rattle.cm_handles.specs.Handles.{after_unlend, handle_at, is_borrow}
use Rattle.cm_handles.specs.Handles.{slot_after_close, with_lends}
use Rattle.cm_handles.specs.declared.handle.Handle.{Handle}
use Rattle.cm_handles.specs.declared.handle.HandleKind.{HandleKind}
use Rattle.cm_handles.specs.declared.handle.HandleKind.TheVariants as handle
use Rattle.cm_abi_model.specs.Taken.{Met, text_content, content, taken, lent, after_met, taken_of}
use Rattle.cm_abi_model.specs.Taken.{lent_of}
use Rattle.cm_machine_model.specs.declared.frame.Frame.{Frame}
use Rattle.cm_machine_model.specs.declared.frame.Lend.{Lend}
use Rattle.cm_machine_model.specs.Owning.{IsAmong, count_lends, standing}
use Rattle.cm_machine_model.specs.State.{lends_after_call, lends_to, table_at, tables_after_call}
use Rattle.cm_machine_model.specs.State.{tables_after_trap, tables_after_unlend}
use Rattle.cm_handles.proofs.HandlesLaws.{at_change, released, none_there}
use Rattle.cm_lemmas.proofs.Numbers.{hit_both}
use Rattle.cm_lemmas.proofs.Bools.{hit_by}
use Rattle.cm_lemmas.proofs.Lists.{set_past}
use Rattle.cm_machine_model.proofs.StateLaws.{table_other, table_past, table_same}

-- ---- one entry

-- what stands is lent so often; where nothing stands, never
abbrev pub CountsAt : Option Handle → ℕ → Type 0
CountsAt None n = n ≡ 0
CountsAt (Some h) n = h.lends ≡ n

-- the same handle, but for its lends
pub record Like (h k : Handle) : Type 0 where
  pub kind : h.kind ≡ k.kind
  pub serial : h.serial ≡ k.serial
  pub resource : h.resource ≡ k.resource
  pub rep : h.rep ≡ k.rep

pub like_refl : (h : Handle) → Like h h
like_refl h = record { kind = refl; serial = refl; resource = refl; rep = refl }

pub like_lends : (n : ℕ) (h : Handle) → Like (with_lends n h) h
like_lends n h = record { kind = refl; serial = refl; resource = refl; rep = refl }

pub like_trans : (a b c : Handle) → Like a b → Like b c → Like a c
like_trans a b c x y = record { kind = x.kind ∙ y.kind; serial = x.serial ∙ y.serial; resource = x.resource ∙ y.resource; rep = x.rep ∙ y.rep }

-- what stands now stood there, but for its lends
abbrev pub Fades : Option Handle → Option Handle → Type 0
Fades old new = (y : Handle) → new ≡ Some y → (x : Handle) × (old ≡ Some x) × Like y x

pub fades_refl : (o : Option Handle) → Fades o o
fades_refl o y e = (y, e, like_refl y)

pub fades_trans : (a b c : Option Handle) → Fades a b → Fades b c → Fades a c
fades_trans a b c f g z e =
    let y = g z e in
    let x = f y.0 y.1 in
    (x.0, x.1, like_trans z y.0 x.0 y.2 x.2)

pub fades_none : (o : Option Handle) → Fades o None
fades_none o y e = absurd (none-some y e)

pub fades_map : (o : Option Handle) (f : Handle → Handle) → ((h : Handle) → Like (f h) h) → Fades o (option_map f o)
fades_map None f like y e = absurd (none-some y e)
fades_map (Some h) f like y e = (h, refl, subst (λ (x : Handle). Like x h) (same_Some (f h) y e) (like h))

-- something stands where it is lent
pub stands_lent : (o : Option Handle) (n : ℕ) → CountsAt o n → 0 < n → (h : Handle) × (o ≡ Some h)
stands_lent None n c lt = absurd (omega (arith, c, lt))
stands_lent (Some h) n c lt = (h, refl)

pub counts_of : (o : Option Handle) (n : ℕ) (h : Handle) → CountsAt o n → o ≡ Some h → h.lends ≡ n
counts_of None n h c e = absurd (none-some h e)
counts_of (Some g) n h c e = ap (λ (x : Handle). x.lends) (sym (same_Some g h e)) ∙ c

pub more_lent : (o : Option Handle) (n : ℕ) (h : Handle) → CountsAt o n → o ≡ Some h → CountsAt (option_map (λ x. with_lends (x.lends + 1) x) o) (n + 1)
more_lent None n h c e = absurd (none-some h e)
more_lent (Some g) n h c e = ap (λ k. k + 1) c

pub less_lent : (o : Option Handle) (n : ℕ) → CountsAt o n → CountsAt (option_map (λ x. with_lends (x.lends - 1) x) o) (n - 1)
less_lent None n c = ap (λ k. k - 1) c
less_lent (Some g) n c = ap (λ k. k - 1) c

-- ---- lends

abbrev pub hits : Lend → ℕ → ℕ → ℕ
hits l i k = if (l.instance == i) && (l.index == k) then 1 else 0

abbrev pub IsIn : List Lend → Lend → Type 0
IsIn [] l = ⊥
IsIn (m ∷ ms) l = (m ≡ l) ⊎ IsIn ms l

pub in_from : (ms : List Lend) (l : Lend) → Contains ms l → IsIn ms l
in_from [] l c = absurd (omega (arith, c.1))
in_from (m ∷ ms) l (zero, lt, is) = inl is
in_from (m ∷ ms) l (suc k, lt, is) = inr (in_from ms l (k, omega (arith, lt), is))

pub in_to : (ms : List Lend) (l : Lend) → IsIn ms l → Contains ms l
in_to [] l a = absurd a
in_to (m ∷ ms) l (inl e) = (0, omega arith, e)
in_to (m ∷ ms) l (inr a) = let c = in_to ms l a in (suc c.0, omega (arith, c.1), c.2)

pub in_left : (ls ms : List Lend) (l : Lend) → IsIn ls l → IsIn (ls ++ ms) l
in_left [] ms l a = absurd a
in_left (x ∷ ls) ms l (inl e) = inl e
in_left (x ∷ ls) ms l (inr a) = inr (in_left ls ms l a)

pub in_right : (ls ms : List Lend) (l : Lend) → IsIn ms l → IsIn (ls ++ ms) l
in_right [] ms l a = a
in_right (x ∷ ls) ms l a = inr (in_right ls ms l a)

pub in_split : (ls ms : List Lend) (l : Lend) → IsIn (ls ++ ms) l → IsIn ls l ⊎ IsIn ms l
in_split [] ms l a = inr a
in_split (x ∷ ls) ms l (inl e) = inl (inl e)
in_split (x ∷ ls) ms l (inr a) = elim (in_split ls ms l a) as (λ r. IsIn (x ∷ ls) l ⊎ IsIn ms l) [ inl b ↦ inl (inr b) | inr b ↦ inr b ]

-- a handle that is counted is lent
pub counted_one : (i k : ℕ) (ls : List Lend) → 0 < count_lends i k ls → (l : Lend) × IsIn ls l × (l.instance ≡ i) × (l.index ≡ k)
counted_one i k [] lt = absurd (omega (arith, lt))
counted_one i k (l ∷ ls) lt = elim (cases_lt 0 (hits l i k)) as (λ r. (m : Lend) × IsIn (l ∷ ls) m × (m.instance ≡ i) × (m.index ≡ k)) [
  | inl hit ↦ let b = hit_by (l.instance == i) (l.index == k) hit in (l, inl refl, eqb-true l.instance i b.0, eqb-true l.index k b.1)
  | inr none ↦ let m = counted_one i k ls (omega (arith, lt, none)) in (m.0, inr m.1, m.2, m.3)
]

hit_not : (a b : Bool) → a ≡ false → ◌≡◌ {A = ℕ} (if a && b then 1 else 0) 0
hit_not true b e = absurd (cc (e))
hit_not false b e = refl

hit_nor : (a b : Bool) → b ≡ false → ◌≡◌ {A = ℕ} (if a && b then 1 else 0) 0
hit_nor true true e = absurd (cc (e))
hit_nor true false e = refl
hit_nor false b e = refl

pub hits_same : (l : Lend) (i k : ℕ) → l.instance ≡ i → l.index ≡ k → hits l i k ≡ 1
hits_same l i k e f = hit_both (l.instance == i) (l.index == k) (eq-eqb l.instance i e) (eq-eqb l.index k f)

pub hits_instance : (l : Lend) (i k : ℕ) → l.instance ≢ i → hits l i k ≡ 0
hits_instance l i k ne = hit_not (l.instance == i) (l.index == k) (ne_eqb l.instance i ne)

pub hits_index : (l : Lend) (i k : ℕ) → l.index ≢ k → hits l i k ≡ 0
hits_index l i k ne = hit_nor (l.instance == i) (l.index == k) (ne_eqb l.index k ne)

-- a handle that is lent is counted
pub one_counted : (l : Lend) (ls : List Lend) → IsIn ls l → 0 < count_lends l.instance l.index ls
one_counted l [] a = absurd a
one_counted l (m ∷ ls) (inl e) = omega (arith, hits_same m l.instance l.index (ap (λ (x : Lend). x.instance) e) (ap (λ (x : Lend). x.index) e))
one_counted l (m ∷ ls) (inr a) = omega (arith, one_counted l ls a)

pub count_both : (i k : ℕ) (ls ms : List Lend) → count_lends i k (ls ++ ms) ≡ count_lends i k ls + count_lends i k ms
count_both i k [] ms = omega arith
count_both i k (l ∷ ls) ms = omega (arith, count_both i k ls ms)

-- no lend of an instance, no count
pub none_counted : (i k : ℕ) (ls : List Lend) → ((l : Lend) → IsIn ls l → l.instance ≡ i → ⊥) → count_lends i k ls ≡ 0
none_counted i k [] none = refl
none_counted i k (l ∷ ls) none = omega (arith, hits_instance l i k (λ e. none l (inl refl) e), none_counted i k ls (λ m a e. none m (inr a) e))

-- ---- tables

-- what stands at an index of a table that is replaced
pub at_set : (tables : List Handles) (i k : ℕ) (new : Handles) (f : Option Handle → Option Handle) → f None ≡ None → handle_at new k ≡ f (standing tables i k)
    → standing (slice_set tables i new) i k ≡ f (standing tables i k)
at_set tables i k new f none here = elim (cases_lt i (length tables)) as (λ r. standing (slice_set tables i new) i k ≡ f (standing tables i k)) [
  | inl lt ↦ ap (λ t. handle_at t k) (table_same tables i new lt) ∙ here
  | inr le ↦
      let old : standing tables i k ≡ None = ap (λ t. handle_at t k) (table_past tables i le) ∙ none_there k in
      ap (λ (ts : List Handles). standing ts i k) (set_past tables i new le) ∙ (old ∙ (sym none ∙ sym (ap f old)))
]

pub at_other : (tables : List Handles) (i j k : ℕ) (new : Handles) → j ≢ i → standing (slice_set tables i new) j k ≡ standing tables j k
at_other tables i j k new ne = ap (λ t. handle_at t k) (table_other tables i j new ne)

-- ---- what is met

-- an entry after something was met
abbrev pub fade : ℕ → List Met → Option Handle → Option Handle
fade k [] o = o
fade k (text_content tags n ∷ ms) o = fade k ms o
fade k (content n ∷ ms) o = fade k ms o
fade k (taken i ∷ ms) o = fade k ms (if i == k then None else o)
fade k (lent i ∷ ms) o = fade k ms (if i == k then option_map (λ x. with_lends (x.lends + 1) x) o else o)

released_at : (t : Handles) (i k : ℕ) → handle_at (after_release t i) k ≡ (if i == k then None else handle_at t k)
released_at t i k = elim (cases_eq i k) as (λ r. handle_at (after_release t i) k ≡ (if i == k then None else handle_at t k)) [
  | inl same ↦ ap (λ x. handle_at (after_release t i) x) (sym same) ∙ (released t i ∙ sym (ap (λ (b : Bool). if b then None else handle_at t k) (eq-eqb i k same)))
  | inr ne ↦ get_or-set_other t.slots i k None None (λ e. ne (sym e)) ∙ sym (ap (λ (b : Bool). if b then None else handle_at t k) (ne_eqb i k ne))
]

lent_at : (t : Handles) (i k : ℕ) → handle_at (after_lend t i) k ≡ (if i == k then option_map (λ x. with_lends (x.lends + 1) x) (handle_at t k) else handle_at t k)
lent_at t i k = elim (cases_eq i k) as (λ r. handle_at (after_lend t i) k ≡ (if i == k then option_map (λ x. with_lends (x.lends + 1) x) (handle_at t k) else handle_at t k)) [
  | inl same ↦
      ap (λ x. handle_at (after_lend t i) x) (sym same) ∙ (at_change t i (λ x. with_lends (x.lends + 1) x) ∙ (ap (λ x. option_map (λ (h : Handle). with_lends (h.lends + 1) h) (handle_at t x)) same
      ∙ sym (ap (λ (b : Bool). if b then option_map (λ x. with_lends (x.lends + 1) x) (handle_at t k) else handle_at t k) (eq-eqb i k same))))
  | inr ne ↦ get_or-set_other t.slots i k (option_map (λ x. with_lends (x.lends + 1) x) (handle_at t i)) None (λ e. ne (sym e)) ∙ sym (ap (λ (b : Bool). if b then option_map (λ x. with_lends (x.lends + 1) x) (handle_at t k) else handle_at t k) (ne_eqb i k ne))
]

pub met_at_index : (k : ℕ) (ms : List Met) (t : Handles) → handle_at (after_met t ms) k ≡ fade k ms (handle_at t k)
met_at_index k [] t = refl
met_at_index k (text_content tags n ∷ ms) t = met_at_index k ms t
met_at_index k (content n ∷ ms) t = met_at_index k ms t
met_at_index k (taken i ∷ ms) t = met_at_index k ms (after_release t i) ∙ ap (λ o. fade k ms o) (released_at t i k)
met_at_index k (lent i ∷ ms) t = met_at_index k ms (after_lend t i) ∙ ap (λ o. fade k ms o) (lent_at t i k)

-- what holds of both holds of either
pub either : {X : Type 0} (b : Bool) (P : X → Type 0) (x y : X) → P x → P y → P (if b then x else y)
either true P x y p q = p
either false P x y p q = q

pub fade_none : (k : ℕ) (ms : List Met) → fade k ms None ≡ None
fade_none k [] = refl
fade_none k (text_content tags n ∷ ms) = fade_none k ms
fade_none k (content n ∷ ms) = fade_none k ms
fade_none k (taken i ∷ ms) = either (i == k) (λ o. fade k ms o ≡ None) None None (fade_none k ms) (fade_none k ms)
fade_none k (lent i ∷ ms) = either (i == k) (λ o. fade k ms o ≡ None) (option_map (λ x. with_lends (x.lends + 1) x) None) None (fade_none k ms) (fade_none k ms)

pub fade_fades : (k : ℕ) (ms : List Met) (o : Option Handle) → Fades o (fade k ms o)
fade_fades k [] o = fades_refl o
fade_fades k (text_content tags n ∷ ms) o = fade_fades k ms o
fade_fades k (content n ∷ ms) o = fade_fades k ms o
fade_fades k (taken i ∷ ms) o =
    either (i == k) (λ z. Fades o (fade k ms z)) None o (fades_trans o None (fade k ms None) (fades_none o) (fade_fades k ms None)) (fade_fades k ms o)
fade_fades k (lent i ∷ ms) o =
    either (i == k) (λ z. Fades o (fade k ms z)) (option_map (λ x. with_lends (x.lends + 1) x) o) o
    (fades_trans o (option_map (λ x. with_lends (x.lends + 1) x) o) (fade k ms (option_map (λ x. with_lends (x.lends + 1) x) o)) (fades_map o (λ x. with_lends (x.lends + 1) x) (λ h. like_lends (h.lends + 1) h)) (fade_fades k ms (option_map (λ x. with_lends (x.lends + 1) x) o)))
    (fade_fades k ms o)

-- how often an index is among indices
abbrev pub times : ℕ → List ℕ → ℕ
times k [] = 0
times k (i ∷ is) = (if i == k then 1 else 0) + times k is

pub times_none : (k : ℕ) (is : List ℕ) → (IsAmong is k → ⊥) → times k is ≡ 0
times_none k [] none = refl
times_none k (i ∷ is) none = omega (arith, ap {B = ℕ} (λ (b : Bool). if b then 1 else 0) (ne_eqb i k (λ e. none (inl e))), times_none k is (λ a. none (inr a)))

-- the count of an entry grows by how often it is lent
pub fade_counts : (k : ℕ) (ms : List Met) (o : Option Handle) (n : ℕ) → (IsAmong (taken_of ms) k → n ≡ 0) → (IsAmong (taken_of ms) k → IsAmong (lent_of ms) k → ⊥)
    → (IsAmong (lent_of ms) k → (h : Handle) × (o ≡ Some h)) → CountsAt o n → CountsAt (fade k ms o) (n + times k (lent_of ms))
fade_counts k [] o n free apart there c = subst (λ m. CountsAt o m) (omega arith) c
fade_counts k (text_content tags m ∷ ms) o n free apart there c = fade_counts k ms o n free apart there c
fade_counts k (content m ∷ ms) o n free apart there c = fade_counts k ms o n free apart there c
fade_counts k (taken i ∷ ms) o n free apart there c = elim (cases_eq i k) as (λ r. CountsAt (fade k (taken i ∷ ms) o) (n + times k (lent_of ms))) [
  | inl same ↦
      let zero_is : n ≡ 0 = free (inl same) in
      let none : times k (lent_of ms) ≡ 0 = times_none k (lent_of ms) (λ a. apart (inl same) a) in
      subst (λ x. CountsAt x (n + times k (lent_of ms))) (sym (ap (λ (b : Bool). fade k ms (if b then None else o)) (eq-eqb i k same) ∙ fade_none k ms)) (omega (arith, zero_is, none))
  | inr ne ↦
      subst (λ x. CountsAt x (n + times k (lent_of ms))) (sym (ap (λ (b : Bool). fade k ms (if b then None else o)) (ne_eqb i k ne)))
      (fade_counts k ms o n (λ a. free (inr a)) (λ a b. apart (inr a) b) there c)
]
fade_counts k (lent i ∷ ms) o n free apart there c = elim (cases_eq i k) as (λ r. CountsAt (fade k (lent i ∷ ms) o) (n + times k (lent_of (lent i ∷ ms)))) [
  | inl same ↦
      let h = there (inl same) in
      subst (λ x. CountsAt x (n + times k (lent_of (lent i ∷ ms)))) (sym (ap (λ (b : Bool). fade k ms (if b then option_map (λ x. with_lends (x.lends + 1) x) o else o)) (eq-eqb i k same)))
      (subst (λ m. CountsAt (fade k ms (option_map (λ x. with_lends (x.lends + 1) x) o)) m) (omega (arith, ap {B = ℕ} (λ (b : Bool). if b then 1 else 0) (eq-eqb i k same)))
      (fade_counts k ms (option_map (λ x. with_lends (x.lends + 1) x) o) (n + 1) (λ a. absurd (apart a (inl same))) (λ a b. apart a (inr b))
      (λ a. (with_lends (h.0.lends + 1) h.0, ap (λ x. option_map (λ (z : Handle). with_lends (z.lends + 1) z) x) h.1)) (more_lent o n h.0 c h.1)))
  | inr ne ↦
      subst (λ x. CountsAt x (n + times k (lent_of (lent i ∷ ms)))) (sym (ap (λ (b : Bool). fade k ms (if b then option_map (λ x. with_lends (x.lends + 1) x) o else o)) (ne_eqb i k ne)))
      (subst (λ m. CountsAt (fade k ms o) m) (omega (arith, ap {B = ℕ} (λ (b : Bool). if b then 1 else 0) (ne_eqb i k ne)))
      (fade_counts k ms o n free (λ a b. apart a (inr b)) (λ a. there (inr a)) c))
]

pub counted_to : (frame i k : ℕ) (is : List ℕ) → count_lends i k (lends_to frame i is) ≡ times k is
counted_to frame i k [] = refl
counted_to frame i k (x ∷ is) =
    let here : (i == i) ≡ true = eq-eqb i i refl in
    omega (arith, ap {B = ℕ} (λ (b : Bool). if b && (x == k) then 1 else 0) here, counted_to frame i k is)

pub counted_elsewhere : (frame i j k : ℕ) (is : List ℕ) → j ≢ i → count_lends j k (lends_to frame i is) ≡ 0
counted_elsewhere frame i j k [] ne = refl
counted_elsewhere frame i j k (x ∷ is) ne = omega (arith, hits_instance (record { frame = frame; instance = i; index = x }) j k (λ e. ne (sym e)), counted_elsewhere frame i j k is ne)

pub in_lends_to : (frame i : ℕ) (is : List ℕ) (l : Lend) → IsIn (lends_to frame i is) l → (l.frame ≡ frame) × (l.instance ≡ i)
in_lends_to frame i [] l a = absurd a
in_lends_to frame i (x ∷ is) l (inl e) = (ap (λ (m : Lend). m.frame) (sym e), ap (λ (m : Lend). m.instance) (sym e))
in_lends_to frame i (x ∷ is) l (inr a) = in_lends_to frame i is l a

pub to_lends : (frame i : ℕ) (is : List ℕ) (k : ℕ) → IsAmong is k → IsIn (lends_to frame i is) (record { frame = frame; instance = i; index = k })
to_lends frame i [] k a = absurd a
to_lends frame i (x ∷ is) k (inl e) = inl (ap (λ n. record { frame = frame; instance = i; index = n }) e)
to_lends frame i (x ∷ is) k (inr a) = inr (to_lends frame i is k a)

-- ---- where lends end

abbrev less : Handle → Handle
less x = with_lends (x.lends - 1) x

unlent_here : (l : Lend) (tables : List Handles) → standing (tables_after_unlend l tables) l.instance l.index ≡ option_map less (standing tables l.instance l.index)
unlent_here l tables = at_set tables l.instance l.index (after_unlend (table_at tables l.instance) l.index) (λ o. option_map less o) refl (at_change (table_at tables l.instance) l.index less)

unlent_other : (l : Lend) (tables : List Handles) (i k : ℕ) → ((l.instance ≡ i) × (l.index ≡ k) → ⊥) → standing (tables_after_unlend l tables) i k ≡ standing tables i k
unlent_other l tables i k ne = elim (cases_eq i l.instance) as (λ r. standing (tables_after_unlend l tables) i k ≡ standing tables i k) [
  | inl same ↦
      let apart : k ≢ l.index = λ e. ne (sym same, sym e) in
      ap (λ x. standing (tables_after_unlend l tables) x k) same
      ∙ (at_set tables l.instance k (after_unlend (table_at tables l.instance) l.index) (λ o. o) refl (get_or-set_other (table_at tables l.instance).slots l.index k (option_map less (handle_at (table_at tables l.instance) l.index)) None apart)
      ∙ ap (λ x. standing tables x k) (sym same))
  | inr apart ↦ at_other tables l.instance i k (after_unlend (table_at tables l.instance) l.index) apart
]

cases_hit : (l : Lend) (i k : ℕ) → ((l.instance ≡ i) × (l.index ≡ k)) ⊎ (((l.instance ≡ i) × (l.index ≡ k) → ⊥) × (hits l i k ≡ 0))
cases_hit l i k = elim (cases_eq l.instance i) as (λ r. ((l.instance ≡ i) × (l.index ≡ k)) ⊎ (((l.instance ≡ i) × (l.index ≡ k) → ⊥) × (hits l i k ≡ 0))) [
  | inl same ↦ elim (cases_eq l.index k) as (λ r. ((l.instance ≡ i) × (l.index ≡ k)) ⊎ (((l.instance ≡ i) × (l.index ≡ k) → ⊥) × (hits l i k ≡ 0))) [
    | inl at ↦ inl (same, at)
    | inr ne ↦ inr (λ b. ne b.1, hits_index l i k ne)
  ]
  | inr ne ↦ inr (λ b. ne b.0, hits_instance l i k ne)
]

one_ends : (l : Lend) (tables : List Handles) (i k n : ℕ) → CountsAt (standing tables i k) (hits l i k + n) → CountsAt (standing (tables_after_unlend l tables) i k) n
one_ends l tables i k n c = elim (cases_hit l i k) as (λ r. CountsAt (standing (tables_after_unlend l tables) i k) n) [
  | inl at ↦
      let here : standing (tables_after_unlend l tables) i k ≡ option_map less (standing tables i k) =
      ap (λ x. standing (tables_after_unlend l tables) x k) (sym at.0) ∙ (ap (λ x. standing (tables_after_unlend l tables) l.instance x) (sym at.1) ∙ (unlent_here l tables ∙ (ap (λ x. option_map less (standing tables l.instance x)) at.1 ∙ ap (λ x. option_map less (standing tables x k)) at.0))) in
      subst (λ o. CountsAt o n) (sym here) (subst (λ m. CountsAt (option_map less (standing tables i k)) m) (omega (arith, hits_same l i k at.0 at.1)) (less_lent (standing tables i k) (hits l i k + n) c))
  | inr ne ↦ subst (λ o. CountsAt o n) (sym (unlent_other l tables i k ne.0)) (subst (λ m. CountsAt (standing tables i k) m) (omega (arith, ne.1)) c)
]

one_fades : (l : Lend) (tables : List Handles) (i k : ℕ) → Fades (standing tables i k) (standing (tables_after_unlend l tables) i k)
one_fades l tables i k = elim (cases_hit l i k) as (λ r. Fades (standing tables i k) (standing (tables_after_unlend l tables) i k)) [
  | inl at ↦
      let here : standing (tables_after_unlend l tables) i k ≡ option_map less (standing tables i k) =
      ap (λ x. standing (tables_after_unlend l tables) x k) (sym at.0) ∙ (ap (λ x. standing (tables_after_unlend l tables) l.instance x) (sym at.1) ∙ (unlent_here l tables ∙ (ap (λ x. option_map less (standing tables l.instance x)) at.1 ∙ ap (λ x. option_map less (standing tables x k)) at.0))) in
      subst (λ o. Fades (standing tables i k) o) (sym here) (fades_map (standing tables i k) less (λ h. like_lends (h.lends - 1) h))
  | inr ne ↦ subst (λ o. Fades (standing tables i k) o) (sym (unlent_other l tables i k ne.0)) (fades_refl (standing tables i k))
]

ends_by : (b : Bool) (call : ℕ) (l : Lend) (ls : List Lend) (tables : List Handles) (c : ℕ → ℕ → ℕ) (i k : ℕ)
    → CountsAt (standing (tables_after_call call ls (tables_after_unlend l tables)) i k) (count_lends i k (lends_after_call call ls) + c i k)
    → CountsAt (standing (tables_after_call call ls tables) i k) (count_lends i k (l ∷ lends_after_call call ls) + c i k)
    → CountsAt (standing (tables_after_call call ls (if b then tables_after_unlend l tables else tables)) i k) (count_lends i k (if not b then l ∷ lends_after_call call ls else lends_after_call call ls) + c i k)
ends_by true call l ls tables c i k x y = x
ends_by false call l ls tables c i k x y = y

-- each handle is lowered by its own count among the lends of the call
pub ends_count : (call : ℕ) (ls : List Lend) (tables : List Handles) (c : ℕ → ℕ → ℕ) → ((i k : ℕ) → CountsAt (standing tables i k) (count_lends i k ls + c i k))
    → (i k : ℕ) → CountsAt (standing (tables_after_call call ls tables) i k) (count_lends i k (lends_after_call call ls) + c i k)
ends_count call [] tables c all i k = all i k
ends_count call (l ∷ ls) tables c all i k =
    ends_by (l.frame == call) call l ls tables c i k
    (ends_count call ls (tables_after_unlend l tables) c (λ j q. one_ends l tables j q (count_lends j q ls + c j q) (subst (λ m. CountsAt (standing tables j q) m) (omega arith) (all j q))) i k)
    (subst (λ m. CountsAt (standing (tables_after_call call ls tables) i k) m) (omega arith)
    (ends_count call ls tables (λ j q. hits l j q + c j q) (λ j q. subst (λ m. CountsAt (standing tables j q) m) (omega arith) (all j q)) i k))

pub ends_fade : (call : ℕ) (ls : List Lend) (tables : List Handles) (i k : ℕ) → Fades (standing tables i k) (standing (tables_after_call call ls tables) i k)
ends_fade call [] tables i k = fades_refl (standing tables i k)
ends_fade call (l ∷ ls) tables i k =
    either (l.frame == call) (λ (ts : List Handles). Fades (standing tables i k) (standing (tables_after_call call ls ts) i k)) (tables_after_unlend l tables) tables
    (fades_trans (standing tables i k) (standing (tables_after_unlend l tables) i k) (standing (tables_after_call call ls (tables_after_unlend l tables)) i k) (one_fades l tables i k) (ends_fade call ls (tables_after_unlend l tables) i k))
    (ends_fade call ls tables i k)

stays_first : (b : Bool) (m l : Lend) (ls : List Lend) → m ≡ l → b ≡ false → IsIn (if not b then m ∷ ls else ls) l
stays_first true m l ls e is = absurd (cc (is))
stays_first false m l ls e is = inl e

stays_rest : (b : Bool) (m l : Lend) (ls : List Lend) → IsIn ls l → IsIn (if not b then m ∷ ls else ls) l
stays_rest true m l ls a = a
stays_rest false m l ls a = inr a

pub stays_in : (call : ℕ) (ls : List Lend) (l : Lend) → IsIn ls l → l.frame ≢ call → IsIn (lends_after_call call ls) l
stays_in call [] l a ne = absurd a
stays_in call (m ∷ ls) l (inl e) ne = stays_first (m.frame == call) m l (lends_after_call call ls) e (ne_eqb m.frame call (λ f. ne (sym (ap (λ (x : Lend). x.frame) e) ∙ f)))
stays_in call (m ∷ ls) l (inr a) ne = stays_rest (m.frame == call) m l (lends_after_call call ls) (stays_in call ls l a ne)

not_both : {b : Bool} → b ≡ false → b ≡ true → ⊥
not_both {b} e f = cc (e, f)

was_by : (b : Bool) (m l : Lend) (ls : List Lend) → IsIn (if not b then m ∷ ls else ls) l → ((b ≡ false) × (m ≡ l)) ⊎ IsIn ls l
was_by true m l ls a = inr a
was_by false m l ls (inl e) = inl (refl, e)
was_by false m l ls (inr a) = inr a

pub was_in : (call : ℕ) (ls : List Lend) (l : Lend) → IsIn (lends_after_call call ls) l → IsIn ls l × (l.frame ≢ call)
was_in call [] l a = absurd a
was_in call (m ∷ ls) l a = elim (was_by (m.frame == call) m l (lends_after_call call ls) a) as (λ r. IsIn (m ∷ ls) l × (l.frame ≢ call)) [
  | inl x ↦ (inl x.1, λ f. not_both x.0 (eq-eqb m.frame call (ap (λ (y : Lend). y.frame) x.1 ∙ f)))
  | inr b ↦ let r = was_in call ls l b in (inr r.0, r.1)
]

-- ---- where tables close

-- lent to nobody, and no borrow
abbrev pub Clean : Option Handle → Type 0
Clean o = (h : Handle) → o ≡ Some h → (h.lends ≡ 0) × ((c : ℕ) → h.kind ≡ handle.Borrowed c → ⊥)

owned_is_no_borrow : (c : ℕ) → handle.Owned ≡ handle.Borrowed c → ⊥
owned_is_no_borrow c e = cc (e)

clean_by : (h y : Handle) (k : HandleKind) → h.kind ≡ k → (if is_borrow k then None else Some (with_lends 0 h)) ≡ Some y → (y.lends ≡ 0) × ((c : ℕ) → y.kind ≡ handle.Borrowed c → ⊥)
clean_by h y handle.Owned is e =
    let same = same_Some (with_lends 0 h) y e in
    (sym (ap (λ (x : Handle). x.lends) same), λ c f. owned_is_no_borrow c (sym is ∙ (ap (λ (x : Handle). x.kind) same ∙ f)))
clean_by h y (handle.Borrowed d) is e = absurd (none-some y e)

clean_close : (o : Option Handle) → Clean (slot_after_close o)
clean_close None y e = absurd (none-some y e)
clean_close (Some h) y e = clean_by h y h.kind refl e

map_at : (xs : List (Option Handle)) (k : ℕ) → get_or (map slot_after_close xs) k None ≡ slot_after_close (get_or xs k None)
map_at [] k = refl
map_at (x ∷ xs) zero = refl
map_at (x ∷ xs) (suc k) = map_at xs k

-- one of these frames is of this instance
abbrev pub HasFrame : List Frame → ℕ → Type 0
HasFrame [] i = ⊥
HasFrame (f ∷ fs) i = (f.instance ≡ i) ⊎ HasFrame fs i

pub has_frame : (fs : List Frame) (i : ℕ) → HasFrame fs i ⊎ (HasFrame fs i → ⊥)
has_frame [] i = inr (λ a. a)
has_frame (f ∷ fs) i = elim (cases_eq f.instance i) as (λ r. HasFrame (f ∷ fs) i ⊎ (HasFrame (f ∷ fs) i → ⊥)) [
  | inl e ↦ inl (inl e)
  | inr ne ↦ elim (has_frame fs i) as (λ r. HasFrame (f ∷ fs) i ⊎ (HasFrame (f ∷ fs) i → ⊥)) [ inl a ↦ inl (inr a) | inr none ↦ inr (λ a. elim a as (λ r. ⊥) [ inl e ↦ ne e | inr b ↦ none b ]) ]
]

pub traps_clean : (fs : List Frame) (tables : List Handles) (i k : ℕ) → HasFrame fs i ⊎ Clean (standing tables i k) → Clean (standing (tables_after_trap fs tables) i k)
traps_clean [] tables i k (inl a) = absurd a
traps_clean [] tables i k (inr c) = c
traps_clean (f ∷ fs) tables i k x = traps_clean fs (slice_set tables f.instance (after_close (table_at tables f.instance))) i k (now x) where
  closed : f.instance ≡ i → Clean (standing (slice_set tables f.instance (after_close (table_at tables f.instance))) i k)
  closed e =
      let here : standing (slice_set tables f.instance (after_close (table_at tables f.instance))) i k ≡ slot_after_close (standing tables f.instance k) =
      ap (λ j. standing (slice_set tables f.instance (after_close (table_at tables f.instance))) j k) (sym e) ∙ at_set tables f.instance k (after_close (table_at tables f.instance)) slot_after_close refl (map_at (table_at tables f.instance).slots k) in
      subst Clean (sym here) (clean_close (standing tables f.instance k))

  now : HasFrame (f ∷ fs) i ⊎ Clean (standing tables i k) → HasFrame fs i ⊎ Clean (standing (slice_set tables f.instance (after_close (table_at tables f.instance))) i k)
  now (inl (inl e)) = inr (closed e)
  now (inl (inr a)) = inl a
  now (inr c) = elim (cases_eq f.instance i) as (λ r. HasFrame fs i ⊎ Clean (standing (slice_set tables f.instance (after_close (table_at tables f.instance))) i k)) [
    | inl e ↦ inr (closed e)
    | inr ne ↦ inr (subst Clean (sym (at_other tables f.instance i k (after_close (table_at tables f.instance)) (λ e. ne (sym e)))) c)
  ]
