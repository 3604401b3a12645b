-- One more member of a chain.
use Rattle.std.proofs.Common.{◌≡◌, ℕ, zero, suc, ◌+◌, ◌-◌, ◌<◌, ◌≤◌, List, [], ◌∷◌, length, drop, get_or, Option, Some, None, refl, sym, ap, subst, ◌∙◌, arith}
use Rattle.std.proofs.Math.Seq.{drop-cons}
use Rattle.cm_types.specs.TypeTrees.{case_before}
use Rattle.cm_types.specs.Types.{Ty, Fields, Cases, field, plain, carrying}
use Rattle.cm_types_arena.specs.Arena.{field_types, payload_types}
use Rattle.cm_types_arena.specs.Replaced.{Standing, replaced, replaced_fields, replaced_cases}
use Rattle.cm_types_numbers.specs.declared.key.Key.{Key}
use Rattle.cm_types_numbers.specs.declared.key.Key.TheVariants as key
use Rattle.cm_types_numbers.specs.Numbering.{Numbering, over, over_two, over_three, number, number_fields, number_cases, number_labels, Extends, AreNumbers, HasNumber}
use Rattle.cm_types_numbers.proofs.Stays.{stays, stays_fields, stays_cases, stays_labels, extends_on}
use Rattle.cm_lemmas.proofs.Lists.{heads}

pub over_is : (t : Numbering) (k : ℕ → Key) (a : Option ℕ) (i : ℕ) → a ≡ Some i → over t k a ≡ t.node (k i)
over_is t k a i p = ap (over t k) p

pub over_two_is : (t : Numbering) (k : ℕ → ℕ → Key) (a b : Option ℕ) (i j : ℕ) → a ≡ Some i → b ≡ Some j → over_two t k a b ≡ t.node (k i j)
over_two_is t k a b i j p q = ap (λ (o : Option ℕ). over_two t k o b) p ∙ over_is t (k i) b j q

pub over_three_is : (t : Numbering) (k : ℕ → ℕ → ℕ → Key) (a b c : Option ℕ) (i j l : ℕ) → a ≡ Some i → b ≡ Some j → c ≡ Some l → over_three t k a b c ≡ t.node (k i j l)
over_three_is t k a b c i j l p q r = ap (λ (o : Option ℕ). over_three t k o b c) p ∙ over_two_is t (k i) b c j l q r

-- from one place on a list is the element there and the others
pub from_here : {A : Type 0} (xs : List A) (i : ℕ) (x d : A) → 0 < i → i - 1 < length xs → x ≡ get_or xs (i - 1) d → drop (i - 1) xs ≡ x ∷ drop i xs
from_here xs i x d some lt is =
    let again : suc (i - 1) ≡ i = omega arith in
    drop-cons xs (i - 1) d lt ∙ ap (λ y. y ∷ drop (suc (i - 1)) xs) (sym is) ∙ ap (λ (n : ℕ). x ∷ drop n xs) again

-- a table as a chain begins, as it stands at a member, as the label is looked up, and as the member is
module _ (start t u v : Numbering) (a : Extends start t) (b : Extends t u) (c : Extends u v) where
  pub all_kept : Extends start v
  all_kept = extends_on start t v a (extends_on t u v b c)

  -- a field in front of others
  pub field_step : (s : Standing) (l : List ℕ) (x : Ty) (fs : Fields) (m : ℕ) (ms : List ℕ) (others label n : ℕ)
      → (AreNumbers start s (field_types fs) ms → number_fields t (replaced_fields s fs) ≡ Some others)
      → u.label l ≡ Some label → v.node (key.Field label m others) ≡ Some n
      → AreNumbers start s (x ∷ field_types fs) (m ∷ ms) → number_fields v (replaced_fields s (field l x fs)) ≡ Some n
  field_step s l x fs m ms others label n h p k are =
      let two : (number start (replaced s x) ≡ Some m) × AreNumbers start s (field_types fs) ms = heads _ _ _ _ are in
      let ty = stays start v all_kept (replaced s x) m two.0 in
      let rest = stays_fields t v (extends_on t u v b c) (replaced_fields s fs) others (h two.1) in
      over_three_is v key.Field (v.label l) (number v (replaced s x)) (number_fields v (replaced_fields s fs)) label m others (c.labels l label p) ty rest ∙ k

  pub label_before : (ls : List (List ℕ)) (i : ℕ) (l : List ℕ) → 0 < i → i - 1 < length ls → l ≡ get_or ls (i - 1) l
      → (text : List ℕ) (others label n : ℕ) → number_labels t (drop i ls) ≡ Some others → text ≡ l → u.label text ≡ Some label → v.node (key.Plain label others) ≡ Some n → number_labels v (drop (i - 1) ls) ≡ Some n
  label_before ls i l some lt is text others label n h same p k =
      let rest = stays_labels t v (extends_on t u v b c) (drop i ls) others h in
      ap (number_labels v) (from_here ls i l l some lt is)
      ∙ over_two_is v key.Plain (v.label l) (number_labels v (drop i ls)) label others (c.labels l label (ap u.label (sym same) ∙ p)) rest
      ∙ k

-- ---- cases

-- a case in front of others, by its label and its payload
pub case_numbered : (t u v : Numbering) → Extends t u → Extends u v → (text : List ℕ) (label others n : ℕ) (x : Option Ty) (cs : Cases) (payload : Option ℕ) → u.label text ≡ Some label → HasNumber t x payload → number_cases t cs ≡ Some others
    → ((payload ≡ None → v.node (key.Plain label others) ≡ Some n) × ((ty : ℕ) → payload ≡ Some ty → v.node (key.Carrying label ty others) ≡ Some n)) → number_cases v (case_before text x cs) ≡ Some n
case_numbered t u v b c text label others n None cs None l has h k =
    over_two_is v key.Plain (v.label text) (number_cases v cs) label others (c.labels text label l) (stays_cases t v (extends_on t u v b c) cs others h) ∙ k.0 refl
case_numbered t u v b c text label others n None cs (Some ty) l has h k = absurd has
case_numbered t u v b c text label others n (Some x) cs None l has h k = absurd has
case_numbered t u v b c text label others n (Some x) cs (Some ty) l has h k =
    over_three_is v key.Carrying (v.label text) (number v x) (number_cases v cs) label ty others (c.labels text label l) (stays t v (extends_on t u v b c) x ty has) (stays_cases t v (extends_on t u v b c) cs others h) ∙ k.1 ty refl

-- from a start on a table grew: a case in front of others, by what is made of it
module _ (start t v : Numbering) (a : Extends start t) (s : Standing) (text : List ℕ) (R : Cases) (ms : List ℕ) (others n : ℕ)
    (h : AreNumbers start s (payload_types R) ms → number_cases t (replaced_cases s R) ≡ Some others) where
  pub plain_step : (D : Cases) → D ≡ plain text R
      → ((x : Option Ty) (cs : Cases) → HasNumber t x None → number_cases t cs ≡ Some others → number_cases v (case_before text x cs) ≡ Some n)
      → AreNumbers start s (payload_types D) ms → number_cases v (replaced_cases s D) ≡ Some n
  plain_step D e made are =
      let here : AreNumbers start s (payload_types R) ms = subst (λ (C : Cases). AreNumbers start s (payload_types C) ms) e are in
      ap (λ (C : Cases). number_cases v (replaced_cases s C)) e ∙ made None (replaced_cases s R) tt (h here)

  pub carrying_step : (D : Cases) (x : Ty) (m : ℕ) → D ≡ carrying text x R
      → ((y : Option Ty) (cs : Cases) → HasNumber t y (Some m) → number_cases t cs ≡ Some others → number_cases v (case_before text y cs) ≡ Some n)
      → AreNumbers start s (payload_types D) (m ∷ ms) → number_cases v (replaced_cases s D) ≡ Some n
  carrying_step D x m e made are =
      let here : AreNumbers start s (x ∷ payload_types R) (m ∷ ms) = subst (λ (C : Cases). AreNumbers start s (payload_types C) (m ∷ ms)) e are in
      let two : (number start (replaced s x) ≡ Some m) × AreNumbers start s (payload_types R) ms = heads _ _ _ _ here in
      ap (λ (C : Cases). number_cases v (replaced_cases s C)) e
      ∙ made (Some (replaced s x)) (replaced_cases s R) (stays start t a (replaced s x) m two.0) (h two.1)

-- a payload keeps its number
pub has_stays : (t u : Numbering) → Extends t u → (x : Option Ty) (n : Option ℕ) → HasNumber t x n → HasNumber u x n
has_stays t u e None None h = tt
has_stays t u e None (Some n) h = absurd h
has_stays t u e (Some x) None h = absurd h
has_stays t u e (Some x) (Some n) h = stays t u e x n h
