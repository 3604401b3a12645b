-- The node of a type, from the numbers of what it holds.
use Rattle.std.proofs.Common.{◌≡◌, ℕ, List, [], ◌∷◌, Option, Some, None, refl, sym, ap, subst, ◌∙◌, codes}
use Rattle.std.specs.Prelude.{slice_index}
use Rattle.cm_types.specs.TypeTrees.{case_before, plain_from}
use Rattle.cm_types.specs.Types.{Ty, FuncTy, Fields, Cases, list, fixed_list, fields, cases, flags, record_type, tuple_type, variant_type, enum_type, option_type, result_type, no_cases, plain, carrying}
use Rattle.cm_types_arena.specs.Arena.{field_types, payload_types, parts_in}
use Rattle.cm_types_arena.specs.Replaced.{Standing, replaced, replaced_fields, replaced_cases}
use Rattle.cm_types_numbers.specs.declared.key.Key.{Key}
use Rattle.cm_types_numbers.specs.declared.key.Key.TheVariants as key
use Rattle.cm_types_numbers.specs.Numbering.{Numbering, over, over_two, number, number_fields, number_cases, number_labels, number_of_signature, number_func, Extends, AreNumbers, HasNumber, result_cases}
use Rattle.cm_types_numbers.proofs.Stays.{stays, stays_fields, stays_cases, stays_labels}
use Rattle.cm_types_numbers.proofs.Steps.{over_is, over_two_is}
use Rattle.cm_lemmas.proofs.Lists.{heads}

-- labels are numbered as the cases that they are without payloads
pub plain_numbered : (t : Numbering) (s : Standing) (ls : List (List ℕ)) → number_cases t (replaced_cases s (plain_from ls)) ≡ number_labels t ls
plain_numbered t s [] = refl
plain_numbered t s (l ∷ ls) = ap (over_two t key.Plain (t.label l)) (plain_numbered t s ls)

-- the number of the first type that there is
first_number : (t : Numbering) (s : Standing) (x : Ty) (xs : List Ty) (ms : List ℕ) → AreNumbers t s (x ∷ xs) ms → number t (replaced s x) ≡ Some (slice_index ms 0)
first_number t s x xs [] are = absurd cc
first_number t s x xs (m ∷ ms) are = (heads _ (Some m) _ _ are).0

second_number : (t : Numbering) (s : Standing) (x y : Ty) (ms : List ℕ) → AreNumbers t s (x ∷ y ∷ []) ms → number t (replaced s y) ≡ Some (slice_index ms 1)
second_number t s x y [] are = absurd cc
second_number t s x y (m ∷ ms) are = first_number t s y [] ms (heads _ (Some m) _ _ are).1

-- a table, and what it grows into
module _ (t later : Numbering) (e : Extends t later) where
  pub part_node : (x : Ty) (m : ℕ) → number t x ≡ Some m → (k : ℕ → Key) → over later k (number later x) ≡ later.node (k m)
  part_node x m h k = over_is later k (number later x) m (stays t later e x m h)

  pub fields_node : (fs : Fields) (n : ℕ) → number_fields t fs ≡ Some n → (k : ℕ → Key) → over later k (number_fields later fs) ≡ later.node (k n)
  fields_node fs n h k = over_is later k (number_fields later fs) n (stays_fields t later e fs n h)

  pub cases_node : (cs : Cases) (n : ℕ) → number_cases t cs ≡ Some n → (k : ℕ → Key) → over later k (number_cases later cs) ≡ later.node (k n)
  cases_node cs n h k = over_is later k (number_cases later cs) n (stays_cases t later e cs n h)

  pub labels_node : (ls : List (List ℕ)) (n : ℕ) → number_labels t ls ≡ Some n → (k : ℕ → Key) → over later k (number_labels later ls) ≡ later.node (k n)
  labels_node ls n h k = over_is later k (number_labels later ls) n (stays_labels t later e ls n h)

  pub enum_node : (s : Standing) (ls : List (List ℕ)) (n : ℕ) → number_labels t ls ≡ Some n → (k : ℕ → Key) → over later k (number_cases later (replaced_cases s (plain_from ls))) ≡ later.node (k n)
  enum_node s ls n h k = ap (over later k) (plain_numbered later s ls) ∙ labels_node ls n h k

-- ---- types, by the numbers of what they hold

module _ (t later : Numbering) (e : Extends t later) (s : Standing) (y : Ty) (ms : List ℕ) (are : AreNumbers t s (parts_in y) ms) where
  pub list_numbered : (x : Ty) → y ≡ list x → number later (replaced s y) ≡ later.node (key.List (slice_index ms 0))
  list_numbered x p =
      ap (λ z. number later (replaced s z)) p
      ∙ part_node t later e (replaced s x) (slice_index ms 0) (first_number t s x [] ms (subst (λ z. AreNumbers t s (parts_in z) ms) p are)) key.List

  pub fixed_list_numbered : (x : Ty) (n : ℕ) → y ≡ fixed_list x n → number later (replaced s y) ≡ later.node (key.FixedList (slice_index ms 0) n)
  fixed_list_numbered x n p =
      ap (λ z. number later (replaced s z)) p
      ∙ part_node t later e (replaced s x) (slice_index ms 0) (first_number t s x [] ms (subst (λ z. AreNumbers t s (parts_in z) ms) p are)) (λ m. key.FixedList m n)

-- from a table to the one where what a type holds has a number, and on
module _ (t u later : Numbering) (e : Extends u later) (s : Standing) (y : Ty) (ms : List ℕ) (are : AreNumbers t s (parts_in y) ms) (n : ℕ) where
  pub record_numbered : (fs : Fields) → y ≡ fields record_type fs → (AreNumbers t s (field_types fs) ms → number_fields u (replaced_fields s fs) ≡ Some n)
      → number later (replaced s y) ≡ later.node (key.Record n)
  record_numbered fs p made =
      ap (λ z. number later (replaced s z)) p
      ∙ fields_node u later e (replaced_fields s fs) n (made (subst (λ z. AreNumbers t s (parts_in z) ms) p are)) key.Record

  pub tuple_numbered : (fs : Fields) → y ≡ fields tuple_type fs → (AreNumbers t s (field_types fs) ms → number_fields u (replaced_fields s fs) ≡ Some n)
      → number later (replaced s y) ≡ later.node (key.Tuple n)
  tuple_numbered fs p made =
      ap (λ z. number later (replaced s z)) p
      ∙ fields_node u later e (replaced_fields s fs) n (made (subst (λ z. AreNumbers t s (parts_in z) ms) p are)) key.Tuple

  pub variant_numbered : (cs : Cases) → y ≡ cases variant_type cs → (AreNumbers t s (payload_types cs) ms → number_cases u (replaced_cases s cs) ≡ Some n)
      → number later (replaced s y) ≡ later.node (key.Variant n)
  variant_numbered cs p made =
      ap (λ z. number later (replaced s z)) p
      ∙ cases_node u later e (replaced_cases s cs) n (made (subst (λ z. AreNumbers t s (parts_in z) ms) p are)) key.Variant

  pub result_numbered : (cs : Cases) → y ≡ cases result_type cs → (AreNumbers t s (payload_types cs) ms → number_cases u (replaced_cases s cs) ≡ Some n)
      → number later (replaced s y) ≡ later.node (key.Result n)
  result_numbered cs p made =
      ap (λ z. number later (replaced s z)) p
      ∙ cases_node u later e (replaced_cases s cs) n (made (subst (λ z. AreNumbers t s (parts_in z) ms) p are)) key.Result

  pub enum_numbered : (ls : List (List ℕ)) → y ≡ cases enum_type (plain_from ls) → number_labels u ls ≡ Some n → number later (replaced s y) ≡ later.node (key.Enum n)
  enum_numbered ls p made = ap (λ z. number later (replaced s z)) p ∙ enum_node u later e s ls n made key.Enum

  pub flags_numbered : (ls : List (List ℕ)) → y ≡ flags ls → number_labels u ls ≡ Some n → number later (replaced s y) ≡ later.node (key.Flags n)
  flags_numbered ls p made = ap (λ z. number later (replaced s z)) p ∙ labels_node u later e ls n made key.Flags

  pub option_numbered : (x : Ty) → y ≡ cases option_type (plain (codes "none") (carrying (codes "some") x no_cases))
      → ((a b : Option Ty) → HasNumber t a None → HasNumber t b (Some (slice_index ms 0)) → number_cases u (case_before (codes "none") a (case_before (codes "some") b no_cases)) ≡ Some n)
      → number later (replaced s y) ≡ later.node (key.Option n)
  option_numbered x p made =
      let h : number_cases u (plain (codes "none") (carrying (codes "some") (replaced s x) no_cases)) ≡ Some n = made None (Some (replaced s x)) tt (first_number t s x [] ms (subst (λ z. AreNumbers t s (parts_in z) ms) p are)) in
      ap (λ z. number later (replaced s z)) p
      ∙ cases_node u later e (plain (codes "none") (carrying (codes "some") (replaced s x) no_cases)) n h key.Option

-- the cases of a result, of which one or both carry something
module _ (t u : Numbering) (s : Standing) (ms : List ℕ) (n : ℕ) where
  abbrev Numbered : Option Ty → Option Ty → Type 0
  Numbered p q = AreNumbers t s (payload_types (result_cases p q)) ms → number_cases u (replaced_cases s (result_cases p q)) ≡ Some n

  at_both : (p q a b : Option Ty) → p ≡ a → q ≡ b → Numbered a b → Numbered p q
  at_both p q a b is is_too h = subst (λ o. Numbered o q) (sym is) (subst (λ o. Numbered a o) (sym is_too) h)

  abbrev Made : Option ℕ → Option ℕ → Type 0
  Made i j = (a b : Option Ty) → HasNumber t a i → HasNumber t b j → number_cases u (case_before (codes "ok") a (case_before (codes "error") b no_cases)) ≡ Some n

  pub only_error : (p q : Option Ty) (y : Ty) → p ≡ None → q ≡ Some y → Made None (Some (slice_index ms 0)) → Numbered p q
  only_error p q y is is_too made = at_both p q None (Some y) is is_too (λ are. made None (Some (replaced s y)) tt (first_number t s y [] ms are))

  pub only_ok : (p q : Option Ty) (x : Ty) → p ≡ Some x → q ≡ None → Made (Some (slice_index ms 0)) None → Numbered p q
  only_ok p q x is is_too made = at_both p q (Some x) None is is_too (λ are. made (Some (replaced s x)) None (first_number t s x [] ms are) tt)

  pub ok_and_error : (p q : Option Ty) (x y : Ty) → p ≡ Some x → q ≡ Some y → Made (Some (slice_index ms 0)) (Some (slice_index ms 1)) → Numbered p q
  ok_and_error p q x y is is_too made = at_both p q (Some x) (Some y) is is_too (λ are. made (Some (replaced s x)) (Some (replaced s y)) (first_number t s x (y ∷ []) ms are) (second_number t s x y ms are))

-- ---- functions

pub procedure_numbered : (t later : Numbering) → Extends t later → (f : FuncTy) (params n : ℕ) → f.result ≡ None → number_fields t f.params ≡ Some params → later.node (key.FuncWithoutResult params) ≡ Some n → number_func later f ≡ Some n
procedure_numbered t later e f params n is h k =
    ap (λ (o : Option Ty). number_of_signature later (number_fields later f.params) o) is
    ∙ fields_node t later e f.params params h (λ m. key.FuncWithoutResult m) ∙ k

pub func_numbered : (t later : Numbering) → Extends t later → (f : FuncTy) (x : Ty) (params m n : ℕ) → f.result ≡ Some x → number later x ≡ Some m → number_fields t f.params ≡ Some params → later.node (key.Func params m) ≡ Some n → number_func later f ≡ Some n
func_numbered t later e f x params m n is ty h k =
    ap (λ (o : Option Ty). number_of_signature later (number_fields later f.params) o) is
    ∙ over_two_is later key.Func (number_fields later f.params) (number later x) params m (stays_fields t later e f.params params h) ty
    ∙ k
