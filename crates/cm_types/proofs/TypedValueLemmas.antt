-- What the test for values of a type computes on cases and flags.
use Rattle.std.proofs.Common.{◌≡◌, ◌≢◌, ℕ, zero, suc, ◌<◌, ◌≤◌, ◌^◌, Bool, true, false, ◌&&◌, ◌==◌, List, [], ◌∷◌, length, map, Option, Some, None, Box, Global, refl, sym, ap, ◌∙◌, arith, rules, nat_lt, get_or}
use Rattle.std.proofs.Math.Pow.{pow_mono}
use Rattle.std.proofs.lemmas.Bool.{lt-ltb, le-ltb, ne_eqb, and_parts, and_from}
use Rattle.std.proofs.lemmas.Bool.Decides.{nat_tests}
use Rattle.std.specs.Char.{IsScalar}
use Rattle.std.specs.List.{list_all}
use Rattle.std.specs.Str.{chars}
use Rattle.std.specs.String.{string_bytes}
use Rattle.std.specs.declared.string.String.{String}
use lib.Utf8.{scalar_cases, scalars}
use Rattle.cm_types.specs.Types.{Ty, Cases, CasesKind, cases, no_cases, plain, carrying, enum_type, option_type, result_type}
use Rattle.cm_types.specs.TypeTrees.{CaseOf, TypedLabel, fields_from, parts_from, cases_from, plain_from, case_before}
use Rattle.cm_types.specs.Values.{Val, bare, bearing, text, count_of}
use Rattle.cm_types.specs.ValueTrees.{value_of, vals_from, boxed_value, payload_value}
use Rattle.cm_types.specs.TypedValues.{has_type, have_types, is_scalar_value, payload_has_type}
use Rattle.cm_types.specs.declared.values.Value.{Value, the_lemmas}
use Rattle.cm_types.specs.declared.values.Value.TheViews as value
use Rattle.cm_types.specs.declared.values.Value.TheVariants as leaf

pub seen_Case : (i : ℕ) (p : Option (Box Value Global)) → value_of (value.Case i p) ≡ payload_value i (boxed_value p)
seen_Case i None = search (rules, the_lemmas)
seen_Case i (Some b) = search (rules, the_lemmas)

pub all_flags : (bits labels : ℕ) → bits < 2 ^ 32 → 32 ≤ labels → nat_lt bits (2 ^ labels) ≡ true
all_flags bits labels small many = lt-ltb bits (2 ^ labels) (omega (arith, pow_mono {i = 32} {j = labels} many))

pub ruleset flags = (all_flags)

and_no : (a b : Bool) → false ≡ b → false ≡ (a && b)
and_no true b e = e
and_no false b e = refl

-- the first of cases, and the others
pub before_zero : (k : CasesKind) (l : List ℕ) (o : Option Ty) (cs : Cases) (v : Option Val) → has_type (cases k (case_before l o cs)) (payload_value zero v) ≡ payload_has_type o v
before_zero k l None cs None = refl
before_zero k l None cs (Some v) = refl
before_zero k l (Some t) cs None = refl
before_zero k l (Some t) cs (Some v) = refl

pub before_suc : (k : CasesKind) (l : List ℕ) (o : Option Ty) (cs : Cases) (i : ℕ) (v : Option Val) → has_type (cases k (case_before l o cs)) (payload_value (suc i) v) ≡ has_type (cases k cs) (payload_value i v)
before_suc k l None cs i None = refl
before_suc k l None cs i (Some v) = refl
before_suc k l (Some t) cs i None = refl
before_suc k l (Some t) cs i (Some v) = refl

pub no_case : (k : CasesKind) (i : ℕ) (v : Option Val) → has_type (cases k no_cases) (payload_value i v) ≡ false
no_case k i None = refl
no_case k i (Some v) = refl

-- the case of a number, if it is there
pub case_there : {X : Type 0} (f : X → CaseOf) (k : CasesKind) (xs : List X) (i : ℕ) (x : X) (v : Option Val) → i < length xs → x ≡ get_or xs i x → has_type (cases k (cases_from (map f xs))) (payload_value i v) ≡ payload_has_type (f x).1 v
case_there f k [] i x v within e = absurd (omega arith)
case_there f k (y ∷ xs) zero x v within e = before_zero k (f y).0 (f y).1 (cases_from (map f xs)) v ∙ ap (λ z. payload_has_type (f z).1 v) (sym e)
case_there f k (y ∷ xs) (suc i) x v within e = before_suc k (f y).0 (f y).1 (cases_from (map f xs)) i v ∙ case_there f k xs i x v (omega arith) e

pub case_past : {X : Type 0} (f : X → CaseOf) (k : CasesKind) (xs : List X) (i : ℕ) (v : Option Val) → length xs ≤ i → has_type (cases k (cases_from (map f xs))) (payload_value i v) ≡ false
case_past f k [] i v past = no_case k i v
case_past f k (y ∷ xs) zero v past = absurd (omega arith)
case_past f k (y ∷ xs) (suc i) v past = before_suc k (f y).0 (f y).1 (cases_from (map f xs)) i v ∙ case_past f k xs i v (omega arith)

-- as many values as there are in the list
pub count_of_list : {X : Type 0} (f : X → Val) (xs : List X) → count_of (vals_from (map f xs)) ≡ length xs
count_of_list f [] = refl
count_of_list f (x ∷ xs) = omega (arith, count_of_list f xs)

pub fields_unequal : {X Y : Type 0} (f : X → TypedLabel) (g : Y → Val) (xs : List X) (ys : List Y) → length xs ≢ length ys → false ≡ have_types (fields_from (map f xs)) (vals_from (map g ys))
fields_unequal f g [] [] n = absurd (n refl)
fields_unequal f g [] (y ∷ ys) n = refl
fields_unequal f g (x ∷ xs) [] n = refl
fields_unequal f g (x ∷ xs) (y ∷ ys) n = and_no (has_type (f x).1 (g y)) _ (fields_unequal f g xs ys (λ e. n (omega arith)))

pub parts_unequal : {X Y : Type 0} (f : X → Ty) (g : Y → Val) (xs : List X) (ys : List Y) → length xs ≢ length ys → false ≡ have_types (parts_from (map f xs)) (vals_from (map g ys))
parts_unequal f g [] [] n = absurd (n refl)
parts_unequal f g [] (y ∷ ys) n = refl
parts_unequal f g (x ∷ xs) [] n = refl
parts_unequal f g (x ∷ xs) (y ∷ ys) n = and_no (has_type (f x) (g y)) _ (parts_unequal f g xs ys (λ e. n (omega arith)))

-- the scalars of a text
pub scalars_of_text : (cs : List ℕ) → scalars cs ≡ true → true ≡ list_all is_scalar_value cs
scalars_of_text [] h = refl
scalars_of_text (c ∷ cs) h =
    let p = and_parts _ _ h in
    sym (and_from _ _ (scalar_is c p.0) (sym (scalars_of_text cs p.1)))
  where
    scalar_is : (c : ℕ) → IsScalar c → is_scalar_value c ≡ true
    scalar_is c is = grind (arith, nat_tests, scalar_cases c is)

pub seen_String : (s : String Global) → value_of (leaf.String s) ≡ text (chars (string_bytes s))
seen_String s = search (rules, the_lemmas)

-- enums
pub enum_bare : (ls : List (List ℕ)) (i : ℕ) → has_type (cases enum_type (plain_from ls)) (bare i) ≡ nat_lt i (length ls)
enum_bare [] i = sym (le-ltb i 0 (omega arith))
enum_bare (l ∷ ls) zero = sym (lt-ltb 0 (length (l ∷ ls)) (omega arith))
enum_bare (l ∷ ls) (suc i) = enum_bare ls i ∙ below_suc i (length ls)
  where
    below_suc : (i n : ℕ) → nat_lt i n ≡ nat_lt (suc i) (suc n)
    below_suc i n = grind (arith, nat_tests)

pub enum_bearing : (ls : List (List ℕ)) (i : ℕ) (v : Val) → has_type (cases enum_type (plain_from ls)) (bearing i v) ≡ false
enum_bearing [] i v = refl
enum_bearing (l ∷ ls) zero v = refl
enum_bearing (l ∷ ls) (suc i) v = enum_bearing ls i v

-- options
pub option_bare : (k l : List ℕ) (t : Ty) (i : ℕ) → has_type (cases option_type (plain k (carrying l t no_cases))) (bare i) ≡ (i == 0)
option_bare k l t zero = refl
option_bare k l t (suc zero) = refl
option_bare k l t (suc (suc i)) = sym (ne_eqb (suc (suc i)) 0 (λ e. omega arith))

pub option_bearing : (k l : List ℕ) (t : Ty) (i : ℕ) (v : Val) → has_type (cases option_type (plain k (carrying l t no_cases))) (bearing i v) ≡ ((i == 1) && has_type t v)
option_bearing k l t zero v = refl
option_bearing k l t (suc zero) v = refl
option_bearing k l t (suc (suc i)) v = rw (ne_eqb (suc (suc i)) 1 (λ e. omega arith)) refl

-- results
pub result_past : (k l : List ℕ) (ok error : Option Ty) (i : ℕ) (v : Option Val) → i ≢ 0 → i ≢ 1 → has_type (cases result_type (case_before k ok (case_before l error no_cases))) (payload_value i v) ≡ false
result_past k l ok error zero v a b = absurd (a refl)
result_past k l ok error (suc zero) v a b = absurd (b refl)
result_past k l ok error (suc (suc i)) v a b =
    before_suc result_type k ok (case_before l error no_cases) (suc i) v ∙ (before_suc result_type l error no_cases i v ∙ no_case result_type i v)
