-- What written types and definitions stand for.
use Rattle.std.proofs.Common.{◌≡◌, ℕ, ◌<◌, ◌≤◌, ◌&&◌, not, nat_lt, nat_le, Bool, true, List, [], ◌∷◌, length, refl, Option, Some, None, arith}
use Rattle.std.proofs.lemmas.Bool.Decides.{nat_tests}
use Rattle.std.specs.List.{AllByRecursion}
use Rattle.std.specs.Option.{IfSome, option_map, option_and_then}
use Rattle.std.proofs.lemmas.Bool.{and_from}
use Rattle.cm_types.specs.declared.spellable.TheConstants.{MAX_FLAGS}
use Rattle.cm_types.specs.declared.resource.ResourceId.{ResourceId}
use Rattle.cm_types.specs.Types as types
use Rattle.cm_types.specs.Spellable.{is_spellable, are_spellable, are_spellable_payloads, is_spellable_payload, has_no_cases}
use Rattle.cm_types.specs.TypeTrees.{TypedLabel, CaseOf, fields_from, parts_from, cases_from, case_before, plain_from}
use Rattle.cm_wit_reading.specs.Types as wit
use Rattle.cm_wit_reading.specs.Signatures.{Typed, Func}
use Rattle.cm_wit_reading.specs.declared.types.Primitive.{Primitive}
use Rattle.cm_wit_reading.specs.declared.types.Primitive.TheVariants as primitive_is
use Rattle.cm_wit_reading.specs.Trees.{Case, TypeDef, alias, record_of, variant, enum, flags, resource, ResourceFunc, method, static, constructor}
use Rattle.cm_wit_meanings.specs.Meanings as meant
use Rattle.cm_wit_meanings.specs.Meanings.{meaning, meanings, each_meaning, typed_meaning, case_meaning, payload_meaning, def_meaning, option_of, result_of, tuple_of, variant_of, primitive_type, func_meaning, with_self, resource_func_meaning}
use Rattle.cm_wit_meanings.specs.Faults.{is_func_spellable}
use Rattle.cm_wit_meanings.specs.Scopes.{Scope, Meaning, value, as_type, as_resource}
use Rattle.cm_wit_signature.specs.Written.{IsWritten, AreWritten, IsWrittenDef, NamesSpellable}
use Rattle.cm_wit_signature.specs.Files.{IsWrittenFunc, IsWrittenResourceFunc}
use Rattle.cm_types.proofs.SpellableLemmas.{plain_spellable}

abbrev types_func : types.Fields → Option types.Ty → types.FuncTy
types_func ps t = record { params = ps; result = t }

abbrev pub Spelled : types.Ty → Type 0
Spelled x = is_spellable x ≡ true

below : (n : ℕ) → 0 < n → nat_lt 0 n ≡ true
below n h = grind (arith, nat_tests, h)

at_most : (n m : ℕ) → n ≤ m → nat_le n m ≡ true
at_most n m h = grind (arith, nat_tests, h)

primitive_spelled : (p : Primitive) → Spelled (primitive_type p)
primitive_spelled primitive_is.Bool = refl
primitive_spelled primitive_is.S8 = refl
primitive_spelled primitive_is.S16 = refl
primitive_spelled primitive_is.S32 = refl
primitive_spelled primitive_is.S64 = refl
primitive_spelled primitive_is.U8 = refl
primitive_spelled primitive_is.U16 = refl
primitive_spelled primitive_is.U32 = refl
primitive_spelled primitive_is.U64 = refl
primitive_spelled primitive_is.Char = refl
primitive_spelled primitive_is.String = refl

named_spelled : (o : Option Meaning) → ((m : Meaning) → o ≡ Some m → Spelled (as_type m)) → IfSome (option_map as_type o) Spelled
named_spelled None h = tt {0}
named_spelled (Some m) h = h m refl

borrow_spelled : (o : Option ResourceId) → IfSome (option_map types.borrow o) Spelled
borrow_spelled None = tt {0}
borrow_spelled (Some r) = refl

mapped : (f : types.Ty → types.Ty) (o : Option types.Ty) → ((x : types.Ty) → Spelled x → Spelled (f x)) → IfSome o Spelled → IfSome (option_map f o) Spelled
mapped f None h p = tt {0}
mapped f (Some x) h p = h x p

two : (f : types.Ty → types.Ty → types.Ty) (a b : Option types.Ty) → ((x y : types.Ty) → Spelled x → Spelled y → Spelled (f x y)) → IfSome a Spelled → IfSome b Spelled → IfSome (option_and_then (λ x. option_map (λ y. f x y) b) a) Spelled
two f None b h p q = tt {0}
two f (Some x) None h p q = tt {0}
two f (Some x) (Some y) h p q = h x y p q

AreSpelled : List types.Ty → Type 0
AreSpelled xs = are_spellable (parts_from xs) ≡ true

before : (o : Option types.Ty) (os : Option (List types.Ty)) → IfSome o Spelled → IfSome os (λ xs. are_spellable (parts_from xs) ≡ true) → IfSome (option_and_then (λ x. option_map (λ xs. x ∷ xs) os) o) (λ xs. are_spellable (parts_from xs) ≡ true)
before None os p q = tt {0}
before (Some x) None p q = tt {0}
before (Some x) (Some xs) p q = and_from (is_spellable x) (are_spellable (parts_from xs)) p q

tupled : (o : Option types.Ty) (os : Option (List types.Ty)) → IfSome o Spelled → IfSome os (λ xs. are_spellable (parts_from xs) ≡ true) → IfSome (option_map tuple_of (option_and_then (λ x. option_map (λ xs. x ∷ xs) os) o)) Spelled
tupled None os p q = tt {0}
tupled (Some x) None p q = tt {0}
tupled (Some x) (Some xs) p q = and_from (is_spellable x) (are_spellable (parts_from xs)) p q

with_true : (b : Bool) → b ≡ true → (b && true) ≡ true
with_true b p = and_from b true p refl

mutual
  pub meaning_spelled : (s : Scope) → NamesSpellable s → (t : wit.Ty) → IsWritten t → IfSome (meaning s t) (λ x. is_spellable x ≡ true)
  meaning_spelled s names (wit.primitive p) w = primitive_spelled p
  meaning_spelled s names (wit.named n) w = named_spelled (s n) (λ m e. names n m e)
  meaning_spelled s names (wit.borrow n) w = borrow_spelled (option_and_then as_resource (s n))
  meaning_spelled s names (wit.list t) w = mapped types.list (meaning s t) (λ x p. p) (meaning_spelled s names t w)
  meaning_spelled s names (wit.fixed_list t n) w = mapped (λ x. types.fixed_list x n) (meaning s t) (λ x p. and_from (nat_lt 0 n) (is_spellable x) (below n w.0) p) (meaning_spelled s names t w.1)
  meaning_spelled s names (wit.option t) w = mapped option_of (meaning s t) (λ x p. with_true (is_spellable x) p) (meaning_spelled s names t w)
  meaning_spelled s names (wit.tuple wit.no_types) w = absurd w.0
  meaning_spelled s names (wit.tuple (wit.types t ts)) w = tupled (meaning s t) (meanings s ts) (meaning_spelled s names t w.1.0) (meanings_spelled s names ts w.1.1)
  meaning_spelled s names wit.plain_result w = refl
  meaning_spelled s names (wit.ok_result t) w = mapped (λ x. result_of (Some x) None) (meaning s t) (λ x p. with_true (is_spellable x) p) (meaning_spelled s names t w)
  meaning_spelled s names (wit.error_result t) w = mapped (λ x. result_of None (Some x)) (meaning s t) (λ x p. with_true (is_spellable x) p) (meaning_spelled s names t w)
  meaning_spelled s names (wit.result t u) w = two (λ x y. result_of (Some x) (Some y)) (meaning s t) (meaning s u) (λ x y p q. and_from (is_spellable x) (is_spellable y && true) p (with_true (is_spellable y) q)) (meaning_spelled s names t w.0) (meaning_spelled s names u w.1)

  meanings_spelled : (s : Scope) → NamesSpellable s → (ts : wit.Tys) → AreWritten ts → IfSome (meanings s ts) (λ xs. are_spellable (parts_from xs) ≡ true)
  meanings_spelled s names wit.no_types w = refl
  meanings_spelled s names (wit.types t ts) w = before (meaning s t) (meanings s ts) (meaning_spelled s names t w.0) (meanings_spelled s names ts w.1)

-- ---- definitions

SpelledValue : Meaning → Type 0
SpelledValue m = is_spellable (as_type m) ≡ true

aliased : (o : Option types.Ty) → IfSome o Spelled → IfSome (option_map value o) (λ m. is_spellable (as_type m) ≡ true)
aliased None p = tt {0}
aliased (Some x) p = p

labelled : (l : List ℕ) (o : Option types.Ty) → IfSome o Spelled → IfSome (option_map (λ t. (l, t)) o) (λ (f : TypedLabel). is_spellable f.1 ≡ true)
labelled l None p = tt {0}
labelled l (Some x) p = p

field_before : (o : Option TypedLabel) (os : Option (List TypedLabel)) → IfSome o (λ f. is_spellable f.1 ≡ true) → IfSome os (λ fs. are_spellable (fields_from fs) ≡ true) → IfSome (option_and_then (λ y. option_map (λ ys. y ∷ ys) os) o) (λ fs. are_spellable (fields_from fs) ≡ true)
field_before None os p q = tt {0}
field_before (Some f) None p q = tt {0}
field_before (Some f) (Some fs) p q = and_from (is_spellable f.1) (are_spellable (fields_from fs)) p q

record_before : (o : Option TypedLabel) (os : Option (List TypedLabel)) → IfSome o (λ f. is_spellable f.1 ≡ true) → IfSome os (λ fs. are_spellable (fields_from fs) ≡ true) → IfSome (option_map value (option_map meant.record_of (option_and_then (λ y. option_map (λ ys. y ∷ ys) os) o))) (λ m. is_spellable (as_type m) ≡ true)
record_before None os p q = tt {0}
record_before (Some f) None p q = tt {0}
record_before (Some f) (Some fs) p q = and_from (is_spellable f.1) (are_spellable (fields_from fs)) p q

fields_spelled : (s : Scope) → NamesSpellable s → (fs : List Typed) → AllByRecursion (λ f. IsWritten f.1) fs → IfSome (each_meaning (typed_meaning s) fs) (λ xs. are_spellable (fields_from xs) ≡ true)
fields_spelled s names [] w = refl
fields_spelled s names (f ∷ fs) w = field_before (typed_meaning s f) (each_meaning (typed_meaning s) fs) (labelled f.0 (meaning s f.1) (meaning_spelled s names f.1 w.0)) (fields_spelled s names fs w.1)

record_spelled : (s : Scope) → NamesSpellable s → (fs : List Typed) → 0 < length fs → AllByRecursion (λ f. IsWritten f.1) fs → IfSome (option_map value (option_map meant.record_of (each_meaning (typed_meaning s) fs))) (λ m. is_spellable (as_type m) ≡ true)
record_spelled s names [] some w = absurd (omega (arith, some))
record_spelled s names (f ∷ fs) some w = record_before (typed_meaning s f) (each_meaning (typed_meaning s) fs) (labelled f.0 (meaning s f.1) (meaning_spelled s names f.1 w.0)) (fields_spelled s names fs w.1)

-- a payload of a case
PayloadSpelled : CaseOf → Type 0
PayloadSpelled c = IfSome c.1 Spelled

case_spelled : (s : Scope) → NamesSpellable s → (c : Case) → IfSome c.ty IsWritten → IfSome (case_meaning s c) (λ (x : CaseOf). IfSome x.1 Spelled)
case_spelled s names c w = by c.ty w
  where
    carried : (o : Option types.Ty) → IfSome o Spelled → IfSome (option_map (λ p. (c.name, p)) (option_map Some o)) (λ (x : CaseOf). IfSome x.1 Spelled)
    carried None p = tt {0}
    carried (Some x) p = p

    by : (o : Option wit.Ty) → IfSome o IsWritten → IfSome (option_map (λ p. (c.name, p)) (payload_meaning s o)) (λ (x : CaseOf). IfSome x.1 Spelled)
    by None w = tt {0}
    by (Some t) w = carried (meaning s t) (meaning_spelled s names t w)

one_case : (l : List ℕ) (p : Option types.Ty) (cs : types.Cases) → IfSome p Spelled → are_spellable_payloads cs ≡ true → are_spellable_payloads (case_before l p cs) ≡ true
one_case l None cs p q = q
one_case l (Some x) cs p q = and_from (is_spellable x) (are_spellable_payloads cs) p q

is_case : (l : List ℕ) (p : Option types.Ty) (cs : types.Cases) → not (has_no_cases (case_before l p cs)) ≡ true
is_case l None cs = refl
is_case l (Some x) cs = refl

case_first : (o : Option CaseOf) (os : Option (List CaseOf)) → IfSome o (λ (c : CaseOf). IfSome c.1 Spelled) → IfSome os (λ cs. are_spellable_payloads (cases_from cs) ≡ true) → IfSome (option_and_then (λ y. option_map (λ ys. y ∷ ys) os) o) (λ cs. are_spellable_payloads (cases_from cs) ≡ true)
case_first None os p q = tt {0}
case_first (Some c) None p q = tt {0}
case_first (Some c) (Some cs) p q = one_case c.0 c.1 (cases_from cs) p q

variant_first : (o : Option CaseOf) (os : Option (List CaseOf)) → IfSome o (λ (c : CaseOf). IfSome c.1 Spelled) → IfSome os (λ cs. are_spellable_payloads (cases_from cs) ≡ true) → IfSome (option_map value (option_map variant_of (option_and_then (λ y. option_map (λ ys. y ∷ ys) os) o))) (λ m. is_spellable (as_type m) ≡ true)
variant_first None os p q = tt {0}
variant_first (Some c) None p q = tt {0}
variant_first (Some c) (Some cs) p q = and_from (not (has_no_cases (case_before c.0 c.1 (cases_from cs)))) (are_spellable_payloads (case_before c.0 c.1 (cases_from cs))) (is_case c.0 c.1 (cases_from cs)) (one_case c.0 c.1 (cases_from cs) p q)

cases_spelled : (s : Scope) → NamesSpellable s → (cs : List Case) → AllByRecursion (λ c. IfSome c.ty IsWritten) cs → IfSome (each_meaning (case_meaning s) cs) (λ xs. are_spellable_payloads (cases_from xs) ≡ true)
cases_spelled s names [] w = refl
cases_spelled s names (c ∷ cs) w = case_first (case_meaning s c) (each_meaning (case_meaning s) cs) (case_spelled s names c w.0) (cases_spelled s names cs w.1)

variant_spelled : (s : Scope) → NamesSpellable s → (cs : List Case) → 0 < length cs → AllByRecursion (λ c. IfSome c.ty IsWritten) cs → IfSome (option_map value (option_map variant_of (each_meaning (case_meaning s) cs))) (λ m. is_spellable (as_type m) ≡ true)
variant_spelled s names [] some w = absurd (omega (arith, some))
variant_spelled s names (c ∷ cs) some w = variant_first (case_meaning s c) (each_meaning (case_meaning s) cs) (case_spelled s names c w.0) (cases_spelled s names cs w.1)

enum_spelled : (ls : List (List ℕ)) → 0 < length ls → is_spellable (types.cases types.enum_type (plain_from ls)) ≡ true
enum_spelled [] some = absurd (omega (arith, some))
enum_spelled (l ∷ ls) some = plain_spellable ls

pub def_spelled : (s : Scope) → NamesSpellable s → (r : ResourceId) (d : TypeDef) → IsWrittenDef d → IfSome (def_meaning s r d) (λ m. is_spellable (as_type m) ≡ true)
def_spelled s names r (alias t) w = aliased (meaning s t) (meaning_spelled s names t w)
def_spelled s names r (record_of fs) w = record_spelled s names fs w.0 w.1
def_spelled s names r (variant cs) w = variant_spelled s names cs w.0 w.1
def_spelled s names r (enum ls) w = enum_spelled ls w
def_spelled s names r (flags ls) w = and_from (nat_lt 0 (length ls)) (nat_le (length ls) MAX_FLAGS) (below (length ls) w.0) (at_most (length ls) MAX_FLAGS w.1)
def_spelled s names r (resource fs) w = refl

-- ---- functions

payload_spelled : (s : Scope) → NamesSpellable s → (o : Option wit.Ty) → IfSome o IsWritten → IfSome (payload_meaning s o) (λ p. is_spellable_payload p ≡ true)
payload_spelled s names None w = refl
payload_spelled s names (Some t) w = by (meaning s t) (meaning_spelled s names t w)
  where
    by : (m : Option types.Ty) → IfSome m Spelled → IfSome (option_map Some m) (λ (p : Option types.Ty). is_spellable_payload p ≡ true)
    by None p = tt {0}
    by (Some x) p = p

func_made : (ps : Option (List TypedLabel)) (t : Option (Option types.Ty)) → IfSome ps (λ xs. are_spellable (fields_from xs) ≡ true) → IfSome t (λ x. is_spellable_payload x ≡ true)
    → IfSome (option_and_then (λ (xs : List TypedLabel). option_map (λ (x : Option types.Ty). types_func (fields_from xs) x) t) ps) (λ f. is_func_spellable f ≡ true)
func_made None t p q = tt {0}
func_made (Some xs) None p q = tt {0}
func_made (Some xs) (Some x) p q = and_from (are_spellable (fields_from xs)) (is_spellable_payload x) p q

pub func_spelled : (s : Scope) → NamesSpellable s → (f : Func) → IsWrittenFunc f → IfSome (func_meaning s f) (λ t. is_func_spellable t ≡ true)
func_spelled s names f w = func_made (each_meaning (typed_meaning s) f.params) (payload_meaning s f.result) (fields_spelled s names f.params w.0) (payload_spelled s names f.result w.1)

with_self_spelled : (r : ResourceId) (f : Option types.FuncTy) → IfSome f (λ t. is_func_spellable t ≡ true) → IfSome (option_map (with_self r) f) (λ t. is_func_spellable t ≡ true)
with_self_spelled r None p = tt {0}
with_self_spelled r (Some f) p = p

constructor_made : (r : ResourceId) (ps : Option (List TypedLabel)) → IfSome ps (λ xs. are_spellable (fields_from xs) ≡ true)
    → IfSome (option_map (λ (xs : List TypedLabel). types_func (fields_from xs) (Some (types.own r))) ps) (λ f. is_func_spellable f ≡ true)
constructor_made r None p = tt {0}
constructor_made r (Some xs) p = with_true (are_spellable (fields_from xs)) p

pub resource_func_spelled : (s : Scope) → NamesSpellable s → (r : ResourceId) (f : ResourceFunc) → IsWrittenResourceFunc f → IfSome (resource_func_meaning s r f) (λ t. is_func_spellable t ≡ true)
resource_func_spelled s names r (method n f) w = with_self_spelled r (func_meaning s f) (func_spelled s names f w)
resource_func_spelled s names r (static n f) w = func_spelled s names f w
resource_func_spelled s names r (constructor ps) w = constructor_made r (each_meaning (typed_meaning s) ps) (fields_spelled s names ps w)
