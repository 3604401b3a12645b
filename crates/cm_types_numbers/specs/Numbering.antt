-- The numbers of types in a table that numbers labels and nodes.
use Rattle.std.specs.Prelude.{◌≡◌, ◌↔◌, ℕ, ◌<◌, List, [], ◌∷◌, length, map, slice_index, Option}
use Rattle.std.specs.Prelude.{Some, None, codes}
use Rattle.std.specs.Option.{option_and_then}
use Rattle.cm_names.specs.TextNumbers.{number_of}
use Rattle.cm_types.specs.Types.{Ty, FuncTy, Fields, Cases, bool, signed, unsigned, char, string}
use Rattle.cm_types.specs.Types.{list, fixed_list, fields, cases, flags, own, borrow, no_fields}
use Rattle.cm_types.specs.Types.{field, no_cases, plain, carrying, record_type, tuple_type}
use Rattle.cm_types.specs.Types.{variant_type, enum_type, option_type, result_type, bits_8}
use Rattle.cm_types.specs.Types.{bits_16, bits_32, bits_64}
use Rattle.cm_types.specs.TypeTrees.{case_before}
use Rattle.cm_types_arena.specs.TypeDefs.{func_at, type_at}
use Rattle.cm_types_arena.specs.Replaced.{Standing, replaced, replaced_func}
use Rattle.cm_types_numbers.specs.declared.key.Key.{Key}
use Rattle.cm_types_numbers.specs.declared.key.Key.TheVariants as key
use Rattle.cm_types_numbers.specs.declared.key.Leaf.TheVariants as leaf
use Rattle.std.specs.BTreeMap.{get}
use Rattle.cm_types_numbers.specs.declared.numbers.Numbers.{Numbers}
use Rattle.cm_types_numbers.specs.Tables.{key_order}

-- the numbers of labels and of nodes
pub record Numbering : Type 0 where
  pub label : List ℕ → Option ℕ
  pub node : Key → Option ℕ

-- the node over one part, over two and over three, if these have numbers
abbrev pub over : Numbering → (ℕ → Key) → Option ℕ → Option ℕ
over t k a = option_and_then (λ m. t.node (k m)) a

abbrev pub over_two : Numbering → (ℕ → ℕ → Key) → Option ℕ → Option ℕ → Option ℕ
over_two t k a b = option_and_then (λ m. over t (k m) b) a

abbrev pub over_three : Numbering → (ℕ → ℕ → ℕ → Key) → Option ℕ → Option ℕ → Option ℕ → Option ℕ
over_three t k a b c = option_and_then (λ m. over_two t (k m) b c) a

-- the number of labels: that of the cases that they are without payloads
abbrev pub number_labels : Numbering → List (List ℕ) → Option ℕ
number_labels t [] = t.node (key.Leaf leaf.NoCases)
number_labels t (l ∷ ls) = over_two t key.Plain (t.label l) (number_labels t ls)

abbrev mutual
  -- the number of a type, if it has one: that of its node over the numbers of its parts
  pub number : Numbering → Ty → Option ℕ
  number t bool = t.node (key.Leaf leaf.Bool)
  number t (signed bits_8) = t.node (key.Leaf leaf.S8)
  number t (signed bits_16) = t.node (key.Leaf leaf.S16)
  number t (signed bits_32) = t.node (key.Leaf leaf.S32)
  number t (signed bits_64) = t.node (key.Leaf leaf.S64)
  number t (unsigned bits_8) = t.node (key.Leaf leaf.U8)
  number t (unsigned bits_16) = t.node (key.Leaf leaf.U16)
  number t (unsigned bits_32) = t.node (key.Leaf leaf.U32)
  number t (unsigned bits_64) = t.node (key.Leaf leaf.U64)
  number t char = t.node (key.Leaf leaf.Char)
  number t string = t.node (key.Leaf leaf.String)
  number t (list x) = over t key.List (number t x)
  number t (fixed_list x n) = over t (λ m. key.FixedList m n) (number t x)
  number t (fields record_type fs) = over t key.Record (number_fields t fs)
  number t (fields tuple_type fs) = over t key.Tuple (number_fields t fs)
  number t (cases variant_type cs) = over t key.Variant (number_cases t cs)
  number t (cases enum_type cs) = over t key.Enum (number_cases t cs)
  number t (cases option_type cs) = over t key.Option (number_cases t cs)
  number t (cases result_type cs) = over t key.Result (number_cases t cs)
  number t (flags ls) = over t key.Flags (number_labels t ls)
  number t (own r) = t.node (key.Own r.component r.number)
  number t (borrow r) = t.node (key.Borrow r.component r.number)

  pub number_fields : Numbering → Fields → Option ℕ
  number_fields t no_fields = t.node (key.Leaf leaf.NoFields)
  number_fields t (field l x fs) =
      over_three t key.Field (t.label l) (number t x) (number_fields t fs)

  pub number_cases : Numbering → Cases → Option ℕ
  number_cases t no_cases = t.node (key.Leaf leaf.NoCases)
  number_cases t (plain l cs) = over_two t key.Plain (t.label l) (number_cases t cs)
  number_cases t (carrying l x cs) =
      over_three t key.Carrying (t.label l) (number t x) (number_cases t cs)

-- the number of a function's type
abbrev pub number_of_signature : Numbering → Option ℕ → Option Ty → Option ℕ
number_of_signature t params None = over t key.FuncWithoutResult params
number_of_signature t params (Some x) = over_two t key.Func params (number t x)

abbrev pub number_func : Numbering → FuncTy → Option ℕ
number_func t f = number_of_signature t (number_fields t f.params) f.result

-- the cases of a result
abbrev pub result_cases : Option Ty → Option Ty → Cases
result_cases ok error = case_before (codes "ok") ok (case_before (codes "error") error no_cases)

-- ---- the tables of the code

-- what a table of the code numbers
abbrev pub numbering : Numbers → Numbering
numbering s = record {
  label = number_of s.texts;
  node = get key_order s.nodes.numbers;
}

-- Nothing has a number.
pub record IsBlank (t : Numbering) : Type 0 where
  pub labels : (l : List ℕ) → t.label l ≡ None
  pub nodes : (k : Key) → t.node k ≡ None

-- What had a number keeps it.
pub record Extends (old new : Numbering) : Type 0 where
  pub labels : (l : List ℕ) (n : ℕ) → old.label l ≡ Some n → new.label l ≡ Some n
  pub nodes : (k : Key) (n : ℕ) → old.node k ≡ Some n → new.node k ≡ Some n

-- This payload has this number, or both are missing.
abbrev pub HasNumber : Numbering → Option Ty → Option ℕ → Type 0
HasNumber t None None = Unit {0}
HasNumber t None (Some n) = ⊥
HasNumber t (Some x) None = ⊥
HasNumber t (Some x) (Some n) = number t x ≡ Some n

-- However the table grows, the type's number is that of this node.
abbrev pub IsNodeOf : Numbering → Ty → Key → Type 0
IsNodeOf t x k = (later : Numbering) → Extends t later → number later x ≡ later.node k

-- These are the numbers of these types in their order, each resource replaced.
abbrev pub AreNumbers : Numbering → Standing → List Ty → List ℕ → Type 0
AreNumbers t s ts ns = map (λ x. number t (replaced s x)) ts ≡ map Some ns

-- These are the numbers of these types of functions in their order, each resource replaced.
abbrev pub AreFuncNumbers : Numbering → Standing → List FuncTy → List ℕ → Type 0
AreFuncNumbers t s fs ns = map (λ f. number_func t (replaced_func s f)) fs ≡ map Some ns

-- Two numbers are equal exactly where the types that have them are.
abbrev pub TellsTypes : Numbering → Type 0
TellsTypes t = (x y : Ty) (m n : ℕ) → number t x ≡ Some m → number t y ≡ Some n
    → (m ≡ n) ↔ (x ≡ y)

-- Two numbers are equal exactly where the types of functions that have them are.
abbrev pub TellsFuncs : Numbering → Type 0
TellsFuncs t = (f g : FuncTy) (m n : ℕ) → number_func t f ≡ Some m → number_func t g ≡ Some n
    → (m ≡ n) ↔ (f ≡ g)

-- Two of these numbers are equal exactly where the types at their places are, in each list with the
-- resources replaced.
abbrev pub Agree : Standing → Standing → List Ty → List Ty → List ℕ → List ℕ → Type 0
Agree left right xs ys ms ns = (i j : ℕ) → i < length xs → j < length ys
    → (slice_index ms i ≡ slice_index ns j)
    ↔ (replaced left (type_at xs i) ≡ replaced right (type_at ys j))

-- Two of these numbers are equal exactly where the types of functions at their places are, in each
-- list with the resources replaced.
abbrev pub AgreeFuncs :
    Standing → Standing → List FuncTy → List FuncTy → List ℕ → List ℕ → Type 0
AgreeFuncs left right xs ys ms ns = (i j : ℕ) → i < length xs → j < length ys
    → (slice_index ms i ≡ slice_index ns j)
    ↔ (replaced_func left (func_at xs i) ≡ replaced_func right (func_at ys j))
