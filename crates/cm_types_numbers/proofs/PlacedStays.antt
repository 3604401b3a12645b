-- Numbers of single types, and what is known of them, stay as a table of numbers grows.
use Rattle.std.proofs.Common.{◌≡◌, ℕ, List, [], ◌∷◌, Option, Some, None, ap}
use Rattle.cm_types.specs.Types.{Ty, FuncTy}
use Rattle.cm_types_arena.specs.Replaced.{Standing, replaced, replaced_func}
use Rattle.cm_types_arena.specs.TypeDefs.{func_at, type_at}
use Rattle.cm_types_numbers.specs.Numbering.{Numbering, AreFuncNumbers, AreNumbers, number, number_func}
use Rattle.cm_types_numbers.specs.Moved.{moved_through}
use Rattle.cm_types_numbers.specs.PlacedTables.{KnowsFuncs, KnowsTypes}
use Rattle.cm_types_numbers.specs.declared.funcs.KnownFuncs.{KnownFuncs}
use Rattle.cm_types_numbers.specs.declared.types.KnownTypes.{KnownTypes}

head_of : Option ℕ → List (Option ℕ) → Option ℕ
head_of d [] = d
head_of d (x ∷ xs) = x

module _ (old new : Numbering) where
  -- what the law of numbers says of these two tables
  abbrev pub Stay : Type 0
  Stay = (s : Standing) (ts : List Ty) (ns : List ℕ) → AreNumbers old s ts ns → AreNumbers new s ts ns

  abbrev pub FuncsStay : Type 0
  FuncsStay = (s : Standing) (fs : List FuncTy) (ns : List ℕ) → AreFuncNumbers old s fs ns → AreFuncNumbers new s fs ns

  type_stays : Stay → (s : Standing) (x : Ty) (n : ℕ) → number old (replaced s x) ≡ Some n → number new (replaced s x) ≡ Some n
  unfolding head_of
  type_stays stay s x n is = ap (head_of None) (stay s (x ∷ []) (n ∷ []) (ap (λ (o : Option ℕ). o ∷ []) is))

  func_stays : FuncsStay → (s : Standing) (f : FuncTy) (n : ℕ) → number_func old (replaced_func s f) ≡ Some n → number_func new (replaced_func s f) ≡ Some n
  unfolding head_of
  func_stays stay s f n is = ap (head_of None) (stay s (f ∷ []) (n ∷ []) (ap (λ (o : Option ℕ). o ∷ []) is))

  pub types_stay : Stay → (s : Standing) (ts : List Ty) (known : KnownTypes) → KnowsTypes old s ts known → KnowsTypes new s ts known
  types_stay stay s ts known knows moves table at place n is = type_stays stay (λ r. s (moved_through moves r)) (type_at ts place) n (knows moves table at place n is)

  pub all_funcs_stay : FuncsStay → (s : Standing) (fs : List FuncTy) (known : KnownFuncs) → KnowsFuncs old s fs known → KnowsFuncs new s fs known
  all_funcs_stay stay s fs known knows func n is = func_stays stay (λ r. s (moved_through func.moves r)) (func_at fs func.place) n (knows func n is)
