-- The number of one type stays while a table grows.
use Rattle.std.proofs.Common.{◌≡◌, ℕ, List, [], ◌∷◌, Option, Some, None, ap}
use Rattle.cm_types.specs.Types.{Ty, FuncTy}
use Rattle.cm_types_arena.specs.Replaced.{Standing, replaced, replaced_func}
use Rattle.cm_types_numbers.specs.Numbering.{Numbering, AreFuncNumbers, AreNumbers, Extends, number, number_func}

head_of : Option ℕ → List (Option ℕ) → Option ℕ
head_of d [] = d
head_of d (x ∷ xs) = x

pub type_stays : ((old new : Numbering) (s : Standing) (ts : List Ty) (ns : List ℕ) → Extends old new → AreNumbers old s ts ns → AreNumbers new s ts ns) → (old new : Numbering) (s : Standing) (x : Ty) (n : ℕ) → Extends old new → number old (replaced s x) ≡ Some n → number new (replaced s x) ≡ Some n
unfolding head_of
type_stays stay old new s x n more is = ap (head_of None) (stay old new s (x ∷ []) (n ∷ []) more (ap (λ (o : Option ℕ). o ∷ []) is))

pub func_stays : ((old new : Numbering) (s : Standing) (fs : List FuncTy) (ns : List ℕ) → Extends old new → AreFuncNumbers old s fs ns → AreFuncNumbers new s fs ns) → (old new : Numbering) (s : Standing) (f : FuncTy) (n : ℕ) → Extends old new → number_func old (replaced_func s f) ≡ Some n → number_func new (replaced_func s f) ≡ Some n
unfolding head_of
func_stays stay old new s f n more is = ap (head_of None) (stay old new s (f ∷ []) (n ∷ []) more (ap (λ (o : Option ℕ). o ∷ []) is))
