-- Whether what is compared fits, by the numbers of types.
use Rattle.std.proofs.Common.{◌≡◌, ◌↔◌, ℕ, Bool, List, [], ◌∷◌, Option, Some, None, IsTrue, ap, subst, ◌∙◌}
use Rattle.std.proofs.Math.Path.{fun_ext}
use Rattle.cm_types.specs.Types.{Ty, FuncTy}
use Rattle.cm_types.specs.declared.resource.ResourceId.{ResourceId}
use Rattle.cm_types_arena.specs.Replaced.{Standing, replaced, replaced_func}
use Rattle.cm_types_numbers.specs.Numbering.{Numbering, AreFuncNumbers, AreNumbers, number, number_func}
use Rattle.cm_wit_conforms.specs.Comparisons.{Entry}
use Rattle.cm_wit_conforms.specs.Conformance.{have_mark, mark, world_mark}
use Rattle.cm_wit_conforms.specs.Judging.{AreSides, marks_of}
use Rattle.cm_wit_conforms.specs.Pairs.{pair_in}
use Rattle.cm_wit_conforms.specs.declared.judge.Side.{Side}

head_of : Option ℕ → List (Option ℕ) → Option ℕ
head_of d [] = d
head_of d (x ∷ xs) = x

-- the number of one type stays
pub type_stays : (old new : Numbering) → ((s : Standing) (ts : List Ty) (ns : List ℕ) → AreNumbers old s ts ns → AreNumbers new s ts ns) → (s : Standing) (x : Ty) (n : ℕ) → number old (replaced s x) ≡ Some n → number new (replaced s x) ≡ Some n
unfolding head_of
type_stays old new stay s x n is = ap (head_of None) (stay s (x ∷ []) (n ∷ []) (ap (λ (o : Option ℕ). o ∷ []) is))

pub func_stays : (old new : Numbering) → ((s : Standing) (fs : List FuncTy) (ns : List ℕ) → AreFuncNumbers old s fs ns → AreFuncNumbers new s fs ns) → (s : Standing) (f : FuncTy) (n : ℕ) → number_func old (replaced_func s f) ≡ Some n → number_func new (replaced_func s f) ≡ Some n
unfolding head_of
func_stays old new stay s f n is = ap (head_of None) (stay s (f ∷ []) (n ∷ []) (ap (λ (o : Option ℕ). o ∷ []) is))

-- the marks of both sides
pub have_marks : (all : List Entry) (have world : Side) → AreSides all have world → marks_of have ≡ have_mark all
have_marks all have world sides = fun_ext (λ (r : ResourceId). ap (λ (k : ℕ). mark k (pair_in have.pairs.now r)) sides.have_side ∙ ap (mark 1) (sides.have_pairs r))

pub world_marks : (all : List Entry) (have world : Side) → AreSides all have world → marks_of world ≡ world_mark all
world_marks all have world sides = fun_ext (λ (r : ResourceId). ap (λ (k : ℕ). mark k (pair_in world.pairs.now r)) sides.world_side ∙ ap (mark 2) (sides.world_pairs r))

-- what holds with the marks of the sides, holds with those of all entries
pub as_marked : (all : List Entry) (have world : Side) → AreSides all have world → (b : Bool) (P : Standing → Standing → Type 0) → IsTrue b ↔ P (marks_of have) (marks_of world) → IsTrue b ↔ P (have_mark all) (world_mark all)
as_marked all have world sides b P h =
    subst (λ (s : Standing). IsTrue b ↔ P s (world_mark all)) (have_marks all have world sides)
    (subst (λ (s : Standing). IsTrue b ↔ P (marks_of have) s) (world_marks all have world sides) h)
