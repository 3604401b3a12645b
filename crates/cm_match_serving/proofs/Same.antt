-- Types of two components are the same where their numbers are.
use Rattle.std.proofs.Common.{◌≡◌, ◌∙◌, ◌↔◌, ℕ, Bool, List, [], ◌∷◌, Option, Some, None, IsTrue, sym, ap, subst}
use Rattle.cm_types.specs.Types.{FuncTy, Ty}
use Rattle.cm_types_arena.specs.Replaced.{Standing, replaced, replaced_func}
use Rattle.cm_types_numbers.specs.Numbering.{AreFuncNumbers, AreNumbers, Numbering, number, number_func}
use Rattle.cm_types_numbers.specs.declared.moves.Brought.{Brought}
use Rattle.cm_match_model.specs.Serving.{IsSameFunc, IsSameType, standing}
use Rattle.cm_match_serving.specs.Linkings.{components_in, set_in}
use Rattle.cm_match_serving.specs.Sets.{funcs_at, types_at}
use Rattle.cm_match_serving.specs.declared.linking.Linking.{Linking}
use Rattle.cm_match_serving.specs.Sides.{funcs_in, had_funcs, had_types, set_of_pair, standing_of, types_in, wanted_funcs, wanted_types}
use Rattle.cm_match_serving.specs.Tables.{AreKnown, func_brought, type_brought}
use Rattle.cm_match_serving.specs.declared.sides.Pair.{Pair}
use Rattle.cm_match_serving.specs.declared.sides.Side.{Side}
use Rattle.cm_match_serving.specs.declared.tables.Tables.{Tables}

head_of : Option ℕ → List (Option ℕ) → Option ℕ
head_of d [] = d
head_of d (x ∷ xs) = x

-- the number of one type stays
pub type_stays : (old new : Numbering) → ((s : Standing) (ts : List Ty) (ns : List ℕ) → AreNumbers old s ts ns → AreNumbers new s ts ns) → (s : Standing) (x : Ty) (n : ℕ) → number old (replaced s x) ≡ Some n → number new (replaced s x) ≡ Some n
unfolding head_of
type_stays old new stay s x n is = ap (head_of None) (stay s (x ∷ []) (n ∷ []) (ap (λ (o : Option ℕ). o ∷ []) is))

pub func_stays : (old new : Numbering) → ((s : Standing) (fs : List FuncTy) (ns : List ℕ) → AreFuncNumbers old s fs ns → AreFuncNumbers new s fs ns) → (s : Standing) (f : FuncTy) (n : ℕ) → number_func old (replaced_func s f) ≡ Some n → number_func new (replaced_func s f) ≡ Some n
unfolding head_of
func_stays old new stay s f n is = ap (head_of None) (stay s (f ∷ []) (n ∷ []) (ap (λ (o : Option ℕ). o ∷ []) is))

-- ---- sides of a pair

pub known_at : (l m : Linking) (t : Tables) → l ≡ m → AreKnown l t → AreKnown m t
known_at l m t e h = subst (λ (k : Linking). AreKnown k t) e h

type_of_side : Brought → Linking → ℕ → Ty
type_of_side x l c = replaced (standing (set_in l) c) (type_brought (types_at (components_in l) c) x)

func_of_side : Brought → Linking → ℕ → FuncTy
func_of_side x l c = replaced_func (standing (set_in l) c) (func_brought (funcs_at (components_in l) c) x)

both : {A : Type 0} (b : Bool) (x y u v : A) → x ≡ u → y ≡ v → IsTrue b ↔ (x ≡ y) → IsTrue b ↔ (u ≡ v)
both b x y u v e f h = (λ t. sym e ∙ h.0 t ∙ f, λ i. h.1 (e ∙ i ∙ sym f))

module _ (p : Pair) (s t : Side) (sl : s.linking ≡ p.linking) (sc : s.component ≡ p.importer) (tl : t.linking ≡ p.linking) (tc : t.component ≡ p.provider) (b : Bool) (x y : Brought) where
  pub types_of_pair : IsTrue b ↔ (replaced (standing_of s) (type_brought (types_in s) x) ≡ replaced (standing_of t) (type_brought (types_in t) y))
      → IsTrue b ↔ IsSameType (set_of_pair p) p.importer (type_brought (wanted_types p) x) p.provider (type_brought (had_types p) y)
  unfolding type_of_side
  types_of_pair h = both b (type_of_side x s.linking s.component) (type_of_side y t.linking t.component) (type_of_side x p.linking p.importer) (type_of_side y p.linking p.provider)
      (ap (λ l. type_of_side x l s.component) sl ∙ ap (type_of_side x p.linking) sc) (ap (λ l. type_of_side y l t.component) tl ∙ ap (type_of_side y p.linking) tc) h

  pub funcs_of_pair : IsTrue b ↔ (replaced_func (standing_of s) (func_brought (funcs_in s) x) ≡ replaced_func (standing_of t) (func_brought (funcs_in t) y))
      → IsTrue b ↔ IsSameFunc (set_of_pair p) p.importer (func_brought (wanted_funcs p) x) p.provider (func_brought (had_funcs p) y)
  unfolding func_of_side
  funcs_of_pair h = both b (func_of_side x s.linking s.component) (func_of_side y t.linking t.component) (func_of_side x p.linking p.importer) (func_of_side y p.linking p.provider)
      (ap (λ l. func_of_side x l s.component) sl ∙ ap (func_of_side x p.linking) sc) (ap (λ l. func_of_side y l t.component) tl ∙ ap (func_of_side y p.linking) tc) h
