-- The types of an arena, and of its functions, by the numbers of earlier ones.
use Rattle.std.proofs.Common.{◌≡◌, ℕ, ◌+◌, ◌<◌, ◌≤◌, List, [], ◌∷◌, ◌++◌, length, map, take, Option, Some, None, refl, sym, ap, subst, ◌∙◌, arith}
use Rattle.std.specs.Prelude.{slice_index}
use Rattle.std.specs.List.{AllByRecursion}
use Rattle.std.specs.Option.{option_map}
use Rattle.std.proofs.lemmas.List.{length-map}
use Rattle.cm_types.specs.TypeTrees.{fields_of}
use Rattle.cm_types.specs.Types.{Ty, FuncTy, Fields, bool, no_fields}
use Rattle.cm_types.specs.declared.type_trees.Field.{Field}
use Rattle.cm_types_arena.specs.Arena.{field_types, parts_in}
use Rattle.cm_types_arena.specs.TypeDefs.{func_at, type_at}
use Rattle.cm_types_arena.specs.Replaced.{Standing, replaced, replaced_fields, replaced_func}
use Rattle.cm_types_numbers.specs.declared.key.Key.{Key}
use Rattle.cm_types_numbers.specs.declared.key.Key.TheVariants as key
use Rattle.cm_types_numbers.specs.Numbering.{Numbering, number, number_fields, number_func, Extends, AreNumbers, AreFuncNumbers, IsNodeOf}
use Rattle.cm_types_numbers.proofs.NodeLemmas.{procedure_numbered, func_numbered}
use Rattle.cm_types_numbers.proofs.Places.{numbers_before, numbers_there, number_there, one_more, take_more}
use Rattle.cm_types_numbers.proofs.Stays.{numbers_stay, funcs_stay, extends_on, stays}
use Rattle.cm_types_arena.proofs.ArenaLemmas.{fields_long}

-- one more type of an arena
module _ (t u v : Numbering) (b : Extends t u) (c : Extends u v) (s : Standing) (ts : List Ty) (place : ℕ) (ns : List ℕ) (are : AreNumbers t s (take place ts) ns) (lt : place < length ts)
    (places parts : List ℕ) (earlier : AllByRecursion (λ p. p < place) places) (x : Ty) (xe : x ≡ type_at ts place) (pe : parts_in (type_at ts place) ≡ map (type_at ts) places) (given : parts ≡ map (slice_index ns) places) where
  parts_numbered : AreNumbers t s (parts_in x) parts
  parts_numbered =
      let at : AreNumbers t s (map (type_at ts) places) (map (slice_index ns) places) = numbers_before (λ y. number t (replaced s y)) ts place ns bool places are (omega (arith, lt)) earlier in
      let types : parts_in x ≡ map (type_at ts) places = ap parts_in xe ∙ pe in
      subst (λ (us : List Ty). AreNumbers t s us parts) (sym types) (subst (λ (ms : List ℕ). AreNumbers t s (map (type_at ts) places) ms) (sym given) at)

  pub type_numbered : (k : Key) (n : ℕ) → (AreNumbers t s (parts_in x) parts → IsNodeOf u (replaced s x) k) → v.node k ≡ Some n → AreNumbers v s (take (place + 1) ts) (ns ++ n ∷ [])
  type_numbered k n made is =
      let here : number v (replaced s (type_at ts place)) ≡ Some n = ap (λ y. number v (replaced s y)) (sym xe) ∙ made parts_numbered v c ∙ is in
      let more = one_more (λ y. number v (replaced s y)) (take place ts) ns (type_at ts place) n (numbers_stay t v (extends_on t u v b c) s (take place ts) ns are) here in
      subst (λ (us : List Ty). AreNumbers v s us (ns ++ n ∷ [])) (sym (take_more ts place bool lt)) more

-- one more of the functions
pub func_more : (t v : Numbering) → Extends t v → (s : Standing) (fs : List FuncTy) (place : ℕ) (ns : List ℕ) (n : ℕ) → place < length fs → AreFuncNumbers t s (take place fs) ns → number_func v (replaced_func s (func_at fs place)) ≡ Some n
    → AreFuncNumbers v s (take (place + 1) fs) (ns ++ n ∷ [])
func_more t v e s fs place ns n lt are is =
    let more = one_more (λ f. number_func v (replaced_func s f)) (take place fs) ns (func_at fs place) n (funcs_stay t v e s (take place fs) ns are) is in
    subst (λ (gs : List FuncTy). AreFuncNumbers v s gs (ns ++ n ∷ [])) (sym (take_more fs place (record { params = no_fields; result = None }) lt)) more

-- there are as many numbers of parameters as parameters
pub params_long : (ts : List Ty) (numbers places parts : List ℕ) (fs : List Field) → parts ≡ map (slice_index numbers) places → field_types (fields_of fs) ≡ map (type_at ts) places → length parts ≡ length fs
params_long ts numbers places parts fs given types =
    ap length given ∙ length-map places (slice_index numbers) ∙ sym (length-map places (type_at ts)) ∙ sym (ap length types) ∙ fields_long fs

-- the type of a function
module _ (t u v : Numbering) (b : Extends t u) (c : Extends u v) (s : Standing) (ts : List Ty) (numbers places parts : List ℕ) (are : AreNumbers t s ts numbers) (there : AllByRecursion (λ p. p < length ts) places)
    (given : parts ≡ map (slice_index numbers) places) (f : FuncTy) (fs : List Field) (fe : fields_of fs ≡ f.params) (types : field_types f.params ≡ map (type_at ts) places) (params : ℕ)
    (made : AreNumbers t s (field_types (fields_of fs)) parts → number_fields u (replaced_fields s (fields_of fs)) ≡ Some params) where
  params_numbered : number_fields u (replaced_fields s f.params) ≡ Some params
  params_numbered =
      let at : AreNumbers t s (map (type_at ts) places) (map (slice_index numbers) places) = numbers_there (λ y. number t (replaced s y)) ts numbers bool places are there in
      let all : field_types (fields_of fs) ≡ map (type_at ts) places = ap field_types fe ∙ types in
      let mine = subst (λ (us : List Ty). AreNumbers t s us parts) (sym all) (subst (λ (ms : List ℕ). AreNumbers t s (map (type_at ts) places) ms) (sym given) at) in
      subst (λ (gs : Fields). number_fields u (replaced_fields s gs) ≡ Some params) fe (made mine)

  pub procedure_is : (n : ℕ) → f.result ≡ None → v.node (key.FuncWithoutResult params) ≡ Some n → number_func v (replaced_func s f) ≡ Some n
  procedure_is n none is = procedure_numbered u v c (replaced_func s f) params n (ap (option_map (replaced s)) none) params_numbered is

  pub func_is : (n place : ℕ) → f.result ≡ Some (type_at ts place) → place < length ts → v.node (key.Func params (slice_index numbers place)) ≡ Some n → number_func v (replaced_func s f) ≡ Some n
  func_is n place answer lt is =
      let at = stays t v (extends_on t u v b c) (replaced s (type_at ts place)) (slice_index numbers place) (number_there (λ y. number t (replaced s y)) ts numbers bool place are lt) in
      func_numbered u v c (replaced_func s f) (replaced s (type_at ts place)) params (slice_index numbers place) n (ap (option_map (replaced s)) answer) at params_numbered is
