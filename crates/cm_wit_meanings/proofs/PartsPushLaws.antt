-- Adding what several texts stand for, one after another.
use Rattle.std.proofs.Common.{◌≡◌, ℕ, ◌<◌, ◌≤◌, ◌+◌, Bool, false, List, [], ◌∷◌, ◌++◌, length, map, get_or, Option, Some, refl, sym, ap, subst, ◌∙◌}
use Rattle.std.specs.List.{AllByRecursion}
use Rattle.std.proofs.lemmas.List.{map-append}
use Rattle.cm_types.specs.Types.{Ty}
use Rattle.cm_types_arena.specs.Places.{types_of, funcs_of}
use Rattle.cm_types_arena.specs.declared.types.Types.{Types}
use Rattle.cm_wit_meanings.specs.declared.fault.MeaningFault.{MeaningFault}
use Rattle.cm_wit_meanings.specs.Meanings.{each_meaning}
use Rattle.cm_wit_meanings.specs.declared.scope.Scope as code_scope
use Rattle.cm_wit_meanings.specs.Scopes.{Scope}
use Rattle.cm_wit_meanings.specs.Places.{Extends, ArePlaced, scope_in}
use Rattle.cm_wit_meanings.specs.Faults.{IsFaultOf}
use Rattle.cm_wit_meanings.proofs.PartsEachLaws.{Makes, makes_none, makes_next, makes_all, makes_fault}
use Rattle.cm_wit_meanings.proofs.GrowthLaws.{extends_length, extends_more, extends_same}
use Rattle.cm_wit_meanings.proofs.ScopeLaws.{scope_kept, scope_placed}

-- What the first i of these stand for was added to the types and made into this list.
pub record Pushed {A B D : Type 0} (meant : A → Option B) (view : List Ty → D → B) (IsThere : ℕ → D → Type 0) (texts : List A) (first : Types) (i : ℕ) (now : Types) (made : List D) : Type 0 where
  pub makes : Makes meant texts i (map (view (types_of now)) made)
  pub there : AllByRecursion (IsThere (length (types_of now))) made
  pub grown : Extends (types_of first) (types_of now)
  pub funcs : funcs_of now ≡ funcs_of first

module _ {A B D : Type 0} (meant : A → Option B) (view : List Ty → D → B) (IsThere : ℕ → D → Type 0) (texts : List A) (first : Types) where
  pub pushed_none : Pushed meant view IsThere texts first 0 first []
  pushed_none = record { makes = makes_none meant texts; there = tt; grown = extends_same (types_of first) (types_of first) refl; funcs = refl }

  module _ (kept : (old new : List Ty) (d : D) → Extends old new → IsThere (length old) d → view new d ≡ view old d) (more : (m n : ℕ) (d : D) → m ≤ n → IsThere m d → IsThere n d) where
    all_kept : (old new : List Ty) (ds : List D) → Extends old new → AllByRecursion (IsThere (length old)) ds → map (view new) ds ≡ map (view old) ds
    all_kept old new [] e h = refl
    all_kept old new (d ∷ ds) e h = rw (kept old new d e h.0, all_kept old new ds e h.1) refl

    all_more : (m n : ℕ) (ds : List D) (d : D) → m ≤ n → AllByRecursion (IsThere m) ds → IsThere n d → AllByRecursion (IsThere n) (ds ++ d ∷ [])
    all_more m n [] d le h p = (p, tt)
    all_more m n (x ∷ xs) d le h p = (more m n x le h.0, all_more m n xs d le h.1 p)

    pub pushed_next : (now next : Types) (i : ℕ) (x : A) (d : D) (made new : List D) → i < length texts → x ≡ get_or texts i x → meant x ≡ Some (view (types_of next) d) → IsThere (length (types_of next)) d → Extends (types_of now) (types_of next) → funcs_of next ≡ funcs_of now → new ≡ made ++ d ∷ [] → Pushed meant view IsThere texts first i now made → Pushed meant view IsThere texts first (i + 1) next new
    pushed_next now next i x d made new lt is p q e f n h =
        let told : map (view (types_of next)) new ≡ map (view (types_of now)) made ++ view (types_of next) d ∷ [] =
        ap (map (view (types_of next))) n ∙ (map-append (view (types_of next)) made (d ∷ []) ∙ ap (λ (bs : List B). bs ++ view (types_of next) d ∷ []) (all_kept (types_of now) (types_of next) made e h.there)) in
        record {
          makes = subst (λ (bs : List B). Makes meant texts (i + 1) bs) (sym told) (makes_next meant texts i x (view (types_of next) d) (map (view (types_of now)) made) lt is p h.makes);
          there = subst (λ (ds : List D). AllByRecursion (IsThere (length (types_of next))) ds) (sym n) (all_more (length (types_of now)) (length (types_of next)) made d (extends_length (types_of now) (types_of next) e) h.there q);
          grown = extends_more (types_of first) (types_of now) (types_of next) h.grown e;
          funcs = f ∙ h.funcs;
        }

  pub pushed_all : (now : Types) (i : ℕ) (made : List D) → length texts ≤ i → Pushed meant view IsThere texts first i now made → each_meaning meant texts ≡ Some (map (view (types_of now)) made)
  pushed_all now i made le h = makes_all meant texts i (map (view (types_of now)) made) le h.makes

-- ---- the same where each text stands for something in a scope

module _ {A B D : Type 0} (meant : Scope → A → Option B) (view : List Ty → D → B) (IsThere : ℕ → D → Type 0)
    (sc : code_scope.Scope) (texts : List A) (first now : Types) (placed : ArePlaced (length (types_of first)) sc.table.now) (i : ℕ) (done : List D)
    (h : Pushed (meant (scope_in (types_of first) sc)) view IsThere texts first i now done) where
  pub pushed_placed : ArePlaced (length (types_of now)) sc.table.now
  pushed_placed = scope_placed (types_of first) (types_of now) sc h.grown placed

  pub pushed_scope : scope_in (types_of now) sc ≡ scope_in (types_of first) sc
  pushed_scope = scope_kept (types_of first) (types_of now) sc h.grown placed

  module _ (kept : (old new : List Ty) (d : D) → Extends old new → IsThere (length old) d → view new d ≡ view old d) (more : (m n : ℕ) (d : D) → m ≤ n → IsThere m d → IsThere n d) where
    pub pushed_more : (next : Types) (x : A) (d : D) (new : List D) → i < length texts → x ≡ get_or texts i x → meant (scope_in (types_of now) sc) x ≡ Some (view (types_of next) d) → IsThere (length (types_of next)) d → Extends (types_of now) (types_of next) → funcs_of next ≡ funcs_of now → new ≡ done ++ d ∷ [] → Pushed (meant (scope_in (types_of first) sc)) view IsThere texts first (i + 1) next new
    pushed_more next x d new lt is e q g f n =
        pushed_next (meant (scope_in (types_of first) sc)) view IsThere texts first kept more now next i x d done new lt is (ap (λ (s : Scope). meant s x) (sym pushed_scope) ∙ e) q g f n h

  module _ (IsWhole : List B → Type 0) (is_whole : List B → Bool) (IsPartWithin : B → Type 0) (is_part_spelled : B → Bool)
      (within : (front : List B) (y : B) (rest : List B) → IsWhole (front ++ y ∷ rest) → IsPartWithin y)
      (spelled : (front : List B) (y : B) (rest : List B) → is_part_spelled y ≡ false → is_whole (front ++ y ∷ rest) ≡ false) where
    pub pushed_fault : (x : A) (f : MeaningFault) → i < length texts → x ≡ get_or texts i x → IsFaultOf IsPartWithin is_part_spelled (meant (scope_in (types_of now) sc) x) f → IsFaultOf IsWhole is_whole (each_meaning (meant (scope_in (types_of first) sc)) texts) f
    pushed_fault x f lt is e =
        makes_fault (meant (scope_in (types_of first) sc)) texts IsWhole is_whole IsPartWithin is_part_spelled within spelled i x (map (view (types_of now)) done) f lt is (subst (λ (s : Scope). IsFaultOf IsPartWithin is_part_spelled (meant s x) f) pushed_scope e) h.makes
