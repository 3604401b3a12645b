-- Adding what several things stand for to an arena, one after another.
use Rattle.std.proofs.Common.{◌≡◌, ℕ, ◌<◌, ◌≤◌, ◌+◌, List, [], ◌∷◌, ◌++◌, length, map, get_or, Option, Some, refl, sym, ap, subst, ◌∙◌}
use Rattle.std.specs.List.{AllByRecursion}
use Rattle.std.proofs.lemmas.List.{map-append}
use Rattle.cm_types_arena.specs.Places.{types_of, funcs_of}
use Rattle.cm_types_arena.specs.declared.types.Types.{Types}
use Rattle.cm_wit_meanings.specs.Meanings.{each_meaning}
use Rattle.cm_wit_meanings.specs.Places.{Extends}
use Rattle.cm_wit_signature.proofs.EachLaws.{Makes, makes_none, makes_next, makes_all}
use Rattle.cm_wit_meanings.proofs.GrowthLaws.{extends_more, extends_same}

-- An arena has the types that it had, and those of functions, and maybe more.
pub record Grown (old new : Types) : Type 0 where
  pub types : Extends (types_of old) (types_of new)
  pub funcs : Extends (funcs_of old) (funcs_of new)

-- What the first i of these stand for was added to the arena and made into this list.
pub record Pushed {A B D : Type 0} (meant : A → Option B) (view : Types → D → B) (IsThere : Types → D → Type 0) (texts : List A) (first : Types) (i : ℕ) (now : Types) (made : List D) : Type 0 where
  pub makes : Makes meant texts i (map (view now) made)
  pub there : AllByRecursion (IsThere now) made
  pub types : Extends (types_of first) (types_of now)
  pub funcs : Extends (funcs_of first) (funcs_of now)

module _ {A B D : Type 0} (meant : A → Option B) (view : Types → D → B) (IsThere : Types → D → Type 0) (texts : List A) (first : Types) where
  pub pushed_none : Pushed meant view IsThere texts first 0 first []
  pushed_none = record { makes = makes_none meant texts; there = tt; types = extends_same (types_of first) (types_of first) refl; funcs = extends_same (funcs_of first) (funcs_of first) refl }

  module _ (kept : (old new : Types) (d : D) → Grown old new → IsThere old d → view new d ≡ view old d) (more : (old new : Types) (d : D) → Grown old new → IsThere old d → IsThere new d) where
    all_kept : (old new : Types) (ds : List D) → Grown old new → AllByRecursion (IsThere old) ds → map (view new) ds ≡ map (view old) ds
    all_kept old new [] e h = refl
    all_kept old new (d ∷ ds) e h = rw (kept old new d e h.0, all_kept old new ds e h.1) refl

    all_more : (old new : Types) (ds : List D) (d : D) → Grown old new → AllByRecursion (IsThere old) ds → IsThere new d → AllByRecursion (IsThere new) (ds ++ d ∷ [])
    all_more old new [] d g h p = (p, tt)
    all_more old new (x ∷ xs) d g h p = (more old new x g h.0, all_more old new xs d g h.1 p)

    pub pushed_next : (now next : Types) (i : ℕ) (x : A) (d : D) (made new : List D) → i < length texts → x ≡ get_or texts i x → meant x ≡ Some (view next d) → IsThere next d → Grown now next → new ≡ made ++ d ∷ [] → Pushed meant view IsThere texts first i now made → Pushed meant view IsThere texts first (i + 1) next new
    pushed_next now next i x d made new lt is p q g n h =
        let told : map (view next) new ≡ map (view now) made ++ view next d ∷ [] =
        ap (map (view next)) n ∙ (map-append (view next) made (d ∷ []) ∙ ap (λ (bs : List B). bs ++ view next d ∷ []) (all_kept now next made g h.there)) in
        record {
          makes = subst (λ (bs : List B). Makes meant texts (i + 1) bs) (sym told) (makes_next meant texts i x (view next d) (map (view now) made) lt is p h.makes);
          there = subst (λ (ds : List D). AllByRecursion (IsThere next) ds) (sym n) (all_more now next made d g h.there q);
          types = extends_more (types_of first) (types_of now) (types_of next) h.types g.types;
          funcs = extends_more (funcs_of first) (funcs_of now) (funcs_of next) h.funcs g.funcs;
        }

  pub pushed_all : (now : Types) (i : ℕ) (made : List D) → length texts ≤ i → Pushed meant view IsThere texts first i now made → each_meaning meant texts ≡ Some (map (view now) made)
  pushed_all now i made le h = makes_all meant texts i (map (view now) made) le h.makes

pub ruleset push_laws = (extends_same, extends_more, pushed_none)
