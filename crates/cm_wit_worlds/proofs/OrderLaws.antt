-- Imports in order.
use Rattle.std.proofs.Common.{◌≡◌, ◌↔◌, ℕ, Bool, true, List, Option, [], not, map, get_or, subst}
use Rattle.std.specs.Prelude.{filter}
use Rattle.std.specs.Global.{Vec}
use Rattle.std.specs.List.{flat_map}
use Rattle.cm_wit_graph.specs.DepthFirst.{Orders, is_among, needs_of}
use Rattle.cm_wit_graph.specs.Reach.{Rows, HasMissing, HasCycle}
use Rattle.cm_wit_worlds.specs.Externs.{AreImports, found}

pub imports_are : (needs : List (Vec ℕ)) (rows : Rows) (written out first others order : List ℕ) → map (λ r. r.items) needs ≡ map found rows → Orders (needs_of needs) [] written first → others ≡ flat_map (λ k. filter (λ j. not (is_among j out)) (needs_of needs k)) out → Orders (needs_of needs) first others order → AreImports rows written out order
imports_are needs rows written out first others order e p q r = record {
  first = first;
  of_text = subst (λ (l : List (List ℕ)). Orders (λ k. get_or l k []) [] written first) e p;
  of_exports = subst (λ (l : List (List ℕ)). Orders (λ k. get_or l k []) first (flat_map (λ k. filter (λ j. not (is_among j out)) (get_or l k [])) out) order) e (subst (λ (os : List ℕ). Orders (needs_of needs) first os order) q r);
}

pub imports_same : (rows rows2 : Rows) (written written2 out out2 order : List ℕ) → rows ≡ rows2 → written ≡ written2 → out ≡ out2 → AreImports rows written out order → AreImports rows2 written2 out2 order
imports_same rows rows2 written written2 out out2 order e f g a = subst (λ (r : Rows). AreImports r written2 out2 order) e (subst (λ (l : List ℕ). AreImports rows l out2 order) f (subst (λ (l : List ℕ). AreImports rows written l order) g a))

pub missing_same : (rows rows2 : Rows) (named named2 : List (Option ℕ)) (b : Bool) → rows ≡ rows2 → named ≡ named2 → (b ≡ true) ↔ HasMissing rows named → (b ≡ true) ↔ HasMissing rows2 named2
missing_same rows rows2 named named2 b e f h = subst (λ (r : Rows). (b ≡ true) ↔ HasMissing r named2) e (subst (λ (l : List (Option ℕ)). (b ≡ true) ↔ HasMissing rows l) f h)

pub cycle_same : (rows rows2 : Rows) (named named2 : List (Option ℕ)) (b : Bool) → rows ≡ rows2 → named ≡ named2 → (b ≡ true) ↔ HasCycle rows named → (b ≡ true) ↔ HasCycle rows2 named2
cycle_same rows rows2 named named2 b e f h = subst (λ (r : Rows). (b ≡ true) ↔ HasCycle r named2) e (subst (λ (l : List (Option ℕ)). (b ≡ true) ↔ HasCycle rows l) f h)

pub ruleset import_laws = (imports_are)

pub ruleset world_laws = (imports_are)
