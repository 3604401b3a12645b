-- The first gate that may not stand, gate by gate.
use Rattle.std.proofs.Common.{◌≡◌, ℕ, ◌+◌, ◌<◌, ◌≤◌, Bool, true, false, not, cond, ◌&&◌, ◌||◌, List, [], ◌∷◌, ◌++◌, length, map, take, drop, get_or, Option, Some, None, refl, sym, ap, ◌∙◌}
use Rattle.std.specs.List.{list_any}
use Rattle.std.proofs.lemmas.List.{drop_all, map-append, take_more}
use Rattle.std.proofs.lemmas.List.Folds.{list_any-append}
use Rattle.cm_lemmas.proofs.Bools.{or_false}
use Rattle.cm_lemmas.proofs.Lists.{next_element}
use Rattle.semver.specs.Parse.{Parts}
use Rattle.cm_wit_projects_reading.specs.declared.gates.PlacedGate as code
use Rattle.cm_wit_projects_reading.specs.Trees.{Gate, Placed}
use Rattle.cm_wit_projects_reading.specs.Views.{gate_tree, placed_gate_tree}
use Rattle.cm_wit_projects.specs.declared.gating.Before.{Before}
use Rattle.cm_wit_projects.specs.Faults.{first}
use Rattle.cm_wit_projects.specs.Gates.{bad_from, is_deprecated, is_origin, is_reached, may_stand}
use Rattle.cm_wit_projects.specs.GateViews.{and_gate, lets_stand}

-- ---- one gate

-- What is known of gates is what stands in the code's summary of them.
pub record Knows (has_origin : Bool) (gates : List Gate) (before : Before) : Type 0 where
  pub all : before.has_origin ≡ has_origin
  pub origin : before.origin ≡ list_any is_origin gates
  pub deprecated : before.deprecated ≡ list_any is_deprecated gates

by_kind : (reached dep has_dep has_org all : Bool) → (reached && ((cond dep (not has_dep) (not has_org)) && (not dep || all))) ≡ (cond dep (not has_dep && all) (not has_org) && reached)
by_kind true true true has_org all = refl
by_kind true true false has_org true = refl
by_kind true true false has_org false = refl
by_kind true false has_dep true all = refl
by_kind true false has_dep false all = refl
by_kind false true true has_org all = refl
by_kind false true false has_org true = refl
by_kind false true false has_org false = refl
by_kind false false has_dep true all = refl
by_kind false false has_dep false all = refl

stands : (version : Option Parts) (h : Bool) (gates : List Gate) (before : Before) (g : Gate) → Knows h gates before → may_stand version h gates g ≡ (lets_stand before g && is_reached version g)
stands version h gates before g k =
    by_kind (is_reached version g) (is_deprecated g) (list_any is_deprecated gates) (list_any is_origin gates) h
    ∙ sym (ap (λ (b : Bool). cond (is_deprecated g) (not b && before.has_origin) (not before.origin) && is_reached version g) k.deprecated
    ∙ (ap (λ (b : Bool). cond (is_deprecated g) (not (list_any is_deprecated gates) && before.has_origin) (not b) && is_reached version g) k.origin
    ∙ ap (λ (b : Bool). cond (is_deprecated g) (not (list_any is_deprecated gates) && b) (not (list_any is_origin gates)) && is_reached version g) k.all))

any_more : (test : Gate → Bool) (gates : List Gate) (g : Gate) → list_any test (gates ++ g ∷ []) ≡ (list_any test gates || test g)
any_more test gates g = list_any-append test gates (g ∷ []) ∙ ap (λ (b : Bool). list_any test gates || b) (or_false (test g))

knows_more : (h : Bool) (gates : List Gate) (before : Before) (g : Gate) → Knows h gates before → Knows h (gates ++ g ∷ []) (and_gate before g)
knows_more h gates before g k = record {
  all = k.all;
  origin = ap (λ (b : Bool). b || is_origin g) k.origin ∙ sym (any_more is_origin gates g);
  deprecated = ap (λ (b : Bool). b || is_deprecated g) k.deprecated ∙ sym (any_more is_deprecated gates g);
}

-- ---- gates

abbrev kinds : List (Placed Gate) → List Gate
kinds gs = map (λ g. g.1) gs

abbrev so_far : List code.PlacedGate → ℕ → List Gate
so_far gates i = kinds (map placed_gate_tree (take i gates))

-- The first that may not stand is so among the rest.
pub record Bad (version : Option Parts) (h : Bool) (gates : List code.PlacedGate) (i : ℕ) (before : Before) : Type 0 where
  pub knows : Knows h (so_far gates i) before
  pub is : first (bad_from version h (so_far gates i) (map placed_gate_tree (drop i gates))) ≡ first (bad_from version h [] (map placed_gate_tree gates))

pub bad_start : (version : Option Parts) (h : Bool) (gates : List code.PlacedGate) (before : Before) → before.has_origin ≡ h → before.origin ≡ false → before.deprecated ≡ false → Bad version h gates 0 before
bad_start version h gates before a o d = record { knows = record { all = a; origin = o; deprecated = d }; is = refl }

abbrev chosen : Option Parts → Bool → List Gate → Placed Gate → List (Placed Gate) → Bool → List ℕ
chosen version h gates g rest b = cond b (bad_from version h (gates ++ g.1 ∷ []) rest) (g.0 ∷ bad_from version h (gates ++ g.1 ∷ []) rest)

turn : (version : Option Parts) (h : Bool) (gates : List code.PlacedGate) (i : ℕ) (before : Before) (g : code.PlacedGate) (b : Bool) → i < length gates → g ≡ get_or gates i g → b ≡ (lets_stand before (gate_tree g.gate) && is_reached version (gate_tree g.gate)) → Bad version h gates i before → first (chosen version h (so_far gates i) (placed_gate_tree g) (map placed_gate_tree (drop (i + 1) gates)) b) ≡ first (bad_from version h [] (map placed_gate_tree gates))
turn version h gates i before g b lt e t f =
    let here : may_stand version h (so_far gates i) (gate_tree g.gate) ≡ b = stands version h (so_far gates i) before (gate_tree g.gate) f.knows ∙ sym t in
    sym (ap (λ (c : Bool). first (chosen version h (so_far gates i) (placed_gate_tree g) (map placed_gate_tree (drop (i + 1) gates)) c)) here)
    ∙ (sym (ap (λ (gs : List (Placed Gate)). first (bad_from version h (so_far gates i) gs)) (next_element placed_gate_tree gates i g lt e)) ∙ f.is)

one_more : (gates : List code.PlacedGate) (i : ℕ) (g : code.PlacedGate) → i < length gates → g ≡ get_or gates i g → so_far gates (i + 1) ≡ so_far gates i ++ gate_tree g.gate ∷ []
one_more gates i g lt e =
    ap (λ (xs : List code.PlacedGate). kinds (map placed_gate_tree xs)) (take_more gates i g lt)
    ∙ (ap kinds (map-append placed_gate_tree (take i gates) (get_or gates i g ∷ []))
    ∙ (map-append (λ (x : Placed Gate). x.1) (map placed_gate_tree (take i gates)) (placed_gate_tree (get_or gates i g) ∷ [])
    ∙ ap (λ (x : code.PlacedGate). so_far gates i ++ gate_tree x.gate ∷ []) (sym e)))

pub bad_on : (version : Option Parts) (h : Bool) (gates : List code.PlacedGate) (i : ℕ) (before next : Before) (g : code.PlacedGate) (b : Bool) → i < length gates → g ≡ get_or gates i g → b ≡ (lets_stand before (gate_tree g.gate) && is_reached version (gate_tree g.gate)) → b ≡ true → next ≡ and_gate before (gate_tree g.gate) → Bad version h gates i before → Bad version h gates (i + 1) next
bad_on version h gates i before next g b lt e t is n f =
    let more = one_more gates i g lt e in
    let k = knows_more h (so_far gates i) before (gate_tree g.gate) f.knows in
    record {
      knows = record {
        all = ap (λ (x : Before). x.has_origin) n ∙ k.all;
        origin = ap (λ (x : Before). x.origin) n ∙ (k.origin ∙ sym (ap (list_any is_origin) more));
        deprecated = ap (λ (x : Before). x.deprecated) n ∙ (k.deprecated ∙ sym (ap (list_any is_deprecated) more));
      };
      is = ap (λ (gs : List Gate). first (bad_from version h gs (map placed_gate_tree (drop (i + 1) gates)))) more
          ∙ (sym (ap (λ (c : Bool). first (chosen version h (so_far gates i) (placed_gate_tree g) (map placed_gate_tree (drop (i + 1) gates)) c)) is)
          ∙ turn version h gates i before g b lt e t f);
    }

pub bad_here : (version : Option Parts) (h : Bool) (gates : List code.PlacedGate) (i : ℕ) (before : Before) (g : code.PlacedGate) (b : Bool) → i < length gates → g ≡ get_or gates i g → b ≡ (lets_stand before (gate_tree g.gate) && is_reached version (gate_tree g.gate)) → b ≡ false → Bad version h gates i before → Some g.left ≡ first (bad_from version h [] (map placed_gate_tree gates))
bad_here version h gates i before g b lt e t is f =
    sym (ap (λ (c : Bool). first (chosen version h (so_far gates i) (placed_gate_tree g) (map placed_gate_tree (drop (i + 1) gates)) c)) is)
    ∙ turn version h gates i before g b lt e t f

pub bad_end : (version : Option Parts) (h : Bool) (gates : List code.PlacedGate) (i : ℕ) (before : Before) → length gates ≤ i → Bad version h gates i before → None ≡ first (bad_from version h [] (map placed_gate_tree gates))
bad_end version h gates i before le f = sym (ap (λ (gs : List code.PlacedGate). first (bad_from version h (so_far gates i) (map placed_gate_tree gs))) (drop_all i gates le)) ∙ f.is

pub ruleset bad_laws = (bad_start, bad_on, bad_here, bad_end)
