-- The edges of a file lead from mentions to mentions.
use Rattle.std.proofs.Common.{◌≡◌, ◌↔◌, ℕ, zero, suc, ◌<◌, Bool, true, false, nat_lt, if◌then◌else◌, List, [], ◌∷◌, length, map, Option, Some, None, refl, sym, subst, ◌∙◌, arith, All}
use Rattle.std.specs.List.{filter_map, cons_option}
use Rattle.std.specs.Option.{option_and_then}
use Rattle.std.proofs.lemmas.List.{length-map}
use Rattle.cm_wit_graph.specs.Graphs.{Edges, HasEdge, IsWithin, Walk, IsMarked, LeadsToMarked}
use Rattle.cm_wit_names.specs.Mentions.{Mention, Reference, no_reference, to_interface, to_used, to_type, to_resource}
use Rattle.cm_wit_names.specs.Known.{is_known_as, known_at, target, edge, edges, using_edges, leading_edge, using_edge, is_borrow, is_used, HasBorrow, HoldsBorrow}
use Rattle.cm_wit_names.specs.Rules.{LeadsOn}
use Rattle.cm_lemmas.proofs.Lists.{all_cons, position_below}
use Rattle.cm_lemmas.proofs.Numbers.{less_of}
use Rattle.cm_lemmas.proofs.Options.{some_number}

pub known_within : (ms : List Mention) (n : ℕ) (text : List ℕ) (k : ℕ) → known_at ms n text ≡ Some k → k < length ms
known_within ms n text k e = omega (arith, position_below (is_known_as n text) 0 ms k e)

used_within : (ms : List Mention) (text : List ℕ) (o : Option ℕ) (k : ℕ) → option_and_then (λ n. known_at ms n text) o ≡ Some k → k < length ms
used_within ms text None k e = absurd cc
used_within ms text (Some n) k e = known_within ms n text k e

pub target_within : (ms : List Mention) (r : Reference) (k : ℕ) → target ms r ≡ Some k → k < length ms
target_within ms no_reference k e = absurd cc
target_within ms (to_interface text) k e = known_within ms 0 text k e
target_within ms (to_used interface text) k e = used_within ms text (known_at ms 0 interface) k e
target_within ms (to_type n text) k e = known_within ms n text k e
target_within ms (to_resource n text) k e = known_within ms n text k e

-- ---- edges

abbrev pub Inside : ℕ → ℕ × ℕ → Type 0
Inside n e = (e.0 < n) × (e.1 < n)

if_some : (t : Bool) (a b : ℕ) (e : ℕ × ℕ) → (if t then Some (a, b) else None) ≡ Some e → (t ≡ true) × ◌≡◌ {A = ℕ × ℕ} (a, b) e
if_some true a b e q = (refl, pair_of q)
  where
    pair_of : Some (a, b) ≡ Some e → ◌≡◌ {A = ℕ × ℕ} (a, b) e
    pair_of q = cc
if_some false a b e q = absurd cc

edge_inside : (n : ℕ) (o b : Option ℕ) (e : ℕ × ℕ) → ((k : ℕ) → b ≡ Some k → k < n) → edge n o b ≡ Some e → Inside n e
edge_inside n None b e h q = absurd cc
edge_inside n (Some a) None e h q = absurd cc
edge_inside n (Some a) (Some b) e h q =
    let p = if_some (nat_lt a n) a b e q in
    subst (Inside n) p.1 (less_of a n p.0, h b refl)

if_none : (t : Bool) (o : Option (ℕ × ℕ)) (e : ℕ × ℕ) → (if t then None else o) ≡ Some e → o ≡ Some e
if_none true o e q = absurd cc
if_none false o e q = q

if_only : (t : Bool) (o : Option (ℕ × ℕ)) (e : ℕ × ℕ) → (if t then o else None) ≡ Some e → o ≡ Some e
if_only true o e q = q
if_only false o e q = absurd cc

leading_inside : (ms : List Mention) (m : Mention) (e : ℕ × ℕ) → leading_edge ms m ≡ Some e → Inside (length ms) e
leading_inside ms m e q = edge_inside (length ms) m.owner (target ms m.refers) e (target_within ms m.refers) (if_none (is_borrow m.refers) (edge (length ms) m.owner (target ms m.refers)) e q)

using_inside : (ms : List Mention) (m : Mention) (e : ℕ × ℕ) → using_edge ms m ≡ Some e → Inside (length ms) e
using_inside ms m e q = edge_inside (length ms) m.owner (target ms m.refers) e (target_within ms m.refers) (if_only (is_used m.refers) (edge (length ms) m.owner (target ms m.refers)) e q)

all_option : {A : Type 0} (P : A → Type 0) (o : Option A) (xs : List A) → ((x : A) → o ≡ Some x → P x) → All P xs → All P (cons_option o xs)
all_option P None xs h ps = ps
all_option P (Some x) xs h ps = all_cons P x xs (h x refl) ps

all_found : {A B : Type 0} (P : B → Type 0) (f : A → Option B) (xs : List A) → ((x : A) (y : B) → f x ≡ Some y → P y) → All P (filter_map f xs)
all_found P f [] h = λ k d lt. absurd (omega (arith, lt))
all_found P f (x ∷ xs) h = all_option P (f x) (filter_map f xs) (h x) (all_found P f xs h)

pub edges_within : (ms : List Mention) → IsWithin (length ms) (edges ms)
edges_within ms = all_found (Inside (length ms)) (leading_edge ms) ms (leading_inside ms)

pub using_within : (ms : List Mention) → IsWithin (length ms) (using_edges ms)
using_within ms = all_found (Inside (length ms)) (using_edge ms) ms (using_inside ms)

pub graph_within : {A : Type 0} (view : A → Mention) (xs : List A) (found : Edges) (n : ℕ) → n ≡ length xs → found ≡ edges (map view xs) → IsWithin n found
graph_within view xs found n size e = subst (λ (es : Edges). IsWithin n es) (sym e) (subst (λ (k : ℕ). IsWithin k (edges (map view xs))) (length-map xs view ∙ sym size) (edges_within (map view xs)))

pub using_graph_within : {A : Type 0} (view : A → Mention) (xs : List A) (found : Edges) (n : ℕ) → n ≡ length xs → found ≡ using_edges (map view xs) → IsWithin n found
using_graph_within view xs found n size e = subst (λ (es : Edges). IsWithin n es) (sym e) (subst (λ (k : ℕ). IsWithin k (using_edges (map view xs))) (length-map xs view ∙ sym size) (using_within (map view xs)))

-- ---- walks

target_inside : (n : ℕ) (es : Edges) (a b : ℕ) → IsWithin n es → HasEdge es a b → b < n
target_inside n es a b w c = subst (λ (e : ℕ × ℕ). e.1 < n) c.2 (w c.0 (a, b) c.1).1

pub walk_inside : (n : ℕ) (es : Edges) → IsWithin n es → (steps a b : ℕ) → a < n → Walk es a b steps → b < n
walk_inside n es w zero a b lt walk = subst (λ (x : ℕ). x < n) walk lt
walk_inside n es w (suc steps) a b lt walk = walk_inside n es w steps walk.0 b (target_inside n es a walk.0 w walk.1) walk.2

-- ---- what leads to a borrow

pub holds_by : (ms : List Mention) (marks all : List Bool) (k : ℕ) → k < length ms → ((j : ℕ) → IsMarked marks j → HasBorrow ms j) → ((j : ℕ) → j < length ms → HasBorrow ms j → IsMarked marks j) → ((a : ℕ) → IsMarked all a ↔ LeadsToMarked (edges ms) marks a) → IsMarked all k ↔ HoldsBorrow ms k
holds_by ms marks all k lt sound complete h = (
  λ m. let l = (h k).0 m in (l.0, l.1, sound l.0 l.2),
  λ b. (h k).1 (b.0, b.1, complete b.0 (walk_inside (length ms) (edges ms) (edges_within ms) b.1.0 k b.0 lt b.1.1) b.2),
)

pub holds_all : {A : Type 0} (view : A → Mention) (xs : List A) (marks all : List Bool) → ((j : ℕ) → IsMarked marks j → HasBorrow (map view xs) j) → ((j : ℕ) → j < length xs → HasBorrow (map view xs) j → IsMarked marks j) → (es : Edges) → es ≡ edges (map view xs) → ((a : ℕ) → IsMarked all a ↔ LeadsToMarked es marks a) → (k : ℕ) → k < length xs → IsMarked all k ↔ HoldsBorrow (map view xs) k
holds_all view xs marks all sound complete es e h k lt =
    let within : k < length (map view xs) = omega (arith, lt, length-map xs view) in
    holds_by (map view xs) marks all k within sound (λ j q. complete j (omega (arith, q, length-map xs view))) (λ a. subst (λ (y : Edges). IsMarked all a ↔ LeadsToMarked y marks a) e (h a))

pub leads_some : {A : Type 0} (view : A → Mention) (xs : List A) (r : Reference) (marks : List Bool) (k : ℕ) (b : Bool) → Some k ≡ target (map view xs) r → ((j : ℕ) → j < length xs → (IsMarked marks j ↔ HoldsBorrow (map view xs) j)) → ((b ≡ true) ↔ IsMarked marks k) → (b ≡ true) ↔ LeadsOn (map view xs) r
leads_some view xs r marks k b e h marked =
    let within : k < length xs = omega (arith, target_within (map view xs) r k (sym e), length-map xs view) in (
      λ t. (k, sym e, (h k within).0 (marked.0 t)),
      λ l. marked.1 ((h k within).1 (subst (HoldsBorrow (map view xs)) (some_number l.0 k (sym l.1 ∙ sym e)) l.2)),
    )

pub leads_nowhere : (ms : List Mention) (r : Reference) → None ≡ target ms r → (false ≡ true) ↔ LeadsOn ms r
leads_nowhere ms r e = (λ t. absurd (false_true t), λ l. absurd (none_some l.0 (e ∙ l.1)))
  where
    false_true : false ≡ true → ⊥
    false_true q = cc

    none_some : (k : ℕ) → None ≡ Some k → ⊥
    none_some k q = cc

pub ruleset leads_laws = (leads_some, leads_nowhere)
