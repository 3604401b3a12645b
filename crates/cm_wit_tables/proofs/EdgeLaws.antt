-- What is brought from where, edge by edge.
use Rattle.std.proofs.Common.{◌≡◌, ℕ, ◌+◌, ◌<◌, List, [], ◌∷◌, ◌++◌, length, get_or, Option, Some, None, sym, ap}
use Rattle.std.specs.List.{cons_option}
use Rattle.std.specs.Option.{option_map}
use Rattle.cm_wit_graph.specs.Graphs.{Edges}
use Rattle.cm_names.specs.Keys.{Key}
use Rattle.cm_wit_tables.specs.Declarations.{Declaration}
use Rattle.cm_wit_tables.specs.Leading.{brought_target}
use Rattle.cm_wit_tables.specs.Resources.{brought_edges}
use Rattle.cm_wit_tables.proofs.MapLaws.{Makes, makes_none, makes_push, makes_skip, makes_all}

pub edge_some : {A : Type 0} (view : A → Declaration) (keys : List Key) (xs : List A) (i : ℕ) (out : Edges) (x : A) (j : ℕ) → i < length xs → x ≡ get_or xs i x → Some j ≡ brought_target keys (view x).is → Makes view (brought_edges keys) xs i out → Makes view (brought_edges keys) xs (i + 1) (out ++ (i, j) ∷ [])
edge_some view keys xs i out x j lt e s f = makes_push view (brought_edges keys) xs i out x (i, j) lt e (λ ys. ap (λ (o : Option ℕ). cons_option (option_map (λ n. (i, n)) o) (brought_edges keys (i + 1) ys)) (sym s)) f

pub edge_none : {A : Type 0} (view : A → Declaration) (keys : List Key) (xs : List A) (i : ℕ) (out : Edges) (x : A) → i < length xs → x ≡ get_or xs i x → None ≡ brought_target keys (view x).is → Makes view (brought_edges keys) xs i out → Makes view (brought_edges keys) xs (i + 1) out
edge_none view keys xs i out x lt e s f = makes_skip view (brought_edges keys) xs i out x lt e (λ ys. ap (λ (o : Option ℕ). cons_option (option_map (λ n. (i, n)) o) (brought_edges keys (i + 1) ys)) (sym s)) f

pub ruleset edge_laws = (makes_none, edge_some, edge_none, makes_all)
