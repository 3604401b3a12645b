-- The lists of what waits.
use Rattle.std.proofs.Common.{◌≡◌, ◌≢◌, ℕ, ◌<◌, List, [], length, map, get_or, sym, ap, ◌∙◌, arith}
use Rattle.std.proofs.Math.ListN.{set}
use Rattle.std.specs.Global.{Vec}
use Rattle.std.proofs.lemmas.List.{map-set, length-map, get_or-map, get_or-set_same, get_or-set_other}
use Rattle.cm_wit_graph.specs.Orders.{needs_of}
use Rattle.cm_wit_graph.specs.Walks.{Entry, entries_of}

pub list_here : (ws : List (Vec Entry)) (n : ℕ) (v : Vec Entry) → n < length ws → entries_of (set ws n v) n ≡ v.items
list_here ws n v lt = ap (λ (l : List (List Entry)). get_or l n []) (map-set (λ (r : Vec Entry). r.items) ws n v) ∙ get_or-set_same (map (λ (r : Vec Entry). r.items) ws) n v.items [] (omega (arith, lt, length-map ws (λ (r : Vec Entry). r.items)))

pub list_other : (ws : List (Vec Entry)) (n j : ℕ) (v : Vec Entry) → j ≢ n → entries_of (set ws n v) j ≡ entries_of ws j
list_other ws n j v d = ap (λ (l : List (List Entry)). get_or l j []) (map-set (λ (r : Vec Entry). r.items) ws n v) ∙ get_or-set_other (map (λ (r : Vec Entry). r.items) ws) n j v.items [] d

pub list_is : (ws : List (Vec Entry)) (n : ℕ) (v : Vec Entry) → n < length ws → v ≡ get_or ws n v → entries_of ws n ≡ v.items
list_is ws n v lt e = get_or-map (λ (r : Vec Entry). r.items) ws n v [] lt ∙ ap (λ (r : Vec Entry). r.items) (sym e)

pub row_read : (rows : List (Vec ℕ)) (n : ℕ) (v : Vec ℕ) → n < length rows → needs_of rows n ≡ (get_or rows n v).items
row_read rows n v lt = get_or-map (λ (r : Vec ℕ). r.items) rows n v [] lt
