-- The laws of a walk: what is left to do on a path gives the order.
use Rattle.std.proofs.lemmas.List.{take_more}
use Rattle.std.proofs.Common.{take, ◌≡◌, ℕ, zero, suc, ◌+◌, true, false, List, [], ◌∷◌, ◌++◌, drop, get_or, refl, sym, ap, subst, ◌∙◌, arith, ◌<◌, length, Some, None, slice_get}
use Rattle.cm_wit_graph.specs.DepthFirst.{Orders, over, is_there, is_new, is_among}
use Rattle.cm_wit_graph.specs.Paths.{After, Leaves}
use Rattle.cm_lemmas.proofs.Options.{some_number}

top : (needs : ℕ → List ℕ) (fs : List (ℕ × ℕ)) (f : ℕ × ℕ) (P : List ℕ → Type 0) (placed : List ℕ) → Leaves needs (fs ++ f ∷ []) P placed → After needs f (Leaves needs fs P) placed
top needs [] f P placed h = h
top needs (g ∷ fs) f P placed h = top needs fs f (After needs g P) placed h

put : (needs : ℕ → List ℕ) (fs : List (ℕ × ℕ)) (f : ℕ × ℕ) (P : List ℕ → Type 0) (placed : List ℕ) → After needs f (Leaves needs fs P) placed → Leaves needs (fs ++ f ∷ []) P placed
put needs [] f P placed h = h
put needs (g ∷ fs) f P placed h = put needs fs f (After needs g P) placed h

drop_from : (xs : List ℕ) (k x : ℕ) → slice_get xs k ≡ Some x → drop k xs ≡ x ∷ drop (suc k) xs
drop_from [] k x e = absurd cc
drop_from (y ∷ ys) zero x e = ap (λ (z : ℕ). z ∷ ys) (some_number y x e)
drop_from (y ∷ ys) (suc k) x e = drop_from ys k x e

next : (k : ℕ) → suc k ≡ k + 1
next k = omega arith

drop_at : (xs : List ℕ) (k x : ℕ) → slice_get xs k ≡ Some x → drop k xs ≡ x ∷ drop (k + 1) xs
drop_at xs k x e = drop_from xs k x e ∙ ap (λ (j : ℕ). x ∷ drop j xs) (next k)

drop_past : (xs : List ℕ) (k : ℕ) → slice_get xs k ≡ None → drop k xs ≡ []
drop_past [] zero e = refl
drop_past [] (suc k) e = refl
drop_past (y ∷ ys) zero e = absurd cc
drop_past (y ∷ ys) (suc k) e = drop_past ys k e

-- a node whose needs are placed is placed
pub leaves_node : (needs : ℕ → List ℕ) (fs : List (ℕ × ℕ)) (n k : ℕ) (P : List ℕ → Type 0) (placed : List ℕ) → slice_get (needs n) k ≡ None → Leaves needs (fs ++ (n, k) ∷ []) P placed → Leaves needs fs P (placed ++ n ∷ [])
leaves_node needs fs n k P placed e h = top needs fs (n, k) P placed h placed (subst (λ l. Orders needs placed l placed) (sym (drop_past (needs n) k e)) (over placed))

-- a need is passed that is placed already
pub leaves_placed : (needs : ℕ → List ℕ) (fs : List (ℕ × ℕ)) (n k x : ℕ) (P : List ℕ → Type 0) (placed : List ℕ) → slice_get (needs n) k ≡ Some x → is_among x placed ≡ true → Leaves needs (fs ++ (n, k) ∷ []) P placed → Leaves needs (fs ++ (n, k + 1) ∷ []) P placed
leaves_placed needs fs n k x P placed e there h = put needs fs (n, k + 1) P placed (λ before o. top needs fs (n, k) P placed h before (subst (λ l. Orders needs placed l before) (sym (drop_at (needs n) k x e)) (is_there x placed (drop (k + 1) (needs n)) before there o)))

-- a need is begun that is not
pub leaves_begun : (needs : ℕ → List ℕ) (fs : List (ℕ × ℕ)) (n k x : ℕ) (P : List ℕ → Type 0) (placed : List ℕ) → slice_get (needs n) k ≡ Some x → is_among x placed ≡ false → Leaves needs (fs ++ (n, k) ∷ []) P placed → Leaves needs ((fs ++ (n, k + 1) ∷ []) ++ (x, 0) ∷ []) P placed
leaves_begun needs fs n k x P placed e new h = put needs (fs ++ (n, k + 1) ∷ []) (x, 0) P placed (λ before o. put needs fs (n, k + 1) P (before ++ x ∷ []) (λ all q. top needs fs (n, k) P placed h all (subst (λ l. Orders needs placed l all) (sym (drop_at (needs n) k x e)) (is_new x placed before (drop (k + 1) (needs n)) all new o q))))

-- one node to be placed that is not
pub begins : (needs : ℕ → List ℕ) (n : ℕ) (placed : List ℕ) → is_among n placed ≡ false → Leaves needs ([] ++ (n, 0) ∷ []) (Orders needs placed (n ∷ [])) placed
begins needs n placed new = λ before o. is_new n placed before [] (before ++ n ∷ []) new o (over (before ++ n ∷ []))

pub was_there : (needs : ℕ → List ℕ) (n : ℕ) (placed : List ℕ) → is_among n placed ≡ true → Orders needs placed (n ∷ []) placed
was_there needs n placed there = is_there n placed [] placed there (over placed)

pub ruleset place_laws = (begins, was_there)

pub ruleset walk_laws = (leaves_node, leaves_placed, leaves_begun)

-- ---- several nodes

pub orders_then : (needs : ℕ → List ℕ) (start xs mid ys end : List ℕ) → Orders needs start xs mid → Orders needs mid ys end → Orders needs start (xs ++ ys) end
orders_then needs start _ _ ys end (over _) o = o
orders_then needs start _ mid ys end (is_there n _ nodes _ e rest) o = is_there n start (nodes ++ ys) end e (orders_then needs start nodes mid ys end rest o)
orders_then needs start _ mid ys end (is_new n _ before nodes _ e own rest) o = is_new n start before (nodes ++ ys) end e own (orders_then needs (before ++ n ∷ []) nodes mid ys end rest o)

pub orders_none : (needs : ℕ → List ℕ) (start : List ℕ) → Orders needs start [] start
orders_none needs start = over start

pub orders_more : (needs : ℕ → List ℕ) (xs : List ℕ) (i : ℕ) (start mid end : List ℕ) → i < length xs → Orders needs start (take i xs) mid → Orders needs mid (get_or xs i 0 ∷ []) end → Orders needs start (take (i + 1) xs) end
orders_more needs xs i start mid end lt o p = subst (λ l. Orders needs start l end) (sym (take_more xs i 0 lt)) (orders_then needs start (take i xs) mid (get_or xs i 0 ∷ []) end o p)

pub ruleset all_laws = (orders_none, orders_more)
