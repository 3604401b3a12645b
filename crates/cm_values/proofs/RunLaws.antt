-- Runs, byte by byte.
use Rattle.std.proofs.Common.{◌≡◌, ℕ, ◌+◌, ◌<◌, ◌≤◌, Bool, true, false, List, [], ◌∷◌, length, drop, get_or, refl}
use Rattle.std.proofs.lemmas.List.{drop_more, drop_all}
use Rattle.cm_values.specs.Grammar.{run_front, run_behind}

pub run_stops : (test : ℕ → Bool) (text : List ℕ) (i : ℕ) → i < length text → test (get_or text i 0) ≡ false → (run_front test (drop i text) ≡ []) × (run_behind test (drop i text) ≡ drop i text)
run_stops test text i lt e = rw (drop_more text i 0 lt, e) (refl, refl)

pub run_goes_on : (test : ℕ → Bool) (text : List ℕ) (i : ℕ) → i < length text → test (get_or text i 0) ≡ true → (run_front test (drop i text) ≡ get_or text i 0 ∷ run_front test (drop (i + 1) text)) × (run_behind test (drop i text) ≡ run_behind test (drop (i + 1) text))
run_goes_on test text i lt e = rw (drop_more text i 0 lt, e) (refl, refl)

pub run_at_end : (test : ℕ → Bool) (text : List ℕ) (i : ℕ) → length text ≤ i → (run_front test (drop i text) ≡ []) × (run_behind test (drop i text) ≡ [])
run_at_end test text i le = rw (drop_all i text le) (refl, refl)

pub ruleset run_laws = (run_stops, run_goes_on, run_at_end)
