-- What one more byte does to a run.
use Rattle.std.proofs.Common.{◌≡◌, ℕ, zero, suc, ◌+◌, ◌<◌, ◌≤◌, Bool, true, false, List, [], ◌∷◌, ◌≢◌, length, take, drop, get_or, refl, sym, ap, subst, ◌∙◌, arith}
use Rattle.std.proofs.lemmas.List.{drop_more, drop_all}
use Rattle.std.specs.Str.{IsAscii}
use Rattle.std.proofs.lemmas.Bool.Decides.{nat_tests}
use Rattle.cm_wit_tokens.specs.declared.run.Run.{Run}
use Rattle.cm_wit_tokens.specs.declared.run.Run.TheVariants as run
use Rattle.cm_wit_tokens.specs.Runs.{belongs, goes_on, run_length}

pub first_goes : (k : Run) (b : ℕ) (rest : List ℕ) → goes_on k (b ∷ rest) ≡ true → run_length k (b ∷ rest) ≡ suc (run_length k rest)
unfolding run_length
first_goes k b rest h = rw h refl

stops : (k : Run) (text : List ℕ) → goes_on k text ≡ false → run_length k text ≡ zero
unfolding run_length
stops k [] h = refl
stops k (b ∷ rest) h = rw h refl

pub run_goes : (k : Run) (text : List ℕ) (i : ℕ) → i < length text → goes_on k (drop i text) ≡ true → i + run_length k (drop i text) ≡ i + 1 + run_length k (drop (i + 1) text)
run_goes k text i lt h =
    let e = drop_more text i 0 lt in
    let g = first_goes k (get_or text i 0) (drop (i + 1) text) (subst (λ (t : List ℕ). goes_on k t ≡ true) e h) in
    let r : run_length k (drop i text) ≡ suc (run_length k (drop (i + 1) text)) = ap (run_length k) e ∙ g in
    omega (arith, r)

pub run_stops : (k : Run) (text : List ℕ) (i : ℕ) → goes_on k (drop i text) ≡ false → i + run_length k (drop i text) ≡ i
run_stops k text i h = omega (arith, stops k (drop i text) h)

-- the same, by the first byte alone
pub byte_goes : (k : Run) (text : List ℕ) (i : ℕ) → i < length text → belongs k (get_or text i 0) (drop (i + 1) text) ≡ true → i + run_length k (drop i text) ≡ i + 1 + run_length k (drop (i + 1) text)
byte_goes k text i lt h = run_goes k text i lt (subst (λ (t : List ℕ). goes_on k t ≡ true) (sym (drop_more text i 0 lt)) h)

pub byte_stops : (k : Run) (text : List ℕ) (i : ℕ) → i < length text → belongs k (get_or text i 0) (drop (i + 1) text) ≡ false → i + run_length k (drop i text) ≡ i
byte_stops k text i lt h = run_stops k text i (subst (λ (t : List ℕ). goes_on k t ≡ false) (sym (drop_more text i 0 lt)) h)

pub run_at_end : (k : Run) (text : List ℕ) (i : ℕ) → length text ≤ i → i + run_length k (drop i text) ≡ i
unfolding run_length
run_at_end k text i le = rw (drop_all i text le) (omega arith)

-- a run of words, digits or versions is ASCII
part_is_ascii : (k : Run) (b : ℕ) (rest : List ℕ) → k ≢ run.Line → belongs k b rest ≡ true → b < 128
part_is_ascii run.Word b rest some h = grind (arith, nat_tests)
part_is_ascii run.Digits b rest some h = grind (arith, nat_tests)
part_is_ascii run.Version b rest some h = grind (arith, nat_tests)
part_is_ascii run.Line b rest some h = absurd (some refl)

abbrev nothing : List ℕ
nothing = []

pub more_ascii : (b : ℕ) (rest : List ℕ) → b < 128 → IsAscii rest → IsAscii (b ∷ rest)
more_ascii b rest lt h zero = lt
more_ascii b rest lt h (suc i) = h i

no_bytes : (n : ℕ) → take n (nothing) ≡ []
no_bytes zero = refl
no_bytes (suc n) = refl

ascii_step : (k : Run) (b : ℕ) (rest : List ℕ) (goes : Bool) → k ≢ run.Line → belongs k b rest ≡ goes → IsAscii (take (run_length k rest) rest) → IsAscii (take (run_length k (b ∷ rest)) (b ∷ rest))
unfolding run_length
ascii_step k b rest true some e h = rw e (more_ascii b (take (run_length k rest) rest) (part_is_ascii k b rest some e) h)
ascii_step k b rest false some e h = rw e (λ i. omega arith)

pub run_ascii : (k : Run) (text : List ℕ) → k ≢ run.Line → IsAscii (take (run_length k text) text)
run_ascii k [] some = λ i. rw (no_bytes (run_length k [])) (omega arith)
run_ascii k (b ∷ rest) some = ascii_step k b rest (belongs k b rest) some refl (run_ascii k rest some)

-- a run whose first byte belongs to it is not empty
pub run_some : (k : Run) (b : ℕ) (rest : List ℕ) → belongs k b rest ≡ true → 0 < run_length k (b ∷ rest)
run_some k b rest h = omega (arith, first_goes k b rest h)

within_step : (k : Run) (b : ℕ) (rest : List ℕ) (goes : Bool) → belongs k b rest ≡ goes → run_length k rest ≤ length rest → run_length k (b ∷ rest) ≤ suc (length rest)
unfolding run_length
within_step k b rest true e h = rw e (omega (arith, h))
within_step k b rest false e h = rw e (omega arith)

pub run_within : (k : Run) (text : List ℕ) → run_length k text ≤ length text
unfolding run_length
run_within k [] = omega arith
run_within k (b ∷ rest) = within_step k b rest (belongs k b rest) refl (run_within k rest)

pub run_empty : (k : Run) (b : ℕ) (rest : List ℕ) → belongs k b rest ≡ false → run_length k (b ∷ rest) ≡ zero
unfolding run_length
run_empty k b rest h = rw h refl

pub ruleset run_laws = (run_goes, run_stops, run_at_end)
