-- What one more byte does to a run.
use Rattle.std.proofs.Common.{◌≡◌, ℕ, zero, suc, ◌+◌, ◌<◌, ◌≤◌, Bool, true, false, List, [], ◌∷◌, ◌≢◌, length, drop, get_or, refl, ap, subst, ◌∙◌, arith}
use Rattle.std.proofs.lemmas.List.{drop_more, drop_all}
use Rattle.std.specs.Str.{IsAscii, IsUtf8}
use Rattle.std.proofs.lemmas.Str.{IsUtf8-from_ascii}
use Rattle.std.proofs.lemmas.Str.Ascii.{IsAscii-cons, IsAscii-nil}
use Rattle.std.proofs.lemmas.Bool.Decides.{nat_tests}
use Rattle.cm_wit_tokens.specs.Runs.{belongs, goes_on, run_length, run_text}
use Rattle.cm_wit_projects_tokens.specs.declared.run.Run.{Run}
use Rattle.cm_wit_projects_tokens.specs.declared.run.Run.TheVariants as run
use Rattle.cm_wit_projects_tokens.specs.Views.{run_view}

first_goes : (k : Run) (b : ℕ) (rest : List ℕ) → belongs (run_view k) b rest ≡ true → run_length (run_view k) (b ∷ rest) ≡ suc (run_length (run_view k) rest)
unfolding run_length
first_goes k b rest h = rw h refl

stops : (k : Run) (text : List ℕ) → goes_on (run_view k) text ≡ false → run_length (run_view k) text ≡ zero
unfolding run_length
stops k [] h = refl
stops k (b ∷ rest) h = rw h refl

pub run_goes : (k : Run) (text : List ℕ) (i : ℕ) → i < length text → goes_on (run_view k) (drop i text) ≡ true → i + run_length (run_view k) (drop i text) ≡ i + 1 + run_length (run_view k) (drop (i + 1) text)
run_goes k text i lt h =
    let e = drop_more text i 0 lt in
    let g = first_goes k (get_or text i 0) (drop (i + 1) text) (subst (λ (t : List ℕ). goes_on (run_view k) t ≡ true) e h) in
    let r : run_length (run_view k) (drop i text) ≡ suc (run_length (run_view k) (drop (i + 1) text)) = ap (run_length (run_view k)) e ∙ g in
    omega (arith, r)

pub run_stops : (k : Run) (text : List ℕ) (i : ℕ) → goes_on (run_view k) (drop i text) ≡ false → i + run_length (run_view k) (drop i text) ≡ i
run_stops k text i h = omega (arith, stops k (drop i text) h)

pub run_at_end : (k : Run) (text : List ℕ) (i : ℕ) → length text ≤ i → i + run_length (run_view k) (drop i text) ≡ i
unfolding run_length
run_at_end k text i le = rw (drop_all i text le) (omega arith)

-- a run of words, digits or versions is ASCII
part_is_ascii : (k : Run) (b : ℕ) (rest : List ℕ) → k ≢ run.Line → belongs (run_view k) b rest ≡ true → b < 128
part_is_ascii run.Word b rest some h = grind (arith, nat_tests)
part_is_ascii run.Digits b rest some h = grind (arith, nat_tests)
part_is_ascii run.Version b rest some h = grind (arith, nat_tests)
part_is_ascii run.Line b rest some h = absurd (some refl)

ascii_step : (k : Run) (b : ℕ) (rest : List ℕ) (goes : Bool) → k ≢ run.Line → belongs (run_view k) b rest ≡ goes → IsAscii (run_text (run_view k) rest) → IsAscii (run_text (run_view k) (b ∷ rest))
unfolding run_length
ascii_step k b rest true some e h = rw e (IsAscii-cons b (run_text (run_view k) rest) (part_is_ascii k b rest some e) h)
ascii_step k b rest false some e h = rw e IsAscii-nil

run_ascii : (k : Run) (text : List ℕ) → k ≢ run.Line → IsAscii (run_text (run_view k) text)
unfolding run_length
run_ascii k [] some = IsAscii-nil
run_ascii k (b ∷ rest) some = ascii_step k b rest (belongs (run_view k) b rest) some refl (run_ascii k rest some)

pub run_utf8 : (k : Run) (text : List ℕ) → k ≢ run.Line → IsUtf8 (run_text (run_view k) text)
run_utf8 k text some = IsUtf8-from_ascii (run_text (run_view k) text) (run_ascii k text some)

pub ruleset run_laws = (run_goes, run_stops, run_at_end)
