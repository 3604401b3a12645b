-- Refusals are of one line.
use Rattle.std.proofs.Common.{◌≡◌, ◌+◌, ◌==◌, ℕ, suc, Bool, true, false, List, [], ◌∷◌, refl, subst, sym, arith}
use Rattle.std.specs.Prelude.{not, take, if◌then◌else◌}
use Rattle.std.specs.List.{before_first, position_or_len}
use Rattle.std.proofs.lemmas.Bool.{eqb-false}
use Rattle.cm_live.specs.Lines.{IsOneLine}

-- what stands before the first line feed has none
pub before_line_feed : (text : List ℕ) → IsOneLine (before_first (λ b. b == 10) text)
before_line_feed [] = tt
before_line_feed (b ∷ text) = by (b == 10) refl (before_line_feed text)
  where
    by : (feed : Bool) → (b == 10) ≡ feed → IsOneLine (before_first (λ c. c == 10) text) → IsOneLine (before_first (λ c. c == 10) (b ∷ text))
    by true e rest = subst (λ t. IsOneLine (take (if not t then 1 + position_or_len (λ c. c == 10) text else 0) (b ∷ text))) (sym e) tt
    by false e rest =
        let longer : suc (position_or_len (λ c. c == 10) text) ≡ 1 + position_or_len (λ c. c == 10) text = omega arith in
        subst (λ t. IsOneLine (take (if not t then 1 + position_or_len (λ c. c == 10) text else 0) (b ∷ text))) (sym e) (subst (λ n. IsOneLine (take n (b ∷ text))) longer (eqb-false b 10 e, rest))
