-- A `write` whose bytes are refused.
use Rattle.std.proofs.Common.{◌≡◌, ℕ, ◌<◌, ◌≤◌, List, [], ◌∷◌, length, get_or, map, codes, Result, Ok, Err}
use Rattle.std.proofs.Common.{Bor, sym, ap, subst, arith}
use Rattle.std.specs.Result.{IsErrAnd}
use Rattle.cm_tool_script.specs.HexBytes.{Spells}
use Rattle.cm_tool_script.specs.LineFaults.{line_fault_of}
use Rattle.cm_tool_script.specs.Statements.{AreReadAs, AreRefused, IsNumber}
use Rattle.cm_tool_script.specs.declared.hex_bytes.ScriptFault.{ScriptFault}
use Rattle.cm_tool_script.specs.declared.hex_bytes.ScriptFault.TheVariants as script
use Rattle.cm_tool_script.specs.declared.statement.LineFault.{LineFault}
use Rattle.cm_tool_script.specs.declared.statement.Statement.{Statement}

-- a fault of the bytes says why `write` and two words are refused
refused-as : (at hex : List ℕ) (n : ℕ) (e : ScriptFault) → IsNumber at n
    → ((bytes : List ℕ) → Spells hex bytes → e ≡ script.Memory)
    → AreRefused (codes "write" ∷ at ∷ hex ∷ []) (line_fault_of e)
refused-as at hex n script.BadHex number none = (
  n,
  hex,
  (ap (λ w. codes "write" ∷ w ∷ hex ∷ []) number.0, number.1),
  λ bytes spells.
      let same : script.BadHex ≡ script.Memory = none bytes spells in absurd (cc),
)
refused-as at hex n script.Memory number none = tt

-- and so it is of two words of a line
pub write-refused : (words : List (Bor (List ℕ))) (d : Bor (List ℕ)) (e : ScriptFault) (n : ℕ)
    (r : Result Statement LineFault) → 2 ≤ length words → length words < 3
    → IsNumber (get_or words 0 d).now n
    → ((bytes : List ℕ) → Spells (get_or words 1 d).now bytes → e ≡ script.Memory)
    → IsErrAnd r (λ f. f ≡ line_fault_of e) → AreReadAs (codes "write" ∷ map (λ w. w.now) words) r
write-refused words d e n (Ok s) low high number none is = absurd is
write-refused [] d e n (Err f) low high number none is = absurd (omega arith)
write-refused (a ∷ []) d e n (Err f) low high number none is = absurd (omega arith)
write-refused (a ∷ b ∷ []) d e n (Err f) low high number none is =
    subst (AreRefused (codes "write" ∷ a.now ∷ b.now ∷ [])) (sym is) (refused-as a.now b.now n e number none)
write-refused (a ∷ b ∷ c ∷ words) d e n (Err f) low high number none is = absurd (omega arith)
