-- What reading the words of a line shows of the line.
use Rattle.std.proofs.Common.{◌≡◌, ℕ, List, [], ◌∷◌, codes, Result, Ok, Err, sym, subst, refl, ap, ◌∙◌, get_or, eq-eqb, ◌==◌, true, false}
use Rattle.std.specs.Fmt.{decimal}
use Rattle.std.specs.Result.{IfOk, IfErr}
use Rattle.cm_machine_model.specs.declared.moves.Move.TheVariants.{Write, Grow, Call, Return, Unreachable}
use Rattle.cm_tool_script.specs.HexBytes.{Spells}
use Rattle.cm_tool_script.specs.Statements.{AreReadAs, AreRefused, AreStatement, AreWriteOfNoBytes}
use Rattle.cm_tool_script.specs.declared.statement.LineFault.{LineFault}
use Rattle.cm_tool_script.specs.declared.statement.LineFault.TheVariants as fault
use Rattle.cm_tool_script.specs.declared.statement.Statement.{Statement}
use Rattle.cm_tool_script.specs.declared.statement.Statement.TheVariants as statement

-- two words whose first letters differ are not both the first
apart : (words : List (List ℕ)) (v w : List ℕ) (rest more : List (List ℕ))
    → (get_or v 0 0 == get_or w 0 0) ≡ false → words ≡ v ∷ rest → words ≡ w ∷ more → ⊥
apart words v w rest more differ e f =
    let letter : get_or v 0 0 ≡ get_or w 0 0 = ap (λ (ws : List (List ℕ)). get_or (get_or ws 0 []) 0 0) (sym e ∙ f) in
    let same : (get_or v 0 0 == get_or w 0 0) ≡ true = eq-eqb (get_or v 0 0) (get_or w 0 0) letter in absurd (cc)

-- a `write` of a word that spells no bytes is no statement
pub write-none : (words : List (List ℕ)) (s : Statement) → AreWriteOfNoBytes words → AreStatement words s → ⊥
write-none words (statement.Pages counts) (at, hex, (e, small), none) (rest, is, said) =
    apart words (codes "write") (codes "pages") (decimal at ∷ hex ∷ []) rest refl e is
write-none words (statement.Guest index) (at, hex, (e, small), none) (is, low) =
    apart words (codes "write") (codes "guest") (decimal at ∷ hex ∷ []) (decimal index ∷ []) refl e is
write-none words (statement.Begin index) (at, hex, (e, small), none) (is, low) =
    apart words (codes "write") (codes "begin") (decimal at ∷ hex ∷ []) (decimal index ∷ []) refl e is
write-none words (statement.Move (Grow pages)) (at, hex, (e, small), none) (is, low) =
    apart words (codes "write") (codes "grow") (decimal at ∷ hex ∷ []) (decimal pages ∷ []) refl e is
write-none words (statement.Move (Call func args)) (at, hex, (e, small), none) (rest, is, low, said) =
    apart words (codes "write") (codes "call") (decimal at ∷ hex ∷ []) (decimal func ∷ rest) refl e is
write-none words (statement.Move (Return values)) (at, hex, (e, small), none) (rest, is, said) =
    apart words (codes "write") (codes "return") (decimal at ∷ hex ∷ []) rest refl e is
write-none words (statement.Move Unreachable) (at, hex, (e, small), none) is =
    apart words (codes "write") (codes "unreachable") (decimal at ∷ hex ∷ []) [] refl e is
write-none words (statement.Move (Write to bytes)) (at, hex, (e, small), none) (text, (is, low), spelled) =
    let same : text ≡ hex = cc in none bytes.items (subst (λ t. Spells t bytes.items) same spelled)

-- what is read without a fault is said
pub read-said : (words : List (List ℕ)) (r : Result Statement LineFault) → AreReadAs words r → IfOk r (λ s. AreStatement words s)
read-said words (Ok s) h = h
read-said words (Err e) h = tt

-- words that are a statement are refused for memory alone
pub read-complete : (words : List (List ℕ)) (r : Result Statement LineFault) → AreReadAs words r
    → (s : Statement) → AreStatement words s → IfErr r (λ e. e ≡ fault.Memory)
read-complete words (Ok t) h s said = tt
read-complete words (Err fault.Memory) h s said = refl
read-complete words (Err fault.NotAStatement) h s said = absurd (h.0 s said)
read-complete words (Err fault.BadHex) h s said = absurd (write-none words s h said)
read-complete words (Err fault.PagesFirst) h s said = absurd h
read-complete words (Err fault.PagesTwice) h s said = absurd h
read-complete words (Err fault.NoGuest) h s said = absurd h
read-complete words (Err fault.NoSuchComponent) h s said = absurd h

-- what is refused says why
pub read-refused : (words : List (List ℕ)) (r : Result Statement LineFault) → AreReadAs words r → IfErr r (λ e. AreRefused words e)
read-refused words (Ok s) h = tt
read-refused words (Err e) h = h
