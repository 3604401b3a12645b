-- Bytes come to one answer: a value that they spell, or their first fault.
use Rattle.std.proofs.Common.{◌≡◌, ℕ, List, Result, Ok, Err}
use Rattle.cm_binary_grammar.specs.declared.fault.Fault.{Fault}
use Rattle.cm_binary_grammar.specs.declared.fault.End.{End}
use Rattle.cm_binary_grammar.specs.Whole.{Whole}
use Rattle.cm_binary_grammar.proofs.WholeLaws.{LawfulWhole}
use Rattle.cm_lemmas.proofs.Lists.{IsBytes}

-- What the bytes come to: the value that they spell, or their first fault.
abbrev pub ComesTo : {R A : Type 0} → Whole R A → End R → List ℕ → Result A (Fault R) → Type 0
ComesTo w e bytes (Ok x) = w.Spells x bytes
ComesTo w e bytes (Err f) = w.Faulty e bytes f

pub read_comes : {R A : Type 0} (w : Whole R A) → LawfulWhole w → (e : End R) (bytes : List ℕ) (answer : Result A (Fault R)) → IsBytes bytes → w.reads e bytes ≡ answer → ComesTo w e bytes answer
read_comes w l e bytes (Ok x) fits h = l.takes e bytes x fits h
read_comes w l e bytes (Err f) fits h = l.faulty e bytes f fits h

pub comes_read : {R A : Type 0} (w : Whole R A) → LawfulWhole w → (e : End R) (bytes : List ℕ) (answer : Result A (Fault R)) → ComesTo w e bytes answer → w.reads e bytes ≡ answer
comes_read w l e bytes (Ok x) h = l.again e x bytes h
comes_read w l e bytes (Err f) h = l.faulty_again e bytes f h
