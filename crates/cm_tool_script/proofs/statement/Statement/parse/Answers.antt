use Rattle.std.proofs.Common.{◌≡◌, ◌∙◌, ℕ, List, map, ap, subst, lit<, Ok, Bor, Result}
use Rattle.std.proofs.lemmas.Iterator.Consumers.{map_from_collect}
use Rattle.std.proofs.lemmas.Iterator.Splits.{YieldsList-from_str_split}
use Rattle.cm_tool_script.specs.Statements.{AreReadAs, words_of}
use Rattle.cm_tool_script.specs.declared.statement.LineFault.{LineFault}
use Rattle.cm_tool_script.specs.declared.statement.Statement.{Statement}
use Rattle.cm_tool_script.proofs.ReadLaws.{read-said, read-complete, read-refused}
use Rattle.cm_tool_script.proofs.statement.Statement.parse.Goals as goal

-- what is read of a slice that has a line's words is read of the line
of-line : (slice items : List (Bor (List ℕ))) (line : List ℕ) (r : Result Statement LineFault) → slice ≡ items
    → map (λ w. w.now) items ≡ words_of line → AreReadAs (map (λ w. w.now) slice) r → AreReadAs (words_of line) r
of-line slice items line r same cut read =
    subst (λ (words : List (List ℕ)). AreReadAs words r) (ap (λ (xs : List (Bor (List ℕ))). map (λ w. w.now) xs) same ∙ cut) read

pub returns-clause-spelled : goal.returns-clause-spelled
returns-clause-spelled c =
    let cut = map_from_collect {E = Unit {0}} (Ok c.in_ok-words.words) c.in_ok-words.ensures.ran
    (YieldsList-from_str_split 32 c.args.line.now (lit< tt) c.split.ensures.text c.split.ensures.has_more c.split.ensures.pattern) in
    read-said (words_of c.args.line.now) c.read_words.result
    (of-line c.as_slice.result.now c.in_ok-words.words.items c.args.line.now c.read_words.result c.as_slice.ensures.value cut c.read_words.ensures)

pub returns-clause-complete : goal.returns-clause-complete
returns-clause-complete c =
    let cut = map_from_collect {E = Unit {0}} (Ok c.in_ok-words.words) c.in_ok-words.ensures.ran
    (YieldsList-from_str_split 32 c.args.line.now (lit< tt) c.split.ensures.text c.split.ensures.has_more c.split.ensures.pattern) in
    read-complete (words_of c.args.line.now) c.read_words.result
    (of-line c.as_slice.result.now c.in_ok-words.words.items c.args.line.now c.read_words.result c.as_slice.ensures.value cut c.read_words.ensures)

pub returns-clause-refused : goal.returns-clause-refused
returns-clause-refused c =
    let cut = map_from_collect {E = Unit {0}} (Ok c.in_ok-words.words) c.in_ok-words.ensures.ran
    (YieldsList-from_str_split 32 c.args.line.now (lit< tt) c.split.ensures.text c.split.ensures.has_more c.split.ensures.pattern) in
    read-refused (words_of c.args.line.now) c.read_words.result
    (of-line c.as_slice.result.now c.in_ok-words.words.items c.args.line.now c.read_words.result c.as_slice.ensures.value cut c.read_words.ensures)
