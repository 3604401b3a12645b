use Rattle.std.proofs.Common.{◌≤◌, ◌*◌, ℕ, Result, Ok, Err, IfOk, ap, length, arith}
use Rattle.cm_text.specs.declared.fault.TextFault.{TextFault}
use Rattle.cm_text.specs.Text.{IsTextOfSize}
use Rattle.cm_text.proofs.GrowthLemmas.{growth_of}
use Rattle.cm_text.proofs.transcoding.transcoded_size.Goals as goal

-- a fact of the value, weakened
weaker : (P Q : ℕ → Type 0) → ((n : ℕ) → P n → Q n) → (r : Result ℕ TextFault) → IfOk r P → IfOk r Q
weaker P Q more (Ok n) is = more n is
weaker P Q more (Err e) is = tt

pub returns-clause-growth : goal.returns-clause-growth
returns-clause-growth g c =
    let s = g.S.Source in
    let d = g.D.Source in
    let unit = s.UNIT_SIZE in
    let growth = g.D.Encoding.GREATEST_GROWTH in
    let bytes = c.args.bytes.now in
    weaker (IsTextOfSize s.has s.spell d.spell bytes) (λ size. unit * size ≤ growth * length bytes)
    (λ size t.
    let grown = growth_of s.has s.spell d.spell unit growth g.met.S.Source.whole_units (λ x is. g.met.D.Encoding.grows x (g.met.S.Source.only_scalars x is)) t.scalars t.text.all in
    omega (arith, grown, ap (λ n. unit * n) t.size_is, ap (λ ys. growth * length ys) t.text.is))
    c.measure.result c.measure.ensures.ok
