use Rattle.std.proofs.Common.{ℕ, List, Result, true, false, subst}
use Rattle.std.proofs.lemmas.Bool.{ne_eqb}
use Rattle.cm_lemmas.proofs.Numbers.{eq_true}
use Rattle.cm_binary_grammar.specs.declared.fault.Fault.{Fault}
use Rattle.cm_binary_grammar.specs.Faults.{Gives}
use Rattle.cm_bundle.specs.declared.fault.BundleReason.{BundleReason}
use Rattle.cm_bundle.specs.Trees.{ContentTree, content_tree}
use Rattle.cm_bundle.proofs.FrontLoops.{none_first, some_first}
use Rattle.cm_bundle.proofs.contents.read_content.Goals as goal

abbrev Contents : Type 0
Contents = Result (ContentTree × List ℕ) (Fault BundleReason)

pub returns-in-None-clause-read : goal.returns-in-None-clause-read
returns-in-None-clause-read c = none_first c.args.bytes.now.end c.args.bytes.now.rest.now c.want.result c.in-None.ensures.value c.want.ensures

pub returns-in-Some-clause-read : goal.returns-in-Some-clause-read
returns-in-Some-clause-read c =
    let bytes = c.args.bytes.now in
    subst (λ (r : Contents). Gives (λ x. (content_tree x, c.read_open.new.bytes.rest.now)) c.read_open.result r) (some_first bytes.end bytes.rest.now c.in-Some.first.now true c.in-Some.ensures.value (eq_true c.in-Some.first.now 0x07 c.if-first-eq7.true)) c.read_open.ensures.read

pub returns-in-Some-2-clause-read : goal.returns-in-Some-2-clause-read
returns-in-Some-2-clause-read c =
    let bytes = c.args.bytes.now in
    let read = rw c.new.ensures.items at c.read_behind.ensures.read in
    subst (λ (r : Contents). Gives (λ x. (content_tree x, c.read_behind.new.bytes.rest.now)) c.read_behind.result r) (some_first bytes.end bytes.rest.now c.in-Some.first.now false c.in-Some.ensures.value (ne_eqb c.in-Some.first.now 0x07 c.if-first-eq7.false)) read
