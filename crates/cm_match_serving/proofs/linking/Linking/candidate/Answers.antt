use Rattle.std.proofs.Common.{◌≡◌, ◌∙◌, Some, None, sym, ap, slice_get}
use Rattle.cm_match_serving.specs.Linkings.{set_in}
use Rattle.cm_match_serving.proofs.CandidateRows.{none_there, row_there}
use Rattle.cm_match_serving.proofs.linking.Linking.candidate.Goals as goal
use Rattle.cm_lemmas.proofs.Lists.{got}

pub returns-in_err-get : goal.returns-in_err-get
returns-in_err-get c =
    let l = c.args.self.now in
    let rows = l.candidates.now in
    let at = c.args.component in
    c.from_residual.ensures ∙ none_there (set_in l) rows l.found at c.args.import (sym (got rows at None c.in_err-get.ensures.lookup))

pub returns : goal.returns
returns c =
    let l = c.args.self.now in
    let rows = l.candidates.now in
    let at = c.args.component in
    let n = c.args.import in
    let row = c.in_ok-get.field-0.now in
    let there : slice_get rows at ≡ Some row = sym (got rows at (Some c.in_ok-get.field-0) c.in_ok-get.ensures.lookup) in
    c.copied.ensures ∙ got c.deref.result.now n c.get-2.result c.get-2.ensures.lookup
    ∙ ap (λ items. slice_get items n) c.deref.ensures.value
    ∙ row_there (set_in l) rows l.found at n row there
