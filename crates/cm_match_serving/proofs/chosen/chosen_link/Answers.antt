use Rattle.std.proofs.Common.{◌≡◌, ◌∙◌, ℕ, Option, None, sym, ap, slice_get, option_and_then}
use Rattle.std.specs.declared.alloc.Global.{Global}
use Rattle.std.specs.declared.vec.Vec.{Vec}
use Rattle.cm_match_model.specs.declared.component.Link.{Link}
use Rattle.cm_match_serving.proofs.Seeing.{link_is}
use Rattle.cm_match_serving.proofs.chosen.chosen_link.Goals as goal
use Rattle.cm_lemmas.proofs.Lists.{got}

-- the link of a row
link_of_row : ℕ → Vec (Option Link) Global → Option Link
link_of_row n r = option_and_then (λ (l : Option Link). l) (slice_get r.items n)

pub returns-in_err-row : goal.returns-in_err-row
unfolding link_of_row
returns-in_err-row c =
    let links = c.args.choices.now.links.items in
    let at = c.args.component in
    let none : slice_get links at ≡ None = sym (got c.deref.result.now at None c.in_err-row.ensures.lookup ∙ ap (λ rows. slice_get rows at) c.deref.ensures.value) in
    c.from_residual.ensures ∙ sym (link_is links at c.args.import ∙ ap (option_and_then (link_of_row c.args.import)) none)
