use Rattle.std.proofs.Common.{◌≡◌, ◌∙◌, ap, sym, Some, None, slice_get, List, subst, option_and_then, Vec, Global}
use Rattle.std.specs.Option.{option_map}
use Rattle.cm_machine_model.specs.Plan.{core_func_at}
use Rattle.cm_machine_links.specs.Planned.{IsFound, rows_in}
use Rattle.cm_machine_links.specs.declared.core_funcs.CoreFunc.{CoreFunc}
use Rattle.cm_machine_links.proofs.PlanFacts.{found_at}
use Rattle.cm_machine_links.proofs.Lookups.{row_found, row_missing}
use Rattle.cm_machine_links.proofs.links.Links.get.Goals as goal
use Rattle.cm_lemmas.proofs.Lists.{got}

pub returns-in_err-get : goal.returns-in_err-get
returns-in_err-get c = λ p planned.
    let rows = c.args.self.now.rows.items in
    let none : None ≡ slice_get rows c.args.instance = got c.deref.result.now c.args.instance None c.in_err-get.ensures.lookup ∙ ap (λ (l : List (Vec CoreFunc Global)). slice_get l c.args.instance) c.deref.ensures.value in
    let e : option_map (λ f. f.now) c.from_residual.result ≡ option_and_then (λ fs. slice_get fs c.args.func) (slice_get (rows_in c.args.self.now) c.args.instance) =
    ap (option_map (λ f. f.now)) c.from_residual.ensures ∙ sym (row_missing rows c.args.instance c.args.func (sym none)) in
    subst (IsFound (core_func_at p c.args.instance c.args.func)) (sym e) (found_at p (rows_in c.args.self.now) c.args.instance c.args.func planned)

pub returns : goal.returns
returns c = λ p planned.
    let rows = c.args.self.now.rows.items in
    let row = c.in_ok-get.field-0 in
    let here : Some row.now ≡ slice_get rows c.args.instance = got c.deref.result.now c.args.instance (Some row) c.in_ok-get.ensures.lookup ∙ ap (λ (l : List (Vec CoreFunc Global)). slice_get l c.args.instance) c.deref.ensures.value in
    let e : option_map (λ f. f.now) c.get-2.result ≡ option_and_then (λ fs. slice_get fs c.args.func) (slice_get (rows_in c.args.self.now) c.args.instance) =
    got c.deref-2.result.now c.args.func c.get-2.result c.get-2.ensures.lookup
    ∙ ap (λ (l : List CoreFunc). slice_get l c.args.func) c.deref-2.ensures.value
    ∙ sym (row_found rows c.args.instance c.args.func row.now (sym here)) in
    subst (IsFound (core_func_at p c.args.instance c.args.func)) (sym e) (found_at p (rows_in c.args.self.now) c.args.instance c.args.func planned)
