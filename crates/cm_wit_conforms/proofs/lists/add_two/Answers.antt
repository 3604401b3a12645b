use Rattle.std.proofs.Common.{◌++◌, ◌∙◌, Some, ap, subst, sym}
use Rattle.cm_types_arena.specs.Listed.{desc_in, names_of_desc}
use Rattle.cm_types_arena.specs.declared.named_externs.Desc.TheVariants as is
use Rattle.cm_wit_conforms.specs.Comparisons.{extern_entries}
use Rattle.cm_wit_conforms.specs.Views.{other, own}
use Rattle.cm_wit_conforms.specs.Walks.{IsWalked, of_signature}
use Rattle.cm_wit_conforms.proofs.PlacedLaws.{names_of_two}
use Rattle.cm_wit_conforms.proofs.WalkLaws.{on_ok_more}
use Rattle.cm_wit_conforms.proofs.lists.add_two.Goals as goal

pub add_instance-requires-clause-names : goal.add_instance-requires-clause-names
add_instance-requires-clause-names c = λ t.
    let two = c.args.two in
    let items = c.in-Instance-Instance.items in
    let others = c.in-Instance-Instance.others in
    c.requires.stands t
    ∙ (ap (λ d. names_of_desc (desc_in t (of_signature two.list d two.found))) c.in-Instance-Instance.is-1
    ∙ (ap (λ f. names_of_desc (desc_in t (of_signature two.list (is.Instance items) f))) c.in-Instance-Instance.is-0
    ∙ names_of_two t two.list items others))

pub returns-in-Func-Instance-clause-walked : goal.returns-in-Func-Instance-clause-walked
returns-in-Func-Instance-clause-walked c = on_ok_more c.add_whole-in-Func-Instance.result _ _ c.add_whole-in-Func-Instance.ensures (λ f h w es k.
    let two = c.args.two in
    let mine = own two.list h w in
    let theirs = other two.list h w in
    let is_so = ap (λ d. extern_entries two.list two.place (Some (desc_in theirs d)) (desc_in mine two.desc)) c.in-Func-Instance.is-0
    ∙ ap (λ d. extern_entries two.list two.place (Some (desc_in theirs (is.Func c.in-Func-Instance.field-0-0))) (desc_in mine d)) c.in-Func-Instance.is-1 in
    subst (λ l. IsWalked h w (es ++ l) c.add_whole-in-Func-Instance.new.self) (sym is_so) (f h w es k))

pub returns-in-Instance-Func-clause-walked : goal.returns-in-Instance-Func-clause-walked
returns-in-Instance-Func-clause-walked c = on_ok_more c.add_whole-in-Instance-Func.result _ _ c.add_whole-in-Instance-Func.ensures (λ f h w es k.
    let two = c.args.two in
    let mine = own two.list h w in
    let theirs = other two.list h w in
    let is_so = ap (λ d. extern_entries two.list two.place (Some (desc_in theirs d)) (desc_in mine two.desc)) c.in-Instance-Func.is-0
    ∙ ap (λ d. extern_entries two.list two.place (Some (desc_in theirs (is.Instance c.in-Instance-Func.field-0-0))) (desc_in mine d)) c.in-Instance-Func.is-1 in
    subst (λ l. IsWalked h w (es ++ l) c.add_whole-in-Instance-Func.new.self) (sym is_so) (f h w es k))
