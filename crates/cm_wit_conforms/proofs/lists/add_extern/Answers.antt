use Rattle.std.proofs.Common.{◌≡◌, ◌++◌, ◌∙◌, Some, None, ap, option_map, slice_get, subst, sym}
use Rattle.cm_types.specs.Signatures.{NamedExtern}
use Rattle.cm_types_arena.specs.Listed.{desc_in, extern_in, externs_listed}
use Rattle.cm_wit_conforms.specs.Views.{entries_of, extern_found, other, own}
use Rattle.cm_wit_conforms.specs.Walks.{IsWalked}
use Rattle.cm_wit_conforms.proofs.WalkLaws.{on_ok_more}
use Rattle.cm_wit_conforms.proofs.lists.add_extern.Goals as goal

pub returns-in_default-found_extern-clause-walked : goal.returns-in_default-found_extern-clause-walked
returns-in_default-found_extern-clause-walked c = on_ok_more c.add_whole.result _ _ c.add_whole.ensures (λ f h w es k.
    let lists = c.args.lists in
    let mine = own lists.list h w in
    let theirs = other lists.list h w in
    let each = c.in-Some.each in
    let externs = own lists.list lists.have.now lists.world.now in
    let others = other lists.list lists.have.now lists.world.now in
    let here : slice_get (externs_listed mine externs) c.args.place ≡ Some (extern_in mine each) =
    ap (λ xs. slice_get (externs_listed mine xs) c.args.place) (sym c.own.ensures) ∙ sym (c.in-Some.ensures.is mine) in
    let none : extern_found theirs others c.args.found ≡ None =
    ap (λ xs. extern_found theirs xs c.args.found) (sym c.other.ensures) ∙ (sym (c.found_extern.ensures.found theirs) ∙ ap (option_map (λ p. desc_in theirs p.1)) c.in_default-found_extern.is) in
    let is_so =
    ap (λ o. entries_of lists.list c.args.place o (option_map (λ (e : NamedExtern). e.desc) (slice_get (externs_listed mine externs) c.args.place))) none
    ∙ ap (λ o. entries_of lists.list c.args.place None (option_map (λ (e : NamedExtern). e.desc) o)) here in
    subst (λ l. IsWalked h w (es ++ l) c.add_whole.new.self) (sym is_so) (f h w es k))

pub returns-clause-walked : goal.returns-clause-walked
returns-clause-walked c = on_ok_more c.add_two.result _ _ c.add_two.ensures.walked (λ f h w es k.
    let lists = c.args.lists in
    let mine = own lists.list h w in
    let theirs = other lists.list h w in
    let each = c.in-Some.each in
    let found = c.in-Some-found_extern.found in
    let externs = own lists.list lists.have.now lists.world.now in
    let others = other lists.list lists.have.now lists.world.now in
    let here : slice_get (externs_listed mine externs) c.args.place ≡ Some (extern_in mine each) =
    ap (λ xs. slice_get (externs_listed mine xs) c.args.place) (sym c.own.ensures) ∙ sym (c.in-Some.ensures.is mine) in
    let there : extern_found theirs others c.args.found ≡ Some (desc_in theirs found) =
    ap (λ xs. extern_found theirs xs c.args.found) (sym c.other.ensures) ∙ (sym (c.found_extern.ensures.found theirs) ∙ ap (option_map (λ p. desc_in theirs p.1)) c.in-Some-found_extern.is) in
    let is_so =
    ap (λ o. entries_of lists.list c.args.place o (option_map (λ (e : NamedExtern). e.desc) (slice_get (externs_listed mine externs) c.args.place))) there
    ∙ ap (λ o. entries_of lists.list c.args.place (Some (desc_in theirs found)) (option_map (λ (e : NamedExtern). e.desc) o)) here in
    subst (λ l. IsWalked h w (es ++ l) c.add_two.new.walk) (sym is_so) (f h w es k))
