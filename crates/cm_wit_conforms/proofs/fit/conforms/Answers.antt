use Rattle.std.proofs.Common.{◌≡◌, ◌∙◌, List, ap, inl, inr, map, refl, subst}
use Rattle.cm_types_arena.specs.Signatures.{signature_of}
use Rattle.cm_wit_conforms.specs.Comparisons.{Entry, entries}
use Rattle.cm_wit_conforms.specs.Conformance.{AllFit, IsFirstIn}
use Rattle.cm_wit_conforms.specs.Views.{entry_of}
use Rattle.cm_wit_conforms.specs.Walks.{judged}
use Rattle.cm_wit_conforms.proofs.JudgedLaws.{all_judged, first_judged}
use Rattle.cm_wit_conforms.proofs.WalkLaws.{if_err_more, on_ok_more}
use Rattle.cm_wit_conforms.proofs.fit.conforms.Goals as goal

pub returns-clause-ok : goal.returns-clause-ok
returns-clause-ok c = on_ok_more c.judge.result _ _ c.judge.ensures.ok (λ f.
    let all = entries (signature_of c.args.have.now) (signature_of c.args.world.now) in
    let walk = c.in_ok-walk.ensures in
    let shown : map (entry_of c.types.result.now c.types-2.result.now) c.deref.result.now ≡ judged all =
    ap (λ t. map (entry_of t c.types-2.result.now) c.deref.result.now) c.types.ensures
    ∙ (ap (λ t. map (entry_of c.args.have.now.types t) c.deref.result.now) c.types-2.ensures
    ∙ (ap (map (entry_of c.args.have.now.types c.args.world.now.types)) c.deref.ensures.value ∙ walk.judged.entries)) in
    all_judged all all (subst (λ (es : List Entry). AllFit all es) shown
    (f all (record { have_pairs = walk.pairs.have; world_pairs = walk.pairs.world; have_side = refl; world_side = refl }))))

pub returns-clause-err : goal.returns-clause-err
returns-clause-err c = if_err_more c.judge.result _ _ c.judge.ensures.err (λ fault h.
    let all = entries (signature_of c.args.have.now) (signature_of c.args.world.now) in
    let walk = c.in_ok-walk.ensures in
    let shown : map (entry_of c.types.result.now c.types-2.result.now) c.deref.result.now ≡ judged all =
    ap (λ t. map (entry_of t c.types-2.result.now) c.deref.result.now) c.types.ensures
    ∙ (ap (λ t. map (entry_of c.args.have.now.types t) c.deref.result.now) c.types-2.ensures
    ∙ (ap (map (entry_of c.args.have.now.types c.args.world.now.types)) c.deref.ensures.value ∙ walk.judged.entries)) in
    elim h [
      | inl memory ↦ inl memory
      | inr first ↦ inr (first_judged all all fault.item fault.reason (subst (λ (es : List Entry). IsFirstIn all es fault.item fault.reason) shown
          (first all (record { have_pairs = walk.pairs.have; world_pairs = walk.pairs.world; have_side = refl; world_side = refl }))))
    ])
