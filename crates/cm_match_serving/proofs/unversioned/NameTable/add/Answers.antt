use Rattle.std.proofs.Common.{◌≡◌, ◌∙◌, ◌++◌, ◌∷◌, [], List, Some, set, false, is_some, refl, sym, ap, arith, slice_get}
use Rattle.std.proofs.lemmas.Grind.{common_steps}
use Rattle.std.proofs.lemmas.Option.{slice_get_within}
use Rattle.std.proofs.lemmas.Result.{on_err_weaker, on_ok_weaker}
use Rattle.std.specs.List.{list_any}
use Rattle.std.specs.Str.{bytes_eq}
use Rattle.cm_names.specs.TextTables.{texts_of}
use Rattle.cm_match_model.specs.declared.candidates.Candidate.{Candidate}
use Rattle.cm_match_model.specs.declared.candidates.Candidate.TheVariants as candidate
use Rattle.cm_match_model.specs.Fitting.{and_also}
use Rattle.cm_match_serving.specs.Readings.{only_named}
use Rattle.cm_match_serving.proofs.UnversionedLaws.{found_more, put_more, same_tells}
use Rattle.cm_match_serving.proofs.unversioned.NameTable.add.Goals as goal

pub replace-requires : goal.replace-requires
replace-requires c =
    let s = c.args.self.now in
    omega (arith, slice_get_within (texts_of s.names) c.in-Some.number c.args.name.now c.in-Some.ensures.there, s.long)

pub returns-in-Some-clause-ok : goal.returns-in-Some-clause-ok
returns-in-Some-clause-ok c = λ es e read component number t.
    let s = c.args.self.now in
    let m = c.args.name.now in
    let n = c.in-Some.number in
    let at : slice_get (texts_of s.names) n ≡ Some m = c.in-Some.ensures.there in
    let was : slice_get s.candidates.items n ≡ Some (only_named m es) = t.there m n at in
    let there : c.deref.result.now ≡ s.candidates.items = grind (arith, common_steps) in
    let held : c.candidate_at.result ≡ only_named m es = c.candidate_at.ensures (only_named m es) (ap (λ (cs : List Candidate). slice_get cs n) there ∙ was) in
    found_more es e m read s _ n (only_named m es) refl at was
    (c.replace.ensures ∙ ap (set s.candidates.items n) (c.and_also-both.ensures ∙ ap (λ x. and_also x (candidate.One c.args.component c.args.export)) held
    ∙ ap (λ k. and_also (only_named m es) (candidate.One k c.args.export)) (sym component)
    ∙ ap (λ k. and_also (only_named m es) (candidate.One e.component k)) (sym number)))
    s.distinct t

pub put-requires : goal.put-requires
put-requires c =
    sym c.number.ensures.known ∙ ap is_some c.in-None.is

pub returns-in-None-clause-ok : goal.returns-in-None-clause-ok
returns-in-None-clause-ok c =
    let s = c.args.self.now in
    let m = c.args.name.now in
    let fresh : list_any (bytes_eq m) (texts_of s.names) ≡ false = sym c.number.ensures.known ∙ ap is_some c.in-None.is in
    on_ok_weaker c.put.result (λ p es e read component number t. put_more es e m read s _ p.names s.long
    (p.candidates ∙ ap (λ k. s.candidates.items ++ candidate.One k c.args.export ∷ []) (sym component) ∙ ap (λ k. s.candidates.items ++ candidate.One e.component k ∷ []) (sym number))
    fresh t) c.put.ensures.put

pub returns-in-None-clause-err : goal.returns-in-None-clause-err
returns-in-None-clause-err c = on_err_weaker c.put.result (λ p es t. same_tells c.args.self.now _ es p t) c.put.ensures.same
