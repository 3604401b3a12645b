use Rattle.std.proofs.Common.{◌≡◌, ◌∙◌, None, length, refl, sym, ap, subst, map, inl}
use Rattle.cm_types.specs.CoreValues.{kind_of}
use Rattle.cm_abi_model.specs.Ways.{way_of}
use Rattle.cm_abi_model.specs.Answered.{all_requests}
use Rattle.cm_abi_model.specs.Answering.{first_fault}
use Rattle.cm_abi_model.specs.Scanned.{ScansCall}
use Rattle.rows_calls.proofs.scanned.copy_values.Goals as goal

-- what was scanned goes on as it stood, with all requests answered
pub copy-requires-clause-copied : goal.copy-requires-clause-copied
copy-requires-clause-copied c =
    let types = c.requires.0 in
    let is = c.requires.1 in
    let was = c.requires.2 in
    let all = c.if-not-ask.ensures.answered refl in
    let way = way_of c.args.call.now.way in
    let scans = subst (λ slots. ScansCall was.giver c.args.call.now.sides.target way types slots was.value was.table c.args.kept.now) (sym c.deref-2.ensures.value) was.scans in
    let found = c.what_goes_on_stays.ensures.goes was.giver way types c.deref-2.result.now was.value c.args.kept.now c.ask.new.kept
    (c.one_copied_call.ensures.copied was.giver c.args.call.now.sides.target way types c.deref-2.result.now was.value was.table c.args.kept.now scans is.spellable (inl is.stores))
    c.ask.ensures.only in
    let long : length c.deref_mut.result.now ≡ c.args.call.now.sides.length = c.deref_mut.ensures.len ∙ c.in-Ok.ensures.len in (
      was.giver,
      all.0,
      types,
      was.value,
      record {
        layout = is.layout;
        memory = was.memory ∙ sym c.deref-3.ensures.value;
        found = found;
        answered = all.1;
        fine = subst (λ n. first_fault n (all_requests c.ask.new.kept.parts) all.0 ≡ None) (sym long) all.2;
        kinds_are = ap (map kind_of) c.deref_mut-2.ensures.value ∙ (c.in-Ok-zeros.ensures ∙ (c.deref-4.ensures.value ∙ is.kinds));
      },
    )
