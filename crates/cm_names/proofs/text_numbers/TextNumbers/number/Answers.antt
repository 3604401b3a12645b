use Rattle.std.proofs.Common.{◌≡◌, ◌∙◌, ◌++◌, ◌∷◌, [], Some, false, sym, ap, subst}
use Rattle.std.specs.List.{list_any}
use Rattle.std.specs.Str.{bytes_eq}
use Rattle.std.specs.String.{string_bytes}
use Rattle.cm_names.specs.TextNumbers.{number_in}
use Rattle.cm_names.specs.TextTables.{texts_of}
use Rattle.cm_names.proofs.NumberLaws.{distinct_after, has_number, number_added, number_stays}
use Rattle.cm_names.proofs.text_numbers.TextNumbers.number.Goals as goal

pub returns-in-Some-clause-number : goal.returns-in-Some-clause-number
returns-in-Some-clause-number c =
    has_number (texts_of c.args.self.now.texts) c.args.text.now c.in-Some.number c.args.self.now.distinct c.in-Some.ensures.there

pub invariant_of-self : goal.invariant_of-self
invariant_of-self c =
    let old = texts_of c.args.self.now.texts in
    let copied : string_bytes c.in_ok-copy.copy ≡ c.args.text.now = c.in_ok-copy.ensures.ok in
    let absent : list_any (bytes_eq (string_bytes c.in_ok-copy.copy)) old ≡ false =
    ap (λ t. list_any (bytes_eq t) old) copied ∙ sym c.in_default.ensures.known in
    record {
      distinct = distinct_after old (texts_of c.add.new.self) (string_bytes c.in_ok-copy.copy) c.add.result absent c.args.self.now.distinct c.add.ensures.added c.add.ensures.kept;
    }

pub returns-clause-number : goal.returns-clause-number
returns-clause-number c =
    let old = texts_of c.args.self.now.texts in
    let copied : string_bytes c.in_ok-copy.copy ≡ c.args.text.now = c.in_ok-copy.ensures.ok in
    number_added old (texts_of c.add.new.self) c.args.text.now c.len-next.result (sym c.in_default.ensures.known) c.args.self.now.distinct
    (c.in_ok-add.ensures.added ∙ ap (λ t. old ++ t ∷ []) copied) c.len-next.ensures

pub returns-clause-kept : goal.returns-clause-kept
returns-clause-kept c = λ other n e.
    let old = texts_of c.args.self.now.texts in
    subst (λ ts. number_in ts other ≡ Some n) (sym c.in_ok-add.ensures.added) (number_stays old (string_bytes c.in_ok-copy.copy ∷ []) other n e)
