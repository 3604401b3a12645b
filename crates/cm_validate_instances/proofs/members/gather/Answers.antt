use Rattle.std.proofs.Common.{◌≡◌, ℕ, List, [], ◌∷◌, map, length, refl, sym, ap, ◌∙◌, true, false}
use Rattle.cm_validate_model.specs.Rules.{member_broken}
use Rattle.cm_validate_model.specs.Spaces.{named_member as member_of_export}
use Rattle.cm_validate_entries.specs.Entries.{is_member_there, member_def, named_member}
use Rattle.cm_validate_instances.proofs.GatherLaws.{broken_at, broken_none, fine_at}
use Rattle.cm_validate_instances.proofs.MemberLaws.{one_named}
use Rattle.cm_validate_instances.proofs.NameLaws.{here_empty, later_empty, taken_all}
use Rattle.cm_validate_instances.proofs.TextLaws.{has_key, key_more, seen_again, seen_first}
use Rattle.cm_validate_core.specs.NameMaps.{entries_of}
use Rattle.cm_validate_instances.proofs.members.gather.Goals as goal
use Rattle.cm_lemmas.proofs.Lists.{all_pushed, one_more_def}
use Rattle.cm_validate_model.proofs.RulesLaws.{at_first}
use Rattle.cm_lemmas.proofs.Bools.{was_new, was_seen}

pub loop-export-init : goal.loop-export-init
loop-export-init c = record {
  fine = λ s e. e;
  distinct = at_first (has_key (entries_of c.new-members.result)) (map (λ e. e.name) c.args.exports.now) (λ q. rw c.new-members.ensures refl);
  same = λ tys funcs s t e. rw c.new-members.ensures refl;
  there = λ tys funcs s t e. rw c.new-members.ensures refl;
}

pub returns-in_default : goal.returns-in_default
returns-in_default c = λ tys funcs s t e d.
    broken_none s c.export-item.result c.in_default.field-0 (broken_at tys funcs s c.export-item.result c.member_at.result c.in_default.field-0 c.in_default.is (c.member_at.ensures tys funcs s t))
    (here_empty (member_broken s) c.args.exports.now c.loop-export.export-index c.export-item.result c.loop-export-test.true c.export-item.is (c.loop-export.invariant.fine s e))

pub returns-then-not-branch : goal.returns-then-not-branch
returns-then-not-branch c = λ tys funcs s t e d.
    let es = entries_of c.loop-export.members in
    let wrong : false ≡ true =
    seen_again (λ x. x.name) c.args.exports.now c.loop-export.export-index c.export-item.result c.as_str.result.now c.loop-export-test.true c.export-item.is c.as_str.ensures.text (has_key es) _
    (was_seen (has_key es c.as_str.result.now) c.in_ok-insert.field-0 c.in_ok-insert.ensures.told c.if-not-branch.true)
    c.loop-export.invariant.distinct ∙ d in
    absurd cc

pub loop-export-preserved : goal.loop-export-preserved
loop-export-preserved c =
    let es = entries_of c.loop-export.members in
    let gone : has_key es c.as_str.result.now ≡ false = was_new (has_key es c.as_str.result.now) c.in_ok-insert.field-0 c.in_ok-insert.ensures.told c.if-not-branch.false in
    let new = c.in_ok-insert.ensures.added gone in
    record {
      fine = λ s e. later_empty (member_broken s) c.args.exports.now c.loop-export.export-index c.export-item.result c.loop-export-test.true c.export-item.is (c.loop-export.invariant.fine s e);
      distinct = seen_first (λ x. x.name) c.args.exports.now c.loop-export.export-index c.export-item.result c.as_str.result.now c.loop-export-test.true c.export-item.is c.as_str.ensures.text
          (has_key es) _ (has_key (entries_of c.insert.new.self)) gone
          (λ q. ap (λ xs. has_key xs q) new ∙ key_more es (c.as_str.result, c.in-Ok.member) q)
          c.loop-export.invariant.distinct;
      same = λ tys funcs s t e.
          let f = fine_at tys funcs s c.export-item.result c.member_at.result c.in-Ok.member c.in-Ok.is (c.member_at.ensures tys funcs s t) in
          ap (map (named_member tys funcs)) new
          ∙ one_more_def (named_member tys funcs) (member_of_export s) es (c.as_str.result, c.in-Ok.member) c.args.exports.now c.loop-export.export-index c.export-item.result c.loop-export-test.true c.export-item.is
          (one_named tys funcs s c.export-item.result c.in-Ok.member f ∙ ap (λ (n : List ℕ). record { name = n; def = member_def tys funcs c.in-Ok.member } ∷ []) (sym c.as_str.ensures.text))
          (c.loop-export.invariant.same tys funcs s t e);
      there = λ tys funcs s t e.
          let f = fine_at tys funcs s c.export-item.result c.member_at.result c.in-Ok.member c.in-Ok.is (c.member_at.ensures tys funcs s t) in
          rw new (all_pushed (λ x. is_member_there (length tys) (length funcs) x.1) es (c.as_str.result, c.in-Ok.member) (c.loop-export.invariant.there tys funcs s t e) f.there);
    }

pub returns : goal.returns
returns c = λ tys funcs s t e d. record {
  same = c.loop-export.invariant.same tys funcs s t e ∙ taken_all (member_of_export s) c.args.exports.now c.loop-export.export-index c.loop-export-test.false;
  there = c.loop-export.invariant.there tys funcs s t e;
}
