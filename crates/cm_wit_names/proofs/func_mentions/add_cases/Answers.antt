use Rattle.std.proofs.Common.{Box, Global, ◌≡◌, ◌++◌, ◌∙◌, ℕ, List, Option, Some, None, ap, false, length, map, refl, sym}
use Rattle.std.specs.Global.{Vec}
use Rattle.cm_wit_reading.specs.declared.types.WitType.{WitType}
use Rattle.cm_wit_reading.specs.TypeViews.{payload_tree, type_tree}
use Rattle.cm_wit_reading.specs.Trees.{Case}
use Rattle.cm_wit_reading.specs.Views.{case_tree}
use Rattle.cm_wit_names.specs.declared.mention.Mention.{Mention}
use Rattle.cm_wit_names.specs.declared.mention.Place.{Place}
use Rattle.cm_wit_names.specs.FileMentions.{case_marks, label, type_marks}
use Rattle.cm_wit_names.specs.Marks.{Marks, each, none, one, optional, ◌then◌}
use Rattle.cm_wit_names.specs.Mentions.{list_of}
use Rattle.cm_wit_names.specs.MentionViews.{Adds, mention_view}
use Rattle.cm_wit_names.proofs.AddLaws.{MakesAll, adds_none, adds_then, each_end, each_step}
use Rattle.cm_wit_names.proofs.func_mentions.add_cases.Goals.{in-Some+in_ok-add_type, in_default}
use Rattle.cm_wit_names.proofs.func_mentions.add_cases.Goals as goal

abbrev part : ℕ → Place → Case → Marks
part n place x = one (label false n x.name) then optional (type_marks place) x.ty

starts : (place : Place) (xs : List Case) (n : ℕ) (out : Vec Mention) → n ≡ list_of (length out.items) → MakesAll (each (part n place) xs) out (map mention_view out.items ++ case_marks place xs (length out.items))
starts place xs n out e = rw e refl

with_type : (n : ℕ) (place : Place) (text : List ℕ) (o : Option (Box WitType Global)) (boxed : Box WitType Global) (ty : WitType) (before mid after out : Vec Mention) → o ≡ Some boxed → ty ≡ boxed.value → out ≡ after → Adds (one (label false n text)) before mid → Adds (type_marks place (type_tree ty)) mid after → Adds (one (label false n text) then optional (type_marks place) (payload_tree o)) before out
with_type n place text o boxed ty before mid after out is in_box same p q = rw (is, same, sym in_box) (adds_then (one (label false n text)) (type_marks place (type_tree ty)) before mid after p q)

without_type : (n : ℕ) (place : Place) (text : List ℕ) (o : Option (Box WitType Global)) (before mid out : Vec Mention) → o ≡ None → out ≡ mid → Adds (one (label false n text)) before mid → Adds (one (label false n text) then optional (type_marks place) (payload_tree o)) before out
without_type n place text o before mid out is same p = rw (is, same) (adds_then (one (label false n text)) none before mid mid p (adds_none mid))

pub loop-case-init : goal.loop-case-init
loop-case-init c = starts c.args.place (map case_tree c.args.cases.now) c.list-in_list.result c.args.out.now (c.list-in_list.ensures ∙ ap list_of c.next.ensures)

pub loop-case-preserved : goal.loop-case-preserved
loop-case-preserved c =
    let x = c.case-item.result in
    let n = c.list-in_list.result in
    let p : Adds (part n c.args.place (case_tree x)) c.loop-case.out c.match-case.out = elim c.match-case.branch [
      | in-Some+in_ok-add_type w ↦ with_type n c.args.place x.name x.ty _ _ c.loop-case.out c.add_label.new.out w.add_type.new.out c.match-case.out w.in-Some.is w.deref.ensures w.out-is c.in_ok-add_label.ensures w.in_ok-add_type.ensures
      | in_default w ↦ without_type n c.args.place x.name x.ty c.loop-case.out c.add_label.new.out c.match-case.out w.in_default.is w.out-is c.in_ok-add_label.ensures
    ] in
    each_step (part n c.args.place) case_tree c.args.cases.now c.loop-case.case-index x c.loop-case.out c.match-case.out _ c.loop-case-test.true c.case-item.is p c.loop-case.invariant

pub returns : goal.returns
returns c = each_end (part c.list-in_list.result c.args.place) case_tree c.args.cases.now c.loop-case.case-index c.loop-case.out _ c.loop-case-test.false c.loop-case.invariant
