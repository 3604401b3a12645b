use Rattle.std.proofs.Common.{◌≡◌, ◌++◌, ◌∙◌, ℕ, Bool, List, ap, length, map, refl}
use Rattle.std.specs.Global.{Vec}
use Rattle.cm_wit_reading.specs.Signatures.{Typed}
use Rattle.cm_wit_reading.specs.SignatureViews.{typed_tree}
use Rattle.cm_wit_reading.specs.TypeViews.{type_tree}
use Rattle.cm_wit_names.specs.declared.mention.Mention.{Mention}
use Rattle.cm_wit_names.specs.declared.mention.Place.{Place}
use Rattle.cm_wit_names.specs.FileMentions.{label, type_marks, typed_marks}
use Rattle.cm_wit_names.specs.Marks.{Marks, each, one, ◌then◌}
use Rattle.cm_wit_names.specs.Mentions.{list_of}
use Rattle.cm_wit_names.specs.MentionViews.{mention_view}
use Rattle.cm_wit_names.proofs.AddLaws.{MakesAll, adds_then, each_end, each_step}
use Rattle.cm_wit_names.proofs.func_mentions.add_typed.Goals as goal

abbrev part : Bool → ℕ → Place → Typed → Marks
part after_self n place x = one (label after_self n x.0) then type_marks place x.1

starts : (after_self : Bool) (place : Place) (xs : List Typed) (n : ℕ) (out : Vec Mention) → n ≡ list_of (length out.items) → MakesAll (each (part after_self n place) xs) out (map mention_view out.items ++ typed_marks after_self place xs (length out.items))
starts after_self place xs n out e = rw e refl

pub loop-typed-init : goal.loop-typed-init
loop-typed-init c = starts c.args.after_self c.args.place (map typed_tree c.args.list.now) c.list-in_list.result c.args.out.now (c.list-in_list.ensures ∙ ap list_of c.next.ensures)

pub loop-typed-preserved : goal.loop-typed-preserved
loop-typed-preserved c =
    let x = c.typed-item.result in
    let n = c.list-in_list.result in
    each_step (part c.args.after_self n c.args.place) typed_tree c.args.list.now c.loop-typed.typed-index x c.loop-typed.out c.add_type.new.out _ c.loop-typed-test.true c.typed-item.is
    (adds_then (one (label c.args.after_self n x.name)) (type_marks c.args.place (type_tree x.ty)) c.loop-typed.out c.add_label.new.out c.add_type.new.out c.in_ok-add_label.ensures c.in_ok-add_type.ensures) c.loop-typed.invariant

pub returns : goal.returns
returns c = each_end (part c.args.after_self c.list-in_list.result c.args.place) typed_tree c.args.list.now c.loop-typed.typed-index c.loop-typed.out _ c.loop-typed-test.false c.loop-typed.invariant
