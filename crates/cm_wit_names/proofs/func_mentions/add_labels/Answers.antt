use Rattle.std.proofs.Common.{◌≡◌, ◌++◌, ◌∙◌, ℕ, List, [], ◌∷◌, ap, false, length, map, refl}
use Rattle.std.specs.Global.{Vec}
use Rattle.cm_wit_names.specs.declared.mention.Mention.{Mention}
use Rattle.cm_wit_names.specs.FileMentions.{label, label_marks}
use Rattle.cm_wit_names.specs.Marks.{each, one}
use Rattle.cm_wit_names.specs.Mentions.{list_of}
use Rattle.cm_wit_names.specs.MentionViews.{mention_view}
use Rattle.cm_wit_names.proofs.AddLaws.{MakesAll, each_end, each_step}
use Rattle.cm_wit_names.proofs.func_mentions.add_labels.Goals as goal

themselves : (names : List (List ℕ)) → map (λ (text : List ℕ). text) names ≡ names
themselves [] = refl
themselves (text ∷ names) = ap (λ (ns : List (List ℕ)). text ∷ ns) (themselves names)

starts : (names : List (List ℕ)) (n : ℕ) (out : Vec Mention) → n ≡ list_of (length out.items) → MakesAll (each (λ text. one (label false n text)) (map (λ (text : List ℕ). text) names)) out (map mention_view out.items ++ label_marks names (length out.items))
starts names n out e = rw (e, themselves names) refl

pub loop-name-init : goal.loop-name-init
loop-name-init c = starts c.args.names.now c.list-in_list.result c.args.out.now (c.list-in_list.ensures ∙ ap list_of c.next.ensures)

pub loop-name-preserved : goal.loop-name-preserved
loop-name-preserved c = each_step (λ (text : List ℕ). one (label false c.list-in_list.result text)) (λ (text : List ℕ). text) c.args.names.now c.loop-name.name-index c.name-item.result c.loop-name.out c.add_label.new.out _ c.loop-name-test.true c.name-item.is c.in_ok-add_label.ensures c.loop-name.invariant

pub returns : goal.returns
returns c = each_end (λ (text : List ℕ). one (label false c.list-in_list.result text)) (λ (text : List ℕ). text) c.args.names.now c.loop-name.name-index c.loop-name.out _ c.loop-name-test.false c.loop-name.invariant
