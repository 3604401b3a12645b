use Rattle.std.proofs.Common.{◌≡◌, ℕ, refl, subst}
use Rattle.std.specs.Global.{Vec}
use Rattle.cm_wit_reading.specs.declared.worlds.WorldExtern.{WorldExtern}
use Rattle.cm_wit_reading.specs.declared.worlds.WorldItem.{WorldItem}
use Rattle.cm_wit_reading.specs.declared.worlds.WorldItem.TheVariants as item_is
use Rattle.cm_wit_reading.specs.Trees.{File}
use Rattle.cm_wit_reading.specs.Views.{extern_tree, file_tree, world_item_tree}
use Rattle.cm_wit_names.specs.declared.mention.Mention.{Mention}
use Rattle.cm_wit_names.specs.FileMentions.{extern_marks, world_item_marks}
use Rattle.cm_wit_names.specs.Mentions.{exports_of, list_of}
use Rattle.cm_wit_names.specs.MentionViews.{Adds}
use Rattle.cm_wit_names.proofs.AddLaws.{each_end, each_step}
use Rattle.cm_wit_names.proofs.world_mentions.add_items.Goals.{in-Import+in_ok-add_extern-in-Import, in-Export+in_ok-add_extern-in-Export}
use Rattle.cm_wit_names.proofs.world_mentions.add_items.Goals as goal

import_added : (f : File) (scope n : ℕ) (x : WorldItem) (e : WorldExtern) (before after out : Vec Mention) → x ≡ item_is.Import e → n ≡ list_of scope → out ≡ after → Adds (extern_marks f n scope (extern_tree e)) before after → Adds (world_item_marks f scope (world_item_tree x)) before out
import_added f scope n x e before after out is list same p = rw (is, same) (subst (λ (k : ℕ). Adds (extern_marks f k scope (extern_tree e)) before after) list p)

export_added : (f : File) (scope n : ℕ) (x : WorldItem) (e : WorldExtern) (before after out : Vec Mention) → x ≡ item_is.Export e → n ≡ exports_of scope → out ≡ after → Adds (extern_marks f n scope (extern_tree e)) before after → Adds (world_item_marks f scope (world_item_tree x)) before out
export_added f scope n x e before after out is list same p = rw (is, same) (subst (λ (k : ℕ). Adds (extern_marks f k scope (extern_tree e)) before after) list p)

pub loop-item-init : goal.loop-item-init
loop-item-init c = refl

pub loop-item-preserved : goal.loop-item-preserved
loop-item-preserved c =
    let f = file_tree c.args.file.now in
    let s = c.args.scope.number in
    let x = c.item-item.result in
    let p : Adds (world_item_marks f s (world_item_tree x)) c.loop-item.out c.match-item.out = elim c.match-item.branch [
      | in-Import+in_ok-add_extern-in-Import w ↦ import_added f s w.list.result x _ c.loop-item.out w.add_extern.new.out c.match-item.out w.in-Import.is w.list.ensures w.out-is w.in_ok-add_extern-in-Import.ensures
      | in-Export+in_ok-add_extern-in-Export w ↦ export_added f s w.exports.result x _ c.loop-item.out w.add_extern-in-Export.new.out c.match-item.out w.in-Export.is w.exports.ensures w.out-is w.in_ok-add_extern-in-Export.ensures
    ] in
    each_step (world_item_marks f s) world_item_tree c.args.items.now c.loop-item.item-index x c.loop-item.out c.match-item.out _ c.loop-item-test.true c.item-item.is p c.loop-item.invariant

pub returns : goal.returns
returns c = each_end (world_item_marks (file_tree c.args.file.now) c.args.scope.number) world_item_tree c.args.items.now c.loop-item.item-index c.loop-item.out _ c.loop-item-test.false c.loop-item.invariant
