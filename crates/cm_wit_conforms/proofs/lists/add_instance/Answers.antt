use Rattle.std.proofs.Common.{◌≡◌, ◌∙◌, Some, ap, option_map, rules, subst, sym}
use Rattle.std.specs.BTreeMap.{get}
use Rattle.std.specs.Ordering.{nat_cmp}
use Rattle.cm_wit_conforms.specs.Known.{AreKnown}
use Rattle.cm_wit_conforms.specs.Places.{item_names}
use Rattle.cm_wit_conforms.proofs.lists.add_instance.Goals as goal

pub add_items-requires : goal.add_items-requires
add_items-requires c = λ t. subst (λ i. AreKnown (item_names t i) c.in_ok-known.known) c.of_signature-items.ensures (c.in_ok-known.ensures t)

pub add_items-requires-2 : goal.add_items-requires-2
add_items-requires-2 c = λ t.
    let k = c.in_ok-known-2.known in
    let has : c.known.result ≡ Some k = search rules in
    let kept : get nat_cmp c.keep.new.self.known c.in-Some.number ≡ Some k.now = sym c.known.ensures ∙ ap (option_map (λ b. b.now)) has in
    subst (λ l. AreKnown l k.now) (c.requires.names t) (c.in_ok-keep.ensures.kept t c.in-Some.number c.args.place k.now kept (sym c.number.ensures ∙ c.in-Some.is))
