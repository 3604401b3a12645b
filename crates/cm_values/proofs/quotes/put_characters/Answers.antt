use Rattle.std.proofs.Common.{ℕ, List, ◌++◌, sym, ap, ◌∙◌, map-id}
use Rattle.std.specs.List.{flat_map}
use Rattle.std.specs.String.{string_bytes}
use Rattle.std.proofs.lemmas.Iterator.{YieldsList-from_chars}
use Rattle.std.proofs.lemmas.Iterator.Consumers.{YieldsList-end}
use Rattle.cm_values.specs.Quotes.{in_quotes}
use Rattle.cm_values.proofs.ListLaws.{characters_next}
use Rattle.cm_values.proofs.quotes.put_characters.Goals as goal

pub loop-character-preserved : goal.loop-character-preserved
loop-character-preserved c =
    characters_next (in_quotes 0x22) c.loop-character.yielded c.in-Some.character (string_bytes c.args.out.now) (string_bytes c.loop-character.out) (string_bytes c.put_in_quotes.new.out) c.loop-character.invariant c.in_ok-put_in_quotes.ensures

pub returns : goal.returns
returns c =
    let end = YieldsList-end (YieldsList-from_chars c.args.text.now c.utf8.text cc) c.loop-character.yielded _ c.loop-character.yielded_by _ _ c.in-None.is c.next.ensures.steps in
    c.loop-character.invariant ∙ ap (λ (z : List ℕ). string_bytes c.args.out.now ++ flat_map (in_quotes 0x22) z) (sym (map-id c.loop-character.yielded) ∙ end.0)
