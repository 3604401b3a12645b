use Rattle.std.proofs.Common.{◌≡◌, is_some, map, ap, ◌∙◌, arith}
use Rattle.std.proofs.lemmas.Grind.{common_steps}
use Rattle.std.specs.String.{string_bytes}
use Rattle.cm_names.specs.MarkedTexts.{looked_up}
use Rattle.cm_names.proofs.TextLaws.{knows, told_if}
use Rattle.cm_names.proofs.texts.TextTable.number.Goals as goal

pub returns-clause-there : goal.returns-clause-there
returns-clause-there c =
    let s = c.args.self.now in
    let t = c.args.text.now in
    let marks : c.deref.result.now ≡ s.marks.items = grind (arith, common_steps) in
    let texts : c.deref-2.result.now ≡ s.texts.items = grind (arith, common_steps) in
    told_if s.marks.items (map string_bytes s.texts.items) s.rest s.is_table t c.looked_up.result
    (c.looked_up.ensures ∙ ap (λ xs. looked_up xs (map string_bytes c.deref-2.result.now) s.rest t) marks ∙ ap (λ ys. looked_up s.marks.items (map string_bytes ys) s.rest t) texts)

pub returns-clause-known : goal.returns-clause-known
returns-clause-known c =
    let s = c.args.self.now in
    let t = c.args.text.now in
    let marks : c.deref.result.now ≡ s.marks.items = grind (arith, common_steps) in
    let texts : c.deref-2.result.now ≡ s.texts.items = grind (arith, common_steps) in
    ap is_some (c.looked_up.ensures ∙ ap (λ xs. looked_up xs (map string_bytes c.deref-2.result.now) s.rest t) marks ∙ ap (λ ys. looked_up s.marks.items (map string_bytes ys) s.rest t) texts)
    ∙ knows s.marks.items (map string_bytes s.texts.items) s.rest s.is_table t
