use Rattle.std.proofs.Common.{rules, ◌≡◌, ◌∙◌, ℕ, List, refl, sym, ap}
use Rattle.cm_validate_items.specs.declared.shared.Shared.{Shared}
use Rattle.cm_match_model.specs.Imports.{links_of}
use Rattle.cm_match_serving.specs.Linkings.{set_in}
use Rattle.cm_match.specs.Pairs.{instance_of_export, type_of_import}
use Rattle.cm_match.proofs.judged.Judged.pair.Goals as goal

pub returns : goal.returns
returns c =
    let set = set_in c.args.linking.now in
    let l = c.in_ok-link.link in
    let same : c.args.component ≡ c.in_ok-ok.field-0 = search rules in
    record {
      importer = refl;
      ty = ap (λ (ts : List Shared). type_of_import ts c.args.component c.args.import) (sym c.deref.ensures.value) ∙ sym c.in_ok-ty.ensures;
      link = l;
      linked = ap (λ (n : ℕ). links_of set n c.args.import) same ∙ sym c.in_ok-link.ensures;
      provider = refl;
      instance = ap (λ (ts : List Shared). instance_of_export ts l) (sym c.deref-2.ensures.value) ∙ sym c.in_ok-instance.ensures;
    }
