use Rattle.std.proofs.Math.Logic.{∥∥₁_elim, ∥∥₁_prop}
use Rattle.cm_wit_package.specs.PackageViews.{package_tree}
use Rattle.cm_wit_signature.proofs.written_laws.packages_are_written.Goals as goal

pub returns : goal.returns
returns c =
    ∥∥₁_elim c.args.wit.now.written ∥∥₁_prop (λ p. ∣ c.what_texts_write.ensures p.0 (package_tree c.args.wit.now) p.1.0 ∣₁)
