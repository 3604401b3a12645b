use Rattle.std.proofs.Common.{◌≡◌, ◌+◌, ◌++◌, ◌∷◌, [], length, arith, rules}
use Rattle.std.proofs.lemmas.List.{length-append}
use Rattle.cm_wit_conforms.specs.Views.{entry_of}
use Rattle.cm_wit_conforms.proofs.NoteLaws.{both_one}
use Rattle.cm_wit_conforms.proofs.walk.Walk.add.Goals as goal

pub returns : goal.returns
returns c = λ h w es k.
    let e = entry_of h w c.args.each in
    let next : c.in_ok-count.count ≡ c.args.self.now.count + 1 = search rules in
    let long : length (es ++ e ∷ []) ≡ length es + 1 = length-append es (e ∷ []) in
    record {
      judged = c.in_ok-add.ensures h w es k.judged;
      pairs = both_one es e c.args.self.now.pairs c.note.new.self c.args.self.now.count k.pairs k.count (c.in_ok-note.ensures h w);
      count = omega (arith, next, long, k.count);
    }
