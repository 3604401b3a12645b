use Rattle.cm_match_serving.specs.Linkings.{set_in}
use Rattle.cm_match.specs.Pairs.{AreJudged}
use Rattle.cm_match.specs.Walks.{HasServed}
use Rattle.cm_match.proofs.walk.walk.Given as goal

-- the imports of the components so far are served, and these are their lines
abbrev pub invariant-loop-component : goal.invariant-loop-component
invariant-loop-component l =
    AreJudged l.linking l.judged
    × HasServed (set_in l.linking) l.component 0 l.plan.items
