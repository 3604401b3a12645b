use Rattle.cm_match_serving.specs.Linkings.{set_in}
use Rattle.cm_match.specs.Pairs.{AreJudged}
use Rattle.cm_match.specs.Walks.{HasServed}
use Rattle.cm_match.proofs.walk.walk_imports.Given as goal

-- the imports so far are served, and these are their lines
abbrev pub invariant-loop-import : goal.invariant-loop-import
invariant-loop-import l =
    AreJudged l.linking l.judged
    × HasServed (set_in l.linking) l.component l.import l.plan.items
