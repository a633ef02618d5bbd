-- `steps::chunk::beginning` meets its contract: a start with the root alone is refused, and its state stands in.
-- Assumes nothing.
use mathlib.Core.Path.{◌≡◌, refl, sym, ap, subst, ◌∙◌}
use Rattle.rules.specs.Tree.{count_in_range, tree_fault}
use Rattle.rules.specs.Refusals.{start_checks, tree_checks}
use Rattle.rules.specs.Entries.{slowest, started, started_by}
use Rattle.rules.specs.Replay.{within, root_tree, beginning}
use Rattle.rules.specs.Invariant.{Playing}
use Rattle.rules.proofs.Laws.Replays.{beginning_plays}
use Rattle.rules.specs.declared.budget.Controller.{Controller}
use Rattle.rules.specs.declared.replay.Phase.TheVariants.{Setup}
use Rattle.steps.proofs.chunk.beginning.Goals as goal
use Rattle.rules.specs.Results.{Judged}

one-node-refused : (started root_tree slowest 0).state ≡ beginning.state
unfolding started started_by start_checks tree_checks tree_fault count_in_range
one-node-refused = refl

begins : (done : Judged) → done ≡ started root_tree slowest 0
    → (within Setup root_tree slowest done.state ≡ beginning) × Playing (within Setup root_tree slowest done.state)
begins done e =
    let same : within Setup root_tree slowest done.state ≡ beginning =
    ap (λ (c : Controller). within Setup root_tree slowest c) (ap (λ (o : Judged). o.state) e ∙ one-node-refused) in
    (same, subst Playing (sym same) beginning_plays)

pub returns : goal.returns
returns c = begins c.start.result c.start.ensures.value
