-- The change of an event that is enacted again keeps a node fit; for a load.
use Rattle.std.proofs.Common.{◌≡◌, sym, ap, ◌∙◌, subst}
use Rattle.ba_node_objects.specs.Changes.{changed_node}
use Rattle.ba_node.specs.declared.enacting.Again.{Again}
use Rattle.ba_node.specs.inside.Enacting.{told_change}
use Rattle.ba_node_steps.proofs.StepsFit.{step_fits}
use Rattle.ba_node_steps.specs.Fits.{HasSpareCounters, NodeFits}
use Rattle.ba_node_steps.specs.Lawful.{Change, Event, change}
use Rattle.ba_node_steps.specs.Node.{NodeState}

pub fits_again : (n m : NodeState) (e : Event) (a : Again) → m ≡ n → HasSpareCounters n → told_change n a ≡ change n e → NodeFits m
    → NodeFits (changed_node m a.change)
fits_again n m e a same spare told fits =
    let after : NodeFits (change n e).after = step_fits n e spare (subst NodeFits same fits) in
    let is : (change n e).after ≡ changed_node m a.change =
    ap (λ (c : Change). c.after) (sym told) ∙ ap (λ (x : NodeState). changed_node x a.change) (sym same) in
    subst NodeFits is after
