-- Believe: what holds between a child scope and its parent, which enrolled the child's upward part.
use Rattle.std.specs.Prelude.{◌≡◌, ℕ, ◌<◌, Bool, false, [], ◌∷◌, Some}
use Rattle.ba_core.specs.declared.protocols.Verdict.{Verdict}
use Rattle.ba_core.specs.declared.states.How.TheVariants.{Exited}
use Rattle.ba_core.specs.declared.states.CState.{CState}
use Rattle.ba_core.specs.declared.states.CState.TheVariants as end
use Rattle.ba_link.specs.States.{end_among}
use Rattle.ba_scope.specs.Scope.{ScopeState}
use Rattle.ba_scope_ends.specs.declared.ends.End.{End}
use Rattle.ba_scope_ends.specs.declared.parts.Part.{Part}
use Rattle.ba_world_runs.specs.Links.{HasEnd}
use Rattle.ba_world_runs.specs.World.{Net, ScopeAt, registration_at}

-- s at the node k, whose upward part this is, is a child of t at the node j
pub record IsChild (w : Net) (k : ℕ) (s : ScopeState) (upward : Part) (j : ℕ) (t : ScopeState) : Type 0 where
  pub child : ScopeAt w k s
  pub has_upward : s.up ≡ Some upward
  pub parent : ScopeAt w j t
  pub names : upward.registration ≡ registration_at w j t.id

-- the end that enrolled the upward part has this verdict
abbrev pub HasVerdictAbove : Net → ℕ → Part → ScopeState → Verdict → Type 0
HasVerdictAbove w k upward t v = (e : End) × HasEnd w k upward t e × (e.verdict ≡ Some v)

-- each child has the kind of its parent, and scopes can be put in an order in which each child stands behind its parent
pub record GenerationsFit (w : Net) : Type 0 where
  pub same_kind_above : (k j : ℕ) (s t : ScopeState) (upward : Part) → IsChild w k s upward j t → s.kind ≡ t.kind
  -- the place of each scope in that order, by its identifier, and a place behind all of them
  pub made_at : ℕ → ℕ
  pub made_so_far : ℕ
  pub made_before_now : (k : ℕ) (s : ScopeState) → ScopeAt w k s → made_at s.id.0 < made_so_far
  pub made_after_parent : (k j : ℕ) (s t : ScopeState) (upward : Part) → IsChild w k s upward j t
      → made_at t.id.0 < made_at s.id.0

pub record TreesFit (w : Net) : Type 0 where
  pub generations : GenerationsFit w
  -- a child with a verdict has an end above it, and that end has the same verdict
  pub same_verdict_above : (k j : ℕ) (s t : ScopeState) (upward : Part) (v : Verdict) → IsChild w k s upward j t
      → s.verdict ≡ Some v → HasVerdictAbove w k upward t v

-- ---- what stands below a scope, at any depth

-- s at the node k is the scope top at the node l, or stands below it
pub data IsUnder (w : Net) (l : ℕ) (top : ScopeState) : ℕ → ScopeState → Type 0 where
  is_top : ScopeAt w l top → IsUnder w l top l top
  is_below : {k : ℕ} {s : ScopeState} (upward : Part) (j : ℕ) (t : ScopeState) → IsChild w k s upward j t → IsUnder w l top j t
      → IsUnder w l top k s

-- the end is Exiting, or has exited
abbrev pub is_exited_state : CState → Bool
is_exited_state = end_among (end.Exiting ∷ end.Ended Exited ∷ [])

-- likewise, where no end on the way, which enrolled a child's upward part, is Exiting or has exited
pub data IsKeptUnder (w : Net) (l : ℕ) (top : ScopeState) : ℕ → ScopeState → Type 0 where
  is_kept_top : ScopeAt w l top → IsKeptUnder w l top l top
  is_kept_below : {k : ℕ} {s : ScopeState} (upward : Part) (over : End) (j : ℕ) (t : ScopeState) → IsChild w k s upward j t
      → HasEnd w k upward t over → is_exited_state over.state ≡ false → IsKeptUnder w l top j t → IsKeptUnder w l top k s
