-- Believe: the word that is recorded for an end: in a root its verdict, and in a child the word of the end that enrolled the
-- child's upward part.
use Rattle.std.specs.Prelude.{◌≡◌, ℕ, None, Some}
use Rattle.ba_core.specs.declared.protocols.Verdict.{Verdict}
use Rattle.ba_scope.specs.Scope.{ScopeState}
use Rattle.ba_scope_ends.specs.declared.ends.End.{End}
use Rattle.ba_scope_ends.specs.declared.parts.Part.{Part}
use Rattle.ba_node_steps.specs.Node.{Among}
use Rattle.ba_world_runs.specs.Links.{HasEnd}
use Rattle.ba_world_runs.specs.Trees.{IsChild}
use Rattle.ba_world_runs.specs.World.{Net, ScopeAt}

-- the end whose identifier is this number has this word
pub data HasWord (w : Net) : ℕ → Verdict → Type 0 where
  of_root : {id : ℕ} {v : Verdict} (k : ℕ) (s : ScopeState) (e : End) → ScopeAt w k s → s.up ≡ None
      → Among s.ends e → e.id.0 ≡ id → e.verdict ≡ Some v → HasWord w id v
  of_child : {id : ℕ} {v : Verdict} (k : ℕ) (s : ScopeState) (upward : Part) (e : End) (j : ℕ) (t : ScopeState) (above : End)
      → IsChild w k s upward j t → Among s.ends e → e.id.0 ≡ id
      → HasEnd w k upward t above → HasWord w above.id.0 v → HasWord w id v

-- it has this word, and no other
pub record IsTheWord (w : Net) (id : ℕ) (v : Verdict) : Type 0 where
  pub has : HasWord w id v
  pub no_other : (u : Verdict) → HasWord w id u → u ≡ v
