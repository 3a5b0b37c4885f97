-- Each end has one link, each participant and each scope fits; and what is sound is safe. For the laws of these names.
use Rattle.std.proofs.Common.{inl, inr, ℕ, List, ◌∷◌, Option, IsTrue, sym, ◌∙◌, subst}
use Rattle.ba_scope_ends.specs.Parts.{part_fits}
use Rattle.ba_scope.specs.Fits.{ScopeFits, up_fits}
use Rattle.ba_scope.specs.Scope.{ScopeState}
use Rattle.ba_scope_ends.specs.declared.ends.End.{End}
use Rattle.ba_scope_ends.specs.declared.parts.Part.{Part}
use Rattle.ba_node_steps.specs.Node.{Among}
use Rattle.ba_node_steps.proofs.Objects.{lone_fits}
use Rattle.ba_world_runs.specs.Links.{HasOneLink}
use Rattle.ba_world_runs.specs.Runs.{IsRun}
use Rattle.ba_world_runs.specs.Safety.{IsAddressed, IsSafe, IsSound, KeepsItsEnd}
use Rattle.ba_world_runs.specs.World.{Net, PartAt, ScopeAt, World, net_of, node_at}
use Rattle.ba_world_runs.proofs.AddressedRuns.{run_addressed}
use Rattle.ba_world_runs.proofs.Owners.{fits_here, one_endpoint, scope_fits_here}
use Rattle.ba_world_runs.proofs.Told.{tells_the_word}

one_link : (w : Net) → IsAddressed w → (k : ℕ) (s : ScopeState) (e : End) → ScopeAt w k s → Among s.ends e → HasOneLink w k s e
one_link w is k s e has among =
    let known = is.endpoints.ends k s e has among in
    record {
      node = known.0;
      part = known.1;
      link = known.2;
      is_its_end = (among, known.3);
      protocol = known.4;
      alone = λ j p link its. one_endpoint w is j known.0 p known.1 link.part known.2.part (sym its.1 ∙ known.3);
    }

part_fits_here : (w : Net) → IsAddressed w → (k : ℕ) (p : Part) → PartAt w k p → IsTrue (part_fits p)
part_fits_here w is k p (inl lone) = lone_fits (node_at w k) p (fits_here w is k) lone
part_fits_here w is k p (inr above) =
    subst (λ (o : Option Part). IsTrue (up_fits o)) above.2 (scope_fits_here w is k above.0 above.1).up

own_end : (w : Net) → IsAddressed w → (j : ℕ) (p : Part) → PartAt w j p → IsTrue (part_fits p) × KeepsItsEnd w j p
own_end w is j p has = (part_fits_here w is j p has, is.endpoints.coordinators j p has)

pub safe : (w : Net) → IsSound w → IsSafe w
safe w sound = record {
  links = sound.links;
  mail = sound.addressed.mail;
  ends = one_link w sound.addressed;
  registers = sound.addressed.endpoints.parts;
  parts = own_end w sound.addressed;
  scopes = λ k s has. scope_fits_here w sound.addressed k s has;
  trees = sound.trees;
  told = tells_the_word w sound;
}

-- ---- in each run

pub run_one_link : (w : World) (before : List World) → IsRun (w ∷ before) → (k : ℕ) (s : ScopeState) (e : End)
    → ScopeAt (net_of w) k s → Among s.ends e → HasOneLink (net_of w) k s e
run_one_link w before run = one_link (net_of w) (run_addressed w before run)

pub run_own_end : (w : World) (before : List World) → IsRun (w ∷ before) → (j : ℕ) (p : Part) → PartAt (net_of w) j p
    → IsTrue (part_fits p) × KeepsItsEnd (net_of w) j p
run_own_end w before run = own_end (net_of w) (run_addressed w before run)

pub run_scope_fits : (w : World) (before : List World) → IsRun (w ∷ before) → (k : ℕ) (s : ScopeState) → ScopeAt (net_of w) k s
    → ScopeFits s
run_scope_fits w before run k s has = scope_fits_here (net_of w) (run_addressed w before run) k s has
