use Rattle.std.proofs.Common.{◌≡◌, ◌-◌, ◌^◌, ◌≤◌, List, ℕ, ◌++◌, length}
use Rattle.std.specs.Io.KnownBytes.{Consumes, Keeps}
use Rattle.ba_http_head.specs.declared.blocks.TheConstants.{BLOCK}
use Rattle.ba_http_chunks.specs.inside.Progress.{Stands, Gives}
use Rattle.ba_http_chunks.proofs.reads.chunks_by.Given as goal

abbrev pub invariant-reading : goal.invariant-reading
invariant-reading g l = record {
  taken : (fed body : List ℕ) → Stands l.fn.from fed body
      → (taken : List ℕ) × (more : List ℕ) × Consumes (g.K.Link.left l.initial.link) (g.K.Link.left l.link) taken
      × Stands l.chunks (fed ++ taken) (body ++ more) × Gives (g.T.Taker.stands l.initial.taker) (g.T.Taker.stands l.taker) more;
  block : length l.block ≡ BLOCK;
  written : Keeps (g.K.Link.written l.initial.link) (g.K.Link.written l.link);
  stayed : g.K.Link.faults l.link ≡ g.K.Link.faults l.initial.link;
}

abbrev pub decreases-reading : goal.decreases-reading
decreases-reading g l = 2 ^ 33 - l.chunks.count
