use Rattle.std.proofs.Common.{◌≡◌, ℕ, ◌≤◌, List}
use Rattle.ba_xml_writer.specs.Escapes.{escapes_of, waiting}
use Rattle.ba_xml_writer.specs.OneText.{escaped}
use Rattle.ba_xml_writer.proofs.scribe.put_escaped.Given as goal

abbrev pub invariant-loop-at : goal.invariant-loop-at
invariant-loop-at g l = record {
  within : l.start ≤ l.at;
  so_far : (rest : List ℕ) → g.P.Page.after l.page (waiting l.place l.bytes l.start l.at rest)
      ≡ g.P.Page.after l.initial.page (escaped (escapes_of l.place) l.bytes rest);
}
