-- A tree that keeps the rules of texts, and is small, can be written: for the laws on envelopes.
use Rattle.std.proofs.Common.{◌≡◌, ℕ, ◌≤◌, List, [], length, ap, ◌∙◌, arith}
use Rattle.ba_tree.specs.declared.trees.Tree.{Tree}
use Rattle.ba_tree.specs.Trees.{firsts}
use Rattle.ba_xml_writer.specs.Namespaces.{further}
use Rattle.ba_xml_writer.specs.Writable.{IsWritable}
use Rattle.ba_xml_writer.proofs.Numbers.{length-numbered}
use Rattle.ba_wire_limits.proofs.FurtherSpaces.{further_is}
use Rattle.ba_wire_limits.proofs.ShortTexts.{short_by_coding}
use Rattle.ba_wire_limits.proofs.SoundTrees.{Sound}

pub writable_by : {t : Tree} {deep size : ℕ} {xs : List (List ℕ)} → Sound t deep size xs → deep ≤ 32 → size ≤ 20000
    → length (firsts xs) ≤ 28 → t.attributes ≡ [] → IsWritable t
writable_by {t} s d l f none =
    let names = ap length (further_is t ∙ ap firsts s.names) in
    let count = length-numbered 1 (further t) in
    let own = ap length none in
    let a = s.within_levels in
    let b = s.within_size in
    record { fit = s.fit; deep = omega arith; few = s.few; room = omega arith; short = short_by_coding t (omega arith) (omega arith) }
