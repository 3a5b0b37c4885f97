-- Runs of the machine over one byte, over pieces, and after a refusal.
use Rattle.std.proofs.Common.{◌≡◌, ℕ, ◌-◌, ◌≤◌, arith, List, [], ◌∷◌, ◌++◌, length, take, drop, refl, ap, sym, ◌∙◌}
use Rattle.std.proofs.lemmas.List.{length-drop, take_all}
use Rattle.ba_xml_reader.specs.inside.Machine.{run, reading_after}
use Rattle.ba_xml_words.specs.declared.faults.Reason.{Reason}
use Rattle.ba_xml_reader.specs.inside.Readings.{Reading, Refused}

pub run_none : (r : Reading) → run r [] ≡ r
unfolding run
run_none r = refl

pub run_more : (r : Reading) (b : ℕ) (bs : List ℕ) → run r (b ∷ bs) ≡ run (reading_after r b) bs
unfolding run
run_more r b bs = refl

refused_stays : (r : Reason) (place b : ℕ) → reading_after (Refused r place) b ≡ Refused r place
unfolding reading_after
refused_stays r place b = refl

-- once refused, nothing that follows changes the answer
pub run_refused : (r : Reason) (place : ℕ) (bs : List ℕ) → run (Refused r place) bs ≡ Refused r place
run_refused r place [] = run_none (Refused r place)
run_refused r place (b ∷ bs) = run_more (Refused r place) b bs ∙ ap (λ x. run x bs) (refused_stays r place b) ∙ run_refused r place bs

pub run_append : (r : Reading) (front more : List ℕ) → run r (front ++ more) ≡ run (run r front) more
run_append r [] more = ap (λ x. run x more) (sym (run_none r))
run_append r (b ∷ front) more =
    run_more r b (front ++ more) ∙ run_append (reading_after r b) front more ∙ ap (λ x. run x more) (sym (run_more r b front))

pub from_there : (at : ℕ) (bs : List ℕ) → take (length bs - at) (drop at bs) ≡ drop at bs
from_there at bs = take_all (length bs - at) (drop at bs) within
  where
    within : length (drop at bs) ≤ length bs - at
    within = omega (arith, length-drop at bs)
