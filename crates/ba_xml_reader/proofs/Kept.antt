-- What every answer keeps: places within the bytes, the limit, and refusals that stay.
use Rattle.std.proofs.Common.{◌≡◌, ◌≢◌, ℕ, ◌+◌, ◌<◌, ◌≤◌, Bool, true, false, cond, nat_lt, List, [], ◌∷◌, length, Option, Some, None}
use Rattle.std.proofs.Common.{Result, Ok, Err, refl, ap, sym, subst, ◌∙◌, arith}
use borrow.Author.Tests.{ltb-true}
use Rattle.ba_tree.specs.declared.trees.Tree.{Tree}
use Rattle.ba_xml_reader.specs.inside.Machine.{run, reading_after, counted, turned, reason_at, answer_of, answer_by, finished}
use Rattle.ba_xml_words.specs.declared.faults.Reason.{Reason}
use Rattle.ba_xml_words.specs.declared.faults.Reason.TheVariants.{Size, Truncated}
use Rattle.ba_xml_words.specs.declared.faults.XmlFault.{XmlFault}
use Rattle.ba_xml_words.specs.declared.faults.XmlFault.TheVariants as fault
use Rattle.ba_xml_reader.specs.declared.machine.Scan.{Scan}
use Rattle.ba_xml_reader.specs.inside.Turns.{Turn}
use Rattle.ba_xml_reader.specs.inside.Turns as turn
use Rattle.ba_xml_reader.specs.inside.Readings.{Reading, Refused, Going}
use Rattle.ba_xml_reader.proofs.Runs.{run_none, run_more, run_refused}

-- a reading after so many bytes
abbrev pub Told : ℕ → Reading → Type 0
Told end (Refused reason place) = place ≤ end
Told end (Going scan taken) = (taken ≡ end) × (taken ≤ 262144)

refused_told : (reason : Reason) (place end : ℕ) (bs : List ℕ) → place ≤ end → Told end (run (Refused reason place) bs)
refused_told reason place end bs h = subst (λ r. Told end r) (sym (run_refused reason place bs)) h

counted_by : (b : Bool) (scan : Scan) (taken end : ℕ) (bs : List ℕ) → taken ≤ end
    → (b ≡ true → Told end (run (Going scan (taken + 1)) bs))
    → Told end (run (cond b (Going scan (taken + 1)) (Refused Size taken)) bs)
counted_by true scan taken end bs h f = f refl
counted_by false scan taken end bs h f = refused_told Size taken end bs h

counted_told : (t : Turn) (taken end : ℕ) (bs : List ℕ) → taken ≤ end
    → ((scan : Scan) → nat_lt taken 262144 ≡ true → Told end (run (Going scan (taken + 1)) bs))
    → Told end (run (counted taken t) bs)
counted_told (turn.Refused reason) taken end bs h f = refused_told (reason_at taken reason) taken end bs h
counted_told (turn.On scan) taken end bs h f = counted_by (nat_lt taken 262144) scan taken end bs h (f scan)

going_after : (scan : Scan) (taken b : ℕ) → reading_after (Going scan taken) b ≡ counted taken (turned scan b)
unfolding reading_after
going_after scan taken b = refl

lt_of : (n m : ℕ) → nat_lt n m ≡ true → n < m
lt_of n m h = omega (arith, ltb-true)

pub told : (bs : List ℕ) (scan : Scan) (taken end : ℕ) → taken + length bs ≡ end → taken ≤ 262144
    → Told end (run (Going scan taken) bs)
told [] scan taken end e h =
    let same : taken ≡ end = omega arith in
    subst (λ r. Told end r) (sym (run_none (Going scan taken))) (same, h)
told (b ∷ bs) scan taken end e h =
    let within : taken ≤ end = omega arith in
    let further : taken + 1 + length bs ≡ end = omega arith in
    let step = run_more (Going scan taken) b bs ∙ ap (λ r. run r bs) (going_after scan taken b) in
    subst (λ r. Told end r) (sym step)
    (counted_told (turned scan b) taken end bs within
    (λ next t. told bs next (taken + 1) end further (next_within taken (lt_of taken 262144 t))))
  where
    next_within : (n : ℕ) → n < 262144 → n + 1 ≤ 262144
    next_within n l = omega arith

-- of a text
text_by : (found : Option Tree) (taken end : ℕ) (tree : Tree) → taken ≡ end → taken ≤ 262144
    → answer_by taken found ≡ Ok tree → end ≤ 262144
text_by found taken end tree e h is = omega arith

no_tree : (reason : Reason) (place : ℕ) (tree : Tree) → answer_of (Refused reason place) ≡ Ok tree → ⊥
no_tree reason place tree is = cc

pub text_within : (r : Reading) (end : ℕ) (tree : Tree) → Told end r → answer_of r ≡ Ok tree → end ≤ 262144
text_within (Refused reason place) end tree t is = absurd (no_tree reason place tree is)
text_within (Going scan taken) end tree t is = text_by (finished scan) taken end tree t.0 t.1 is

-- of a place
place_by : (found : Option Tree) (taken end : ℕ) (reason : Reason) (place : ℕ) → taken ≡ end
    → answer_by taken found ≡ Err (fault.At reason place) → place ≤ end
place_by None taken end reason place e is =
    let same : taken ≡ place = cc in omega arith
place_by (Some tree) taken end reason place e is = absurd (cc)

refused_place : (told_reason reason : Reason) (told_place place end : ℕ) → told_place ≤ end
    → answer_of (Refused told_reason told_place) ≡ Err (fault.At reason place) → place ≤ end
refused_place told_reason reason told_place place end h is =
    let same : told_place ≡ place = cc in omega arith

pub place_within : (r : Reading) (end : ℕ) (reason : Reason) (place : ℕ) → Told end r
    → answer_of r ≡ Err (fault.At reason place) → place ≤ end
place_within (Refused told_reason told_place) end reason place t is = refused_place told_reason reason told_place place end t is
place_within (Going scan taken) end reason place t is = place_by (finished scan) taken end reason place t.0 is

-- a refusal stays
stays_by : (found : Option Tree) (taken : ℕ) (reason : Reason) (place : ℕ) (more : Result Tree XmlFault)
    → answer_by taken found ≡ Err (fault.At reason place) → reason ≢ Truncated → more ≡ Err (fault.At reason place)
stays_by None taken reason place more is other = absurd (other (cc))
stays_by (Some tree) taken reason place more is other = absurd (cc)

pub stays : (r : Reading) (more : List ℕ) (reason : Reason) (place : ℕ) → answer_of r ≡ Err (fault.At reason place)
    → reason ≢ Truncated → answer_of (run r more) ≡ Err (fault.At reason place)
stays (Refused told_reason told_place) more reason place is other = ap answer_of (run_refused told_reason told_place more) ∙ is
stays (Going scan taken) more reason place is other =
    stays_by (finished scan) taken reason place (answer_of (run (Going scan taken) more)) is other
