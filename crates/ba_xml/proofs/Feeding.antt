-- What a reader keeps and tells as it is fed: for the clauses of `Reader` and of `read`.
use Rattle.std.proofs.Common.{◌≡◌, ◌≢◌, ℕ, Result, Ok, Err, List, ◌++◌, refl, ap, sym, subst, ◌∙◌}
use Rattle.ba_tree.specs.declared.trees.Tree.{Tree}
use Rattle.ba_xml.specs.Reading.{IsReadOf, IsFirstCause, IsToldOf}
use Rattle.ba_xml.specs.Feeding.{IsFed}
use Rattle.ba_xml.specs.inside.Progress.{ComesTo, GoesOn, IsProgressOf, told_by, answer_by}
use Rattle.ba_xml.specs.declared.readers.Progress.{Progress}
use Rattle.ba_xml.specs.declared.readers.Progress.TheVariants.{Reads, Faulted, Starved}
use Rattle.ba_xml.specs.declared.readers.Reader.{Reader}
use Rattle.ba_xml_grammar.specs.Places.{IsRefused, IsAnswerOf}
use Rattle.ba_xml_places.proofs.Answering.{taken_free, cause_answered, holds, stopped}
use Rattle.ba_xml_reader.proofs.Runs.{run_append, run_refused}
use Rattle.ba_xml_reader.specs.inside.Machine.{start, run, answer_of}
use Rattle.ba_xml_reader.specs.inside.Readings.{Reading, Refused, Going}
use Rattle.ba_xml_words.specs.declared.faults.Reason.{Reason}
use Rattle.ba_xml_words.specs.declared.faults.Reason.TheVariants as reason
use Rattle.ba_xml_words.specs.declared.faults.XmlFault.{XmlFault}
use Rattle.ba_xml_words.specs.declared.faults.XmlFault.TheVariants as fault

-- ---- a piece

pub fed_on : (old : Progress) (piece : List ℕ) (next : Progress) → GoesOn old piece next → (bytes : List ℕ) → IsProgressOf bytes old
    → told_by next ≢ Err fault.Memory → IsProgressOf (bytes ++ piece) next
fed_on (Reads scan taken) piece next g bytes f other = by next g other
  where
    on : (x : Reading) → run (Going scan taken) piece ≡ x → run (Going start 0) (bytes ++ piece) ≡ x
    on x e = run_append (Going start 0) bytes piece ∙ ap (λ r. run r piece) f ∙ e

    by : (next : Progress) → ComesTo (Going scan taken) piece next → told_by next ≢ Err fault.Memory → IsProgressOf (bytes ++ piece) next
    by (Reads last n) e o = on (Going last n) e
    by (Faulted why place) e o = on (Refused why place) e
    by Starved e o = absurd (o refl)
fed_on (Faulted why place) piece next g bytes f other =
    subst (λ p. IsProgressOf (bytes ++ piece) p) (sym g)
    (run_append (Going start 0) bytes piece ∙ ap (λ r. run r piece) f ∙ run_refused why place piece)
fed_on Starved piece next g bytes f other = absurd f

pub told_exactly : (p : Progress) (bytes : List ℕ) → IsProgressOf bytes p → IsToldOf bytes (told_by p)
told_exactly (Reads scan taken) bytes f = taken_free bytes (scan, taken, f)
told_exactly (Faulted why place) bytes f = stopped bytes why place f
told_exactly Starved bytes f = f

pub stays_told : (old : Progress) (piece : List ℕ) (next : Progress) → GoesOn old piece next → (bytes : List ℕ) (r : Reason) (n : ℕ)
    → IsProgressOf bytes old → IsFirstCause bytes r n → told_by next ≡ Err (fault.At r n)
stays_told (Reads scan taken) piece next g bytes r n f c = absurd (taken_free bytes (scan, taken, f) r n c.0)
stays_told (Faulted why place) piece next g bytes r n f c =
    ap told_by g ∙ same (sym (ap answer_of f) ∙ cause_answered bytes r n c.0 c.1)
  where
    same_why : (let a : Result Tree XmlFault = Err (fault.At why place) in a) ≡ Err (fault.At r n) → why ≡ r
    same_why e = cc

    same_place : (let a : Result Tree XmlFault = Err (fault.At why place) in a) ≡ Err (fault.At r n) → place ≡ n
    same_place e = cc

    same : (let a : Result Tree XmlFault = Err (fault.At why place) in a) ≡ Err (fault.At r n)
        → told_by (Faulted why place) ≡ Err (fault.At r n)
    same e = ap (λ x. Err (fault.At x place)) (same_why e) ∙ ap (λ k. Err (fault.At r k)) (same_place e)
stays_told Starved piece next g bytes r n f c = absurd f

-- ---- want of memory

pub starves : (p : Progress) → told_by p ≡ Err fault.Memory → p ≡ Starved
starves (Reads scan taken) e = absurd (no e)
  where
    no : (let a : Result (Unit {0}) XmlFault = Ok tt in a) ≡ Err fault.Memory → ⊥
    no e = cc
starves (Faulted why place) e = absurd (no e)
  where
    no : (let a : Result (Unit {0}) XmlFault = Err (fault.At why place) in a) ≡ Err fault.Memory → ⊥
    no e = cc
starves Starved e = refl

pub starved_on : (old : Progress) (piece : List ℕ) (next : Progress) → GoesOn old piece next → old ≡ Starved
    → told_by next ≡ Err fault.Memory
starved_on old piece next g e = ap told_by (subst (λ p. GoesOn p piece next) e g)

-- ---- the end

pub ended : (p : Progress) (bytes : List ℕ) → IsProgressOf bytes p → IsAnswerOf bytes (answer_by p)
ended (Reads scan taken) bytes f = subst (λ x. IsAnswerOf bytes (answer_of x)) f (holds bytes)
ended (Faulted why place) bytes f = subst (λ x. IsAnswerOf bytes (answer_of x)) f (holds bytes)
ended Starved bytes f = absurd f

-- ---- reading at once

first_refused : (bytes : List ℕ) (r : Reason) (n : ℕ) → IsFirstCause bytes r n → IsRefused bytes r n
first_refused bytes reason.NotUtf8 n c = (c.0, c.1)
first_refused bytes reason.Syntax n c = (c.0, c.1)
first_refused bytes reason.Truncated n c = absurd c.0
first_refused bytes reason.Namespace n c = (c.0, c.1)
first_refused bytes reason.Depth n c = (c.0, c.1)
first_refused bytes reason.Size n c = (c.0, c.1)
first_refused bytes reason.Attributes n c = (c.0, c.1)

-- after the one piece, unless memory was wanting
abbrev IsFedWith : List ℕ → Result (Unit {0}) XmlFault → Reader → Type 0
IsFedWith bytes told reader = told ≢ Err fault.Memory → IsFed reader bytes

-- a fault that is told of all the bytes
pub fault_read : (f : XmlFault) (bytes : List ℕ) (reader : Reader) → IsFedWith bytes (Err f) reader
    → ((fed : List ℕ) → IsFed reader fed → IsToldOf fed (Err f)) → IsReadOf bytes (Err f)
fault_read fault.Memory bytes reader fed told = tt
fault_read (fault.At why place) bytes reader fed told = first_refused bytes why place (told bytes (fed other))
  where
    other : (let a : Result (Unit {0}) XmlFault = Err (fault.At why place) in a) ≢ Err fault.Memory
    other e = cc

-- where none is told, they are all fed
pub all_fed : (done : Unit {0}) (bytes : List ℕ) (reader : Reader) → IsFedWith bytes (Ok done) reader → IsFed reader bytes
all_fed done bytes reader fed = fed other
  where
    other : (let a : Result (Unit {0}) XmlFault = Ok done in a) ≢ Err fault.Memory
    other e = cc

pub answer_read : (answer : Result Tree XmlFault) (bytes : List ℕ) → IsAnswerOf bytes answer → IsReadOf bytes answer
answer_read (Ok tree) bytes a = a
answer_read (Err fault.Memory) bytes a = tt
answer_read (Err (fault.At why place)) bytes a = a
