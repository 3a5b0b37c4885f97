-- Before the place of a refusal no place is dead, and none in a text or in bytes that end too early.
use Rattle.std.proofs.Common.{◌≡◌, ℕ, ◌+◌, ◌<◌, ◌≤◌, ◌⊎◌, inl, inr, Ok, Err, List, take, drop, refl, sym, ap, subst, ◌∙◌, arith}
use Rattle.std.proofs.lemmas.Bool.{cases_lt}
use Rattle.std.proofs.lemmas.List.{take-append-drop, take-take}
use Rattle.ba_tree.specs.declared.trees.Tree.{Tree}
use Rattle.ba_xml_places.proofs.Exact.{same_fault, stop, early_taken}
use Rattle.ba_xml_places.proofs.Viable.{viable}
use Rattle.ba_xml_places.specs.inside.Taken.{IsTaken}
use Rattle.ba_xml_reader.proofs.Runs.{run_append, run_refused}
use Rattle.ba_xml_grammar.specs.Places.{IsDead}
use Rattle.ba_xml_reader.specs.inside.Machine.{start, run, answer_of, xml_answer}
use Rattle.ba_xml_words.specs.declared.faults.Reason.{Reason}
use Rattle.ba_xml_words.specs.declared.faults.Reason.TheVariants as reason
use Rattle.ba_xml_words.specs.declared.faults.XmlFault.TheVariants as fault
use Rattle.ba_xml_reader.specs.declared.machine.Scan.{Scan}
use Rattle.ba_xml_reader.specs.inside.Readings.{Reading, Refused, Going}

refused_going : (r : Reason) (m n : ℕ) (scan : Scan) → Refused r m ≡ Going scan n → ⊥
refused_going r m n scan e = cc

pub taken_front : (bytes : List ℕ) (k : ℕ) → IsTaken bytes → IsTaken (take k bytes)
taken_front bytes k t = by (run (Going start 0) (take k bytes)) refl
  where
    by : (x : Reading) → run (Going start 0) (take k bytes) ≡ x → IsTaken (take k bytes)
    by (Going scan n) e = (scan, n, e)
    by (Refused r n) e = absurd (refused_going r n t.1 t.0
        (sym (run_refused r n (drop k bytes)) ∙ ap (λ x. run x (drop k bytes)) (sym e)
        ∙ sym (run_append (Going start 0) (take k bytes) (drop k bytes)) ∙ ap (λ x. run (Going start 0) x) (take-append-drop k bytes)
        ∙ t.2))

pub none_dead : (bytes : List ℕ) (m : ℕ) → IsTaken bytes → IsDead bytes m → ⊥
none_dead bytes m t d = d.2 (viable (take (m + 1) bytes) (taken_front bytes (m + 1) t))

none_before : (bytes : List ℕ) (r : Reason) (n m : ℕ) → run (Going start 0) bytes ≡ Refused r n → IsDead bytes m → n ≤ m
none_before bytes r n m e d = by (cases_lt m n)
  where
    earlier : m < n → ⊥
    earlier l =
        let i = stop bytes r n e in
        let t : IsTaken (take (m + 1) (take n bytes)) = taken_front (take n bytes) (m + 1) (i.1, n, i.2) in
        d.2 (viable (take (m + 1) bytes) (subst (λ x. IsTaken x) (take-take (m + 1) n bytes (omega (arith, l))) t))

    by : (m < n) ⊎ (n ≤ m) → n ≤ m
    by (inl l) = absurd (earlier l)
    by (inr h) = h

-- an answer is a run's
told : (bytes : List ℕ) (r : Reason) (n : ℕ) (x : Reading) → run (Going start 0) bytes ≡ x → answer_of x ≡ Err (fault.At r n)
    → (run (Going start 0) bytes ≡ Refused r n) ⊎ IsTaken bytes
told bytes r n (Refused y m) e t = inl (e ∙ same_fault y r m n t)
told bytes r n (Going scan taken) e t = inr (scan, taken, e)

pub first_dead : (bytes : List ℕ) (r : Reason) (n : ℕ) → xml_answer bytes ≡ Err (fault.At r n) → (m : ℕ) → IsDead bytes m → n ≤ m
first_dead bytes r n t m d = by (told bytes r n (run (Going start 0) bytes) refl t)
  where
    by : (run (Going start 0) bytes ≡ Refused r n) ⊎ IsTaken bytes → n ≤ m
    by (inl e) = none_before bytes r n m e d
    by (inr k) = absurd (none_dead bytes m k d)

pub early_alive : (bytes : List ℕ) (n : ℕ) → xml_answer bytes ≡ Err (fault.At reason.Truncated n) → (m : ℕ) → IsDead bytes m → ⊥
early_alive bytes n t m d = none_dead bytes m (early_taken bytes n t) d

pub text_taken : (bytes : List ℕ) (tree : Tree) (x : Reading) → run (Going start 0) bytes ≡ x → answer_of x ≡ Ok tree → IsTaken bytes
text_taken bytes tree (Refused r n) e t = absurd (clash t)
  where
    clash : answer_of (Refused r n) ≡ Ok tree → ⊥
    clash f = cc
text_taken bytes tree (Going scan taken) e t = (scan, taken, e)

pub text_alive : (bytes : List ℕ) (tree : Tree) → xml_answer bytes ≡ Ok tree → (m : ℕ) → IsDead bytes m → ⊥
text_alive bytes tree t m d = none_dead bytes m (text_taken bytes tree (run (Going start 0) bytes) refl t) d
