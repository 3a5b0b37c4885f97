-- What is written of what is due, piece by piece.
use Rattle.std.proofs.Common.{◌≡◌, ℕ, false, ◌∷◌, Ok, ◌+◌, ◌-◌, ◌≤◌, List, [], ◌++◌, length, take, drop, Option, Some, None, refl, sym, ap, ◌∙◌, append-nil}
use Rattle.std.proofs.Common.{append_assoc, length-drop, arith}
use Rattle.std.specs.Io.KnownBytes.{Appends, Keeps}
use Rattle.std.proofs.KnownBytes.{Appends-trans, Appends-nil}
use Rattle.ba_ports.specs.Outputs.{Writes, WritesPart}
use Rattle.ba_ports.specs.Streams.{takes_nothing}
use Rattle.ba_ports.specs.declared.failures.Failed.{Failed}
use Rattle.std.proofs.lemmas.Bool.Decides.{nat_tests}
use Rattle.std.proofs.lemmas.List.{take-append-drop, take_all}
use Rattle.std.proofs.Math.Seq.{take-add}

-- nothing is written yet
pub writes_none : (w : Option (List ℕ)) (due : List ℕ) → Writes w due w due
writes_none w due = ([], Appends-nil w, refl)

-- all that was due is written
pub writes_all : (old new : Option (List ℕ)) (due : List ℕ) → Appends old new due → Writes old due new []
writes_all old new due h = (due, h, sym (append-nil due))

-- what is left of what was due is due next
pub writes_on : (old now new : Option (List ℕ)) (due left rest : List ℕ) → Writes old due now left → Writes now left new rest
    → Writes old due new rest
writes_on old now new due left rest first second = (
  first.0 ++ second.0,
  Appends-trans old now new first.0 second.0 first.1 second.1,
  first.2 ∙ ap (λ bytes. first.0 ++ bytes) second.2 ∙ sym (append_assoc first.0 second.0 rest),
)

-- more is due behind it
pub writes_before : (old new : Option (List ℕ)) (due left more : List ℕ) → Writes old due new left
    → Writes old (due ++ more) new (left ++ more)
writes_before old new due left more h = (h.0, h.1, ap (λ bytes. bytes ++ more) h.2 ∙ append_assoc h.0 left more)

-- nothing is left, so all is written
pub writes_whole : (old new : Option (List ℕ)) (due : List ℕ) → Writes old due new [] → Appends old new due
writes_whole old new due h = let same : due ≡ h.0 = h.2 ∙ append-nil h.0 in rw same h.1

pub keeps_appends : (old new : Option (List ℕ)) → Keeps old new → Appends old new []
keeps_appends None new h = tt
keeps_appends (Some xs) None h = h
keeps_appends (Some xs) (Some ys) h = h ∙ sym (append-nil xs)

-- after a front of some bytes nothing more was written
pub part_so_far : (old now new : Option (List ℕ)) (bytes : List ℕ) (at : ℕ) → Appends old now (take at bytes) → Appends now new []
    → WritesPart old new bytes
part_so_far old now new bytes at first second = (
  drop at bytes,
  (
    take at bytes,
    rw (← append-nil (take at bytes)) (Appends-trans old now new (take at bytes) [] first second),
    sym
        (take-append-drop at bytes),
  ),
)

-- a piece behind a front makes a longer front
pub longer_front : (bytes : List ℕ) (at count : ℕ) → at + count ≤ length bytes
    → take at bytes ++ take count (take (length bytes - at) (drop at bytes)) ≡ take (at + count) bytes
longer_front bytes at count h =
    let short : length (drop at bytes) ≤ length bytes - at = omega (arith, length-drop at bytes) in
    ap (λ rest. take at bytes ++ take count rest) (take_all (length bytes - at) (drop at bytes) short) ∙ sym (take-add at count bytes)

-- where more is due, what was written of the first part is a part of it
pub part_before : (old new : Option (List ℕ)) (due more : List ℕ) → WritesPart old new due → WritesPart old new (due ++ more)
part_before old new due more h = (h.0 ++ more, writes_before old new due h.0 more h.1)

-- a write that took a byte didn't take nothing
pub takes_some : (n : ℕ) (piece : List ℕ) → (n ≡ 0 → ⊥) → takes_nothing {E = Failed} (Ok n) piece ≡ false
takes_some n [] some = refl
takes_some n (byte ∷ bytes) some = grind (arith, nat_tests)
