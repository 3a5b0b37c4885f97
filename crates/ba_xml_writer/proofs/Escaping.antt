-- A run of bytes that are written as themselves, and what ends it.
use Rattle.std.proofs.Common.{◌≡◌, ℕ, ◌+◌, ◌-◌, ◌<◌, ◌≤◌, List, [], ◌∷◌, ◌++◌, length, take, drop, get_or, refl, sym, ap, arith}
use Rattle.std.proofs.Common.{append_assoc, length-drop, add-one}
use Rattle.std.proofs.Math.Seq.{take-suc, drop-cons, drop-length}
use Rattle.std.proofs.lemmas.List.{get_or-drop}
use Rattle.ba_xml_writer.specs.OneText.{Escape, spelled, escaped}

longer : (k start i : ℕ) (bytes : List ℕ) → start + k ≡ i → i < length bytes
    → take (k + 1) (drop start bytes) ≡ take k (drop start bytes) ++ get_or bytes i 0 ∷ []
longer k start i bytes e h =
    let l : k < length (drop start bytes) = omega (arith, length-drop {A = ℕ}) in
    rw (add-one, take-suc (drop start bytes) k 0 l, get_or-drop start bytes k 0, e) refl

at : (escapes : List Escape) (bytes : List ℕ) (i : ℕ) (rest : List ℕ) → i < length bytes
    → escaped escapes (drop i bytes) rest ≡ spelled escapes (get_or bytes i 0) (escaped escapes (drop (i + 1) bytes) rest)
at escapes bytes i rest h = rw (drop-cons bytes i 0 h, add-one) refl

pub plain_step : (escapes : List Escape) (bytes : List ℕ) (start i : ℕ) (rest : List ℕ) → start ≤ i → i < length bytes
    → ((more : List ℕ) → spelled escapes (get_or bytes i 0) more ≡ get_or bytes i 0 ∷ more)
    → take (i + 1 - start) (drop start bytes) ++ escaped escapes (drop (i + 1) bytes) rest
    ≡ take (i - start) (drop start bytes) ++ escaped escapes (drop i bytes) rest
plain_step escapes bytes start i rest le h plain =
    let k : i + 1 - start ≡ (i - start) + 1 = omega arith in
    let s : start + (i - start) ≡ i = omega arith in
    rw (k, longer (i - start) start i bytes s h, append_assoc, at escapes bytes i rest h)
    (sym (ap (λ more. take (i - start) (drop start bytes) ++ more) (plain (escaped escapes (drop (i + 1) bytes) rest))))

pub escape_step : (escapes : List Escape) (bytes spelling : List ℕ) (start i : ℕ) (rest : List ℕ) → i < length bytes
    → ((more : List ℕ) → spelled escapes (get_or bytes i 0) more ≡ spelling ++ more)
    → take (i - start) (drop start bytes) ++ (spelling ++ escaped escapes (drop (i + 1) bytes) rest)
    ≡ take (i - start) (drop start bytes) ++ escaped escapes (drop i bytes) rest
escape_step escapes bytes spelling start i rest h spelt =
    rw (at escapes bytes i rest h)
    (sym (ap (λ more. take (i - start) (drop start bytes) ++ more) (spelt (escaped escapes (drop (i + 1) bytes) rest))))

pub last_run : (escapes : List Escape) (bytes : List ℕ) (start at : ℕ) (rest : List ℕ) → length bytes ≤ at → at ≤ length bytes
    → take (at - start) (drop start bytes) ++ escaped escapes (drop at bytes) rest
    ≡ take (length bytes - start) (drop start bytes) ++ rest
last_run escapes bytes start at rest le ge =
    let e : at ≡ length bytes = omega arith in
    rw (e, drop-length bytes) refl
