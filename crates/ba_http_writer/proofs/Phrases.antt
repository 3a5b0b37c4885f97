-- A code with a canonical phrase is a status code; for phrase_of.
use Rattle.std.proofs.Common.{◌≡◌, ℕ, ◌<◌, ◌≤◌, Bool, true, false, if◌then◌else◌, List, Option, Some, None, arith, refl, subst, sym}
use Rattle.std.specs.Prelude.{IsSome, ◌==◌}
use Rattle.std.proofs.lemmas.Bool.{eqb-true}
use Rattle.http.specs.StatusCode.{IsStatusCode, reason_phrase}

-- one phrase of the table, and the rest of it
row : (code k : ℕ) (phrase : List ℕ) (rest : Option (List ℕ)) → 100 ≤ k → k < 1000 → (IsSome rest → IsStatusCode code)
    → IsSome (if code == k then Some phrase else rest) → IsStatusCode code
row code k phrase rest low high others some = at (code == k) refl some
  where
    at : (t : Bool) → (code == k) ≡ t → IsSome (if t then Some phrase else rest) → IsStatusCode code
    at true is some' = subst IsStatusCode (sym (eqb-true code k is)) (low, high)
    at false is some' = others some'

-- no phrase
no_row : (code : ℕ) → IsSome {T = List ℕ} None → IsStatusCode code
no_row code none = absurd (let no : false ≡ true = none in cc)

-- Spelled out row by row, since the table is a chain of tests.
pub has_phrase : (code : ℕ) → IsSome (reason_phrase code) → IsStatusCode code
has_phrase code =
    row code 100 _ _ (omega arith) (omega arith) (
    row code 101 _ _ (omega arith) (omega arith) (
    row code 102 _ _ (omega arith) (omega arith) (
    row code 103 _ _ (omega arith) (omega arith) (
    row code 200 _ _ (omega arith) (omega arith) (
    row code 201 _ _ (omega arith) (omega arith) (
    row code 202 _ _ (omega arith) (omega arith) (
    row code 203 _ _ (omega arith) (omega arith) (
    row code 204 _ _ (omega arith) (omega arith) (
    row code 205 _ _ (omega arith) (omega arith) (
    row code 206 _ _ (omega arith) (omega arith) (
    row code 207 _ _ (omega arith) (omega arith) (
    row code 208 _ _ (omega arith) (omega arith) (
    row code 226 _ _ (omega arith) (omega arith) (
    row code 300 _ _ (omega arith) (omega arith) (
    row code 301 _ _ (omega arith) (omega arith) (
    row code 302 _ _ (omega arith) (omega arith) (
    row code 303 _ _ (omega arith) (omega arith) (
    row code 304 _ _ (omega arith) (omega arith) (
    row code 305 _ _ (omega arith) (omega arith) (
    row code 307 _ _ (omega arith) (omega arith) (
    row code 308 _ _ (omega arith) (omega arith) (
    row code 400 _ _ (omega arith) (omega arith) (
    row code 401 _ _ (omega arith) (omega arith) (
    row code 402 _ _ (omega arith) (omega arith) (
    row code 403 _ _ (omega arith) (omega arith) (
    row code 404 _ _ (omega arith) (omega arith) (
    row code 405 _ _ (omega arith) (omega arith) (
    row code 406 _ _ (omega arith) (omega arith) (
    row code 407 _ _ (omega arith) (omega arith) (
    row code 408 _ _ (omega arith) (omega arith) (
    row code 409 _ _ (omega arith) (omega arith) (
    row code 410 _ _ (omega arith) (omega arith) (
    row code 411 _ _ (omega arith) (omega arith) (
    row code 412 _ _ (omega arith) (omega arith) (
    row code 413 _ _ (omega arith) (omega arith) (
    row code 414 _ _ (omega arith) (omega arith) (
    row code 415 _ _ (omega arith) (omega arith) (
    row code 416 _ _ (omega arith) (omega arith) (
    row code 417 _ _ (omega arith) (omega arith) (
    row code 418 _ _ (omega arith) (omega arith) (
    row code 421 _ _ (omega arith) (omega arith) (
    row code 422 _ _ (omega arith) (omega arith) (
    row code 423 _ _ (omega arith) (omega arith) (
    row code 424 _ _ (omega arith) (omega arith) (
    row code 425 _ _ (omega arith) (omega arith) (
    row code 426 _ _ (omega arith) (omega arith) (
    row code 428 _ _ (omega arith) (omega arith) (
    row code 429 _ _ (omega arith) (omega arith) (
    row code 431 _ _ (omega arith) (omega arith) (
    row code 451 _ _ (omega arith) (omega arith) (
    row code 500 _ _ (omega arith) (omega arith) (
    row code 501 _ _ (omega arith) (omega arith) (
    row code 502 _ _ (omega arith) (omega arith) (
    row code 503 _ _ (omega arith) (omega arith) (
    row code 504 _ _ (omega arith) (omega arith) (
    row code 505 _ _ (omega arith) (omega arith) (
    row code 506 _ _ (omega arith) (omega arith) (
    row code 507 _ _ (omega arith) (omega arith) (
    row code 508 _ _ (omega arith) (omega arith) (
    row code 510 _ _ (omega arith) (omega arith) (
    row code 511 _ _ (omega arith) (omega arith) (
    no_row code))))))))))))))))))))))))))))))))))))))))))))))))))))))))))))))
