-- Lines grow by one record after another, for the clauses of `list` and `put_lines`.
use Rattle.std.proofs.Common.{◌≡◌, ℕ, ◌+◌, ◌<◌, List, [], ◌∷◌, ◌++◌, length, get_or}
use Rattle.std.proofs.Common.{take, sym, ap, ◌∙◌, append_assoc, arith, Result, Ok, Err, OnErr}
use Rattle.std.proofs.lemmas.List.{append-nil, take_more, length-take-le}
use Rattle.std.proofs.Math.Seq.{take-length}
use Rattle.ba_record.specs.declared.records.Record.{Record}
use Rattle.ba_cmd_journal.specs.Listing.{line_text, lines_from}

-- one record more is one line more
pub one_more : (index : ℕ) (records : List Record) (r : Record)
    → lines_from index (records ++ r ∷ []) ≡ lines_from index records ++ line_text (index + length records) r
one_more index [] r =
    let place : index ≡ index + length {A = Record} [] = omega arith in
    append-nil (line_text index r) ∙ ap (λ (n : ℕ). line_text n r) place
one_more index (x ∷ records) r =
    let place : index + 1 + length records ≡ index + length (x ∷ records) = omega arith in
    ap (λ (rest : List ℕ). line_text index x ++ rest)
    (one_more (index + 1) records r ∙ ap (λ (n : ℕ). lines_from (index + 1) records ++ line_text n r) place)
    ∙ sym (append_assoc (line_text index x) (lines_from (index + 1) records) (line_text (index + length (x ∷ records)) r))

-- the lines of the records up to and with the one at this place
pub next_line : (records : List Record) (i : ℕ) (r : Record) → i < length records → r ≡ get_or records i r
    → lines_from 0 (take (i + 1) records) ≡ lines_from 0 (take i records) ++ line_text i r
next_line records i r within is =
    let place : 0 + length (take i records) ≡ i = omega (arith, length-take-le i records (omega arith)) in
    ap (lines_from 0) (take_more records i r within ∙ ap (λ (x : Record). take i records ++ x ∷ []) (sym is))
    ∙ one_more 0 (take i records) r
    ∙ ap (λ (n : ℕ). lines_from 0 (take i records) ++ line_text n r) place

-- where the lines of the records before this place were put, and the line of the one at it is put behind them
pub grown : (before now after : List ℕ) (records : List Record) (i : ℕ) (r : Record) → i < length records → r ≡ get_or records i r
    → now ≡ before ++ lines_from 0 (take i records) → after ≡ now ++ line_text i r → after ≡ before ++ lines_from 0 (take (i + 1) records)
grown before now after records i r within is put next =
    next ∙ ap (λ (xs : List ℕ). xs ++ line_text i r) put
    ∙ append_assoc before (lines_from 0 (take i records)) (line_text i r)
    ∙ ap (λ (xs : List ℕ). before ++ xs) (sym (next_line records i r within is))

-- where the lines of all records were put and then nothing, the lines of the first records were put
pub whole_lines : (before now after : List ℕ) (found records : List Record) → found ≡ records
    → now ≡ before ++ lines_from 0 found → after ≡ now
    → (count : ℕ) × (after ≡ before ++ lines_from 0 (take count records))
whole_lines before now after found records same put kept =
    (length records, kept ∙ put ∙ ap (λ (xs : List Record). before ++ lines_from 0 xs) (same ∙ sym (take-length records)))

pub so_err : {A E P Q : Type 0} (result : Result A E) → (P → Q) → OnErr result P → OnErr result Q
so_err (Ok a) f p = tt
so_err (Err e) f p = f p
