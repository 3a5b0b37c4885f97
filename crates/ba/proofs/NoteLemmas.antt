-- Notes are written piece by piece: what was written of one, for the clauses of the functions that write them.
use Rattle.std.proofs.Common.{◌≡◌, ℕ, List, ◌++◌, Option, Result, Ok, Err, OnOk, OnErr, inl, inr, sym, ap, subst, ◌∙◌, append_assoc}
use Rattle.std.specs.Io.KnownBytes.{Appends}
use Rattle.std.proofs.KnownBytes.{Appends-trans}
use Rattle.ba_ports.specs.Outputs.{WritesPart}
use Rattle.ba_ports.specs.Whole.{WritesOrFails}

-- all of a piece after all of another
pub all_after : (old mid new : Option (List ℕ)) (first rest : List ℕ)
    → Appends old mid first → Appends mid new rest → Appends old new (first ++ rest)
all_after old mid new first rest = Appends-trans old mid new first rest

-- a prefix of a piece after all of another
pub part_after : (old mid new : Option (List ℕ)) (first rest : List ℕ)
    → Appends old mid first → WritesPart mid new rest → WritesPart old new (first ++ rest)
part_after old mid new first rest all part =
    let front = part.1.0 in (
      part.0,
      (
        first ++ front,
        Appends-trans old mid new first front all part.1.1,
        ap (λ (bytes : List ℕ). first ++ bytes) part.1.2 ∙ sym (append_assoc first front part.0),
      ),
    )

-- the same of a call that writes the piece, which these bytes are
pub err_after : {A E : Type 0} (r : Result A E) (old mid new : Option (List ℕ)) (first bytes rest : List ℕ) → bytes ≡ rest
    → Appends old mid first → OnErr r (WritesPart mid new bytes) → OnErr r (WritesPart old new (first ++ rest))
err_after (Ok done) old mid new first bytes rest same all part = tt
err_after (Err why) old mid new first bytes rest same all part =
    part_after old mid new first rest all (subst (WritesPart mid new) same part)

-- what a call wrote of a note, whatever it returned
pub whole_or_fails : {A E : Type 0} (r : Result A E) (old new : Option (List ℕ)) (Fails : Type 0) (due : List ℕ)
    → OnOk r (Appends old new due) → OnErr r (WritesPart old new due) → OnErr r Fails → WritesOrFails old new Fails due
whole_or_fails (Ok done) old new Fails due all part cause = inl all
whole_or_fails (Err why) old new Fails due all part cause = inr (part, cause)
