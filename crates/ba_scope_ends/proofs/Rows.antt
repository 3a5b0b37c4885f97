-- An end after the row that was asked for, for what an end receives.
use Rattle.std.proofs.Common.{◌≡◌, Bool, refl}
use Rattle.ba_core.specs.declared.rows.CRow.{CRow}
use Rattle.ba_core.specs.declared.rows.CRow.TheVariants as crow
use Rattle.ba_core.specs.declared.states.CState.{CState}
use Rattle.ba_link.specs.Link.{settled_state}
use Rattle.ba_scope_ends.specs.Ends.{end_after_row, settled_row}
use Rattle.ba_scope_ends.specs.declared.ends.End.{End}

pub row_after : (r : CRow) (e : End) (next : CState) (prompt : Bool) → crow.Row next prompt ≡ settled_row r e
    → record e { state = next } ≡ end_after_row r e
row_after crow.Invalid e next prompt is = cc
row_after (crow.Row n p) e next prompt is =
    let same : next ≡ settled_state e.protocol n e.verdict = cc in
    λ i. record e { state = same i }

pub invalid_after : (r : CRow) (e : End) → crow.Invalid ≡ settled_row r e → e ≡ end_after_row r e
invalid_after crow.Invalid e is = refl
invalid_after (crow.Row n p) e is = cc
