-- No act and no row leads a participant back to Registering.
use Rattle.std.proofs.Common.{◌≡◌, ◌≢◌, Bool, true, false, Option, Some, None, refl, sym, ap, ◌∙◌}
use Rattle.ba_core.specs.Cells.{Cell, to, pc_to, stay, again, none}
use Rattle.ba_core.specs.PartRows.{PartCells, part_rows, part_column, part_meaning, part_row, acted_state}
use Rattle.ba_core.specs.declared.protocols.Protocol.{Protocol}
use Rattle.ba_core.specs.declared.protocols.Protocol.TheVariants.{Pc, Cc}
use Rattle.ba_core.specs.declared.notices.Act.{Act}
use Rattle.ba_core.specs.declared.notices.Act.TheVariants as act
use Rattle.ba_core.specs.declared.notices.Notice.{Notice}
use Rattle.ba_core.specs.declared.notices.Notice.TheVariants as notice
use Rattle.ba_core.specs.declared.rows.PRow.{PRow}
use Rattle.ba_core.specs.declared.rows.PRow.TheVariants.{Invalid, Row}
use Rattle.ba_core.specs.declared.states.How.TheVariants.{Canceled}
use Rattle.ba_core.specs.declared.states.PState.{PState}
use Rattle.ba_core.specs.declared.states.PState.TheVariants as part

abbrev is_enrolled : PState → Bool
is_enrolled part.Registering = false
is_enrolled s = true

enrolled_not_registering : (s : PState) → is_enrolled s ≡ true → s ≢ part.Registering
enrolled_not_registering s h e = let bad : false ≡ true = sym (ap is_enrolled e) ∙ h in cc

not_registering_enrolled : (s : PState) → s ≢ part.Registering → is_enrolled s ≡ true
not_registering_enrolled part.Registering h = absurd (h refl)
not_registering_enrolled (part.Ended how) h = refl
not_registering_enrolled s h = refl

abbrev leads_on : Option PState → Bool
leads_on None = true
leads_on (Some next) = is_enrolled next

acts_lead_on : (p : Protocol) (s : PState) (a : Act) → leads_on (acted_state p s a) ≡ true
acts_lead_on Pc part.Active act.Completed = refl
acts_lead_on Pc part.Completing act.Completed = refl
acts_lead_on Pc part.Closing act.Completed = refl
acts_lead_on Pc part.Canceling act.Completed = refl
acts_lead_on Pc part.Compensating act.Completed = refl
acts_lead_on Cc part.Active act.Completed = refl
acts_lead_on Cc part.Completing act.Completed = refl
acts_lead_on Cc part.Closing act.Completed = refl
acts_lead_on Cc part.Canceling act.Completed = refl
acts_lead_on Cc part.Compensating act.Completed = refl
acts_lead_on p s a = refl

pub acted_enrolled : (p : Protocol) (s : PState) (a : Act) (next : PState) → acted_state p s a ≡ Some next → next ≢ part.Registering
acted_enrolled p s a next h = enrolled_not_registering next (sym (ap leads_on h) ∙ acts_lead_on p s a)

-- a cell that leads to another state leads on
abbrev cell_leads_on : Cell PState → Bool
cell_leads_on (to next) = is_enrolled next
cell_leads_on (pc_to next) = is_enrolled next
cell_leads_on stay = true
cell_leads_on again = true
cell_leads_on none = true

record CellsLeadOn (cells : PartCells) : Type 0 where
  complete : cell_leads_on cells.complete ≡ true
  close : cell_leads_on cells.close ≡ true
  cancel : cell_leads_on cells.cancel ≡ true
  compensate : cell_leads_on cells.compensate ≡ true
  failed : cell_leads_on cells.failed ≡ true
  exited : cell_leads_on cells.exited ≡ true
  not_completed : cell_leads_on cells.not_completed ≡ true

rows_lead_on : (s : PState) → CellsLeadOn (part_rows s)
rows_lead_on part.Active =
    record { complete = refl; close = refl; cancel = refl; compensate = refl; failed = refl; exited = refl; not_completed = refl }
rows_lead_on (part.Ended Canceled) =
    record { complete = refl; close = refl; cancel = refl; compensate = refl; failed = refl; exited = refl; not_completed = refl }
rows_lead_on s =
    record { complete = refl; close = refl; cancel = refl; compensate = refl; failed = refl; exited = refl; not_completed = refl }

columns_lead_on : (p : Protocol) (n : Notice) (cells : PartCells) → CellsLeadOn cells → cell_leads_on (part_column p n cells) ≡ true
columns_lead_on Pc notice.Complete cells lead = refl
columns_lead_on Cc notice.Complete cells lead = lead.complete
columns_lead_on Pc notice.Close cells lead = lead.close
columns_lead_on Cc notice.Close cells lead = lead.close
columns_lead_on Pc notice.Cancel cells lead = lead.cancel
columns_lead_on Cc notice.Cancel cells lead = lead.cancel
columns_lead_on Pc notice.Compensate cells lead = lead.compensate
columns_lead_on Cc notice.Compensate cells lead = lead.compensate
columns_lead_on Pc notice.Failed cells lead = lead.failed
columns_lead_on Cc notice.Failed cells lead = lead.failed
columns_lead_on Pc notice.Exited cells lead = lead.exited
columns_lead_on Cc notice.Exited cells lead = lead.exited
columns_lead_on Pc notice.NotCompleted cells lead = lead.not_completed
columns_lead_on Cc notice.NotCompleted cells lead = lead.not_completed
columns_lead_on p n cells lead = refl

abbrev row_leads_on : PRow → Bool
row_leads_on Invalid = true
row_leads_on (Row next prompt) = is_enrolled next

meanings_lead_on : (p : Protocol) (s : PState) (cell : Cell PState) → is_enrolled s ≡ true → cell_leads_on cell ≡ true
    → row_leads_on (part_meaning p s cell) ≡ true
meanings_lead_on Pc s (to next) here lead = lead
meanings_lead_on Cc s (to next) here lead = lead
meanings_lead_on Pc s (pc_to next) here lead = lead
meanings_lead_on Cc s (pc_to next) here lead = refl
meanings_lead_on Pc s stay here lead = here
meanings_lead_on Cc s stay here lead = here
meanings_lead_on Pc s again here lead = here
meanings_lead_on Cc s again here lead = here
meanings_lead_on Pc s none here lead = refl
meanings_lead_on Cc s none here lead = refl

pub row_enrolled : (p : Protocol) (s : PState) (n : Notice) (next : PState) (prompt : Bool) → s ≢ part.Registering
    → part_row p s n ≡ Row next prompt → next ≢ part.Registering
row_enrolled p s n next prompt here h =
    enrolled_not_registering next (sym (ap row_leads_on h) ∙ meanings_lead_on p s (part_column p n (part_rows s))
    (not_registering_enrolled s here) (columns_lead_on p n (part_rows s) (rows_lead_on s)))
