use Rattle.std.proofs.Common.{List, true, false, ap, subst, ◌∙◌, IsTrue}
use Rattle.ba_journal.specs.Journals.{appending, behind_gate, IsSettled, StandsWithOrWithout}
use Rattle.ba_journal.specs.inside.Appending.{IsFrameOf}
use Rattle.ba_journal.proofs.journals.Journal.append.Goals as goal
use Rattle.ba_ports.specs.Disk.{InTurn, LeavesOnly}
use Rattle.ba_ports.specs.declared.requests.Call.{Call}
use Rattle.ba_record.specs.Coding.{coding}
use Rattle.ba_record.specs.Rooms.{RoomValue}
use Rattle.ba_record.specs.declared.records.Record.{Record}

pub returns-in-Ok-clause-any_moment : goal.returns-in-Ok-clause-any_moment
returns-in-Ok-clause-any_moment g c =
    let D = g.D.Disk in
    let r = c.args.r.now in
    let frame : IsFrameOf c.as_slice.result.now r =
    record {
      in_range = c.requires.in_range;
      bytes = c.as_slice.ensures ∙ ap (λ (room : RoomValue). room.bytes) c.put_behind_gate.ensures;
    } in
    subst (λ j. IsTrue (D.follows j.disk) → (records : List Record) → IsSettled D.seen D.may_leave j.disk j.gate records
    → LeavesOnly D.later D.left_between j.disk c.put_frame.new.disk (StandsWithOrWithout records r)) c.self.view_is
    (λ follows records settled. c.in-Ok.ensures.any_moment follows records r settled frame)

pub returns-in-Ok-clause-calls : goal.returns-in-Ok-clause-calls
returns-in-Ok-clause-calls g c =
    let D = g.D.Disk in
    let behind = behind_gate (coding c.args.r.now) in
    let new = c.put_frame.new.disk in
    let is_behind = c.as_slice.ensures ∙ ap (λ (room : RoomValue). room.bytes) c.put_behind_gate.ensures in
    subst (λ j. (calls : List Call) × D.driven j.disk calls new × InTurn (appending j.gate behind) false calls) c.self.view_is
    (subst (λ b. (calls : List Call) × D.driven c.self.inside.disk calls new
    × InTurn (appending c.self.inside.gate b) false calls) is_behind
    c.in-Ok.ensures.calls)

pub returns-in-Err-clause-any_moment : goal.returns-in-Err-clause-any_moment
returns-in-Err-clause-any_moment g c =
    let D = g.D.Disk in
    let r = c.args.r.now in
    let frame : IsFrameOf c.as_slice.result.now r =
    record {
      in_range = c.requires.in_range;
      bytes = c.as_slice.ensures ∙ ap (λ (room : RoomValue). room.bytes) c.put_behind_gate.ensures;
    } in
    subst (λ j. IsTrue (D.follows j.disk) → (records : List Record) → IsSettled D.seen D.may_leave j.disk j.gate records
    → LeavesOnly D.later D.left_between j.disk c.put_frame.new.disk (StandsWithOrWithout records r)) c.self.view_is
    (λ follows records settled. c.in-Err.ensures.any_moment follows records r settled frame)

pub returns-in-Err-clause-calls : goal.returns-in-Err-clause-calls
returns-in-Err-clause-calls g c =
    let D = g.D.Disk in
    let behind = behind_gate (coding c.args.r.now) in
    let new = c.put_frame.new.disk in
    let is_behind = c.as_slice.ensures ∙ ap (λ (room : RoomValue). room.bytes) c.put_behind_gate.ensures in
    subst (λ j. (calls : List Call) × D.driven j.disk calls new × InTurn (appending j.gate behind) true calls) c.self.view_is
    (subst (λ b. (calls : List Call) × D.driven c.self.inside.disk calls new × InTurn (appending c.self.inside.gate b) true calls) is_behind
    c.in-Err.ensures.calls)
