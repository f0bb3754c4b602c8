use Rattle.std.proofs.Common.{sym, subst}
use Rattle.lab_records_kept.specs.declared.changes.Change.{Change}
use Rattle.lab_store_tables.specs.Steps.{AppliesWhereKept}
use Rattle.lab_store_write.specs.Calls.{WritesUnlessTrying, MadeFrom}
use Rattle.lab_store_write.specs.Givers.{Knows}
use Rattle.lab_store_write.specs.Tried.{TriedFrom}
use Rattle.lab_store_write.proofs.Givers.{by_whomever}
use Rattle.lab_store_write_changes.specs.Causes.{IsTooMuch}
use Rattle.lab_store_write_changes.specs.Tried.{TriesIn}
use Rattle.lab_store_write_changes.proofs.changes.change_rows.Goals as goal

pub returns-in-Last : goal.returns-in-Last
returns-in-Last g c =
    let knows = Knows c.args.lab.id c.args.giver in
    subst (λ (one : Change). WritesUnlessTrying (λ _. IsTooMuch one) (TriedFrom knows (TriesIn c.args.lab.id one)) g.W.Writable.lender g.W.Writable.state (MadeFrom knows (AppliesWhereKept c.args.lab.id one)) c.args.tx.now c.change_last.new.tx c.change_last.result)
    (sym c.in-Last.is) (by_whomever c.change_last.ensures)

pub returns-in-Strays : goal.returns-in-Strays
returns-in-Strays g c =
    let knows = Knows c.args.lab.id c.args.giver in
    subst (λ (one : Change). WritesUnlessTrying (λ _. IsTooMuch one) (TriedFrom knows (TriesIn c.args.lab.id one)) g.W.Writable.lender g.W.Writable.state (MadeFrom knows (AppliesWhereKept c.args.lab.id one)) c.args.tx.now c.change_strays.new.tx c.change_strays.result)
    (sym c.in-Strays.is) (by_whomever c.change_strays.ensures)

pub returns-in-PersonAdded : goal.returns-in-PersonAdded
returns-in-PersonAdded g c =
    let knows = Knows c.args.lab.id c.args.giver in
    subst (λ (one : Change). WritesUnlessTrying (λ _. IsTooMuch one) (TriedFrom knows (TriesIn c.args.lab.id one)) g.W.Writable.lender g.W.Writable.state (MadeFrom knows (AppliesWhereKept c.args.lab.id one)) c.args.tx.now c.add_person.new.tx c.add_person.result)
    (sym c.in-PersonAdded.is) c.add_person.ensures

pub returns-in-PersonSet : goal.returns-in-PersonSet
returns-in-PersonSet g c =
    let knows = Knows c.args.lab.id c.args.giver in
    subst (λ (one : Change). WritesUnlessTrying (λ _. IsTooMuch one) (TriedFrom knows (TriesIn c.args.lab.id one)) g.W.Writable.lender g.W.Writable.state (MadeFrom knows (AppliesWhereKept c.args.lab.id one)) c.args.tx.now c.set_person.new.tx c.set_person.result)
    (sym c.in-PersonSet.is) c.set_person.ensures

pub returns-in-SessionAdded : goal.returns-in-SessionAdded
returns-in-SessionAdded g c =
    let knows = Knows c.args.lab.id c.args.giver in
    subst (λ (one : Change). WritesUnlessTrying (λ _. IsTooMuch one) (TriedFrom knows (TriesIn c.args.lab.id one)) g.W.Writable.lender g.W.Writable.state (MadeFrom knows (AppliesWhereKept c.args.lab.id one)) c.args.tx.now c.add_session.new.tx c.add_session.result)
    (sym c.in-SessionAdded.is) c.add_session.ensures

pub returns-in-SessionSet : goal.returns-in-SessionSet
returns-in-SessionSet g c =
    let knows = Knows c.args.lab.id c.args.giver in
    subst (λ (one : Change). WritesUnlessTrying (λ _. IsTooMuch one) (TriedFrom knows (TriesIn c.args.lab.id one)) g.W.Writable.lender g.W.Writable.state (MadeFrom knows (AppliesWhereKept c.args.lab.id one)) c.args.tx.now c.set_session.new.tx c.set_session.result)
    (sym c.in-SessionSet.is) c.set_session.ensures

pub returns-in-SessionsClosed : goal.returns-in-SessionsClosed
returns-in-SessionsClosed g c =
    let knows = Knows c.args.lab.id c.args.giver in
    subst (λ (one : Change). WritesUnlessTrying (λ _. IsTooMuch one) (TriedFrom knows (TriesIn c.args.lab.id one)) g.W.Writable.lender g.W.Writable.state (MadeFrom knows (AppliesWhereKept c.args.lab.id one)) c.args.tx.now c.change_sessions.new.tx c.change_sessions.result)
    (sym c.in-SessionsClosed.is) c.change_sessions.ensures

pub returns-in-FormAdded : goal.returns-in-FormAdded
returns-in-FormAdded g c =
    let knows = Knows c.args.lab.id c.args.giver in
    subst (λ (one : Change). WritesUnlessTrying (λ _. IsTooMuch one) (TriedFrom knows (TriesIn c.args.lab.id one)) g.W.Writable.lender g.W.Writable.state (MadeFrom knows (AppliesWhereKept c.args.lab.id one)) c.args.tx.now c.add_form.new.tx c.add_form.result)
    (sym c.in-FormAdded.is) (by_whomever c.add_form.ensures)

pub returns-in-RecordAdded : goal.returns-in-RecordAdded
returns-in-RecordAdded g c =
    let knows = Knows c.args.lab.id c.args.giver in
    subst (λ (one : Change). WritesUnlessTrying (λ _. IsTooMuch one) (TriedFrom knows (TriesIn c.args.lab.id one)) g.W.Writable.lender g.W.Writable.state (MadeFrom knows (AppliesWhereKept c.args.lab.id one)) c.args.tx.now c.add_record.new.tx c.add_record.result)
    (sym c.in-RecordAdded.is) c.add_record.ensures

pub returns-in-RowAdded : goal.returns-in-RowAdded
returns-in-RowAdded g c =
    let knows = Knows c.args.lab.id c.args.giver in
    subst (λ (one : Change). WritesUnlessTrying (λ _. IsTooMuch one) (TriedFrom knows (TriesIn c.args.lab.id one)) g.W.Writable.lender g.W.Writable.state (MadeFrom knows (AppliesWhereKept c.args.lab.id one)) c.args.tx.now c.enter_row.new.tx c.enter_row.result)
    (sym c.in-RowAdded.is) c.enter_row.ensures

pub returns-in-VersionOpened : goal.returns-in-VersionOpened
returns-in-VersionOpened g c =
    let knows = Knows c.args.lab.id c.args.giver in
    subst (λ (one : Change). WritesUnlessTrying (λ _. IsTooMuch one) (TriedFrom knows (TriesIn c.args.lab.id one)) g.W.Writable.lender g.W.Writable.state (MadeFrom knows (AppliesWhereKept c.args.lab.id one)) c.args.tx.now c.open_version.new.tx c.open_version.result)
    (sym c.in-VersionOpened.is) c.open_version.ensures

pub returns-in-SignatureAdded : goal.returns-in-SignatureAdded
returns-in-SignatureAdded g c =
    let knows = Knows c.args.lab.id c.args.giver in
    subst (λ (one : Change). WritesUnlessTrying (λ _. IsTooMuch one) (TriedFrom knows (TriesIn c.args.lab.id one)) g.W.Writable.lender g.W.Writable.state (MadeFrom knows (AppliesWhereKept c.args.lab.id one)) c.args.tx.now c.sign_version.new.tx c.sign_version.result)
    (sym c.in-SignatureAdded.is) c.sign_version.ensures

pub returns-in-TrailAdded : goal.returns-in-TrailAdded
returns-in-TrailAdded g c =
    let knows = Knows c.args.lab.id c.args.giver in
    subst (λ (one : Change). WritesUnlessTrying (λ _. IsTooMuch one) (TriedFrom knows (TriesIn c.args.lab.id one)) g.W.Writable.lender g.W.Writable.state (MadeFrom knows (AppliesWhereKept c.args.lab.id one)) c.args.tx.now c.add_told.new.tx c.add_told.result)
    (sym c.in-TrailAdded.is) c.add_told.ensures
