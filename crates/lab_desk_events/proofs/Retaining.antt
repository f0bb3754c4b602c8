-- What is retained at one event after the other is retained over all of them.
use Rattle.std.proofs.Common.{List, [], ◌∷◌, Option, Some, None, sym, ◌∙◌, subst}
use Rattle.lab_seal_versions.specs.declared.rows.EntryRow.{EntryRow}
use Rattle.lab_records_kept.specs.declared.labs.Lab.{Lab}
use Rattle.lab_records_kept.specs.declared.records.Record.{Record}
use Rattle.lab_records_kept.specs.declared.records.Version.{Version}
use Rattle.lab_records_kept.specs.declared.records.Signature.{Signature}
use Rattle.lab_records_kept.specs.Keeping.{IsPrefix, KeepsRows, KeepsVersion, KeepsRecord, Keeps}
use Rattle.lab_records_keeper.specs.Worlds.{World}
use Rattle.lab_records_laws.proofs.KeepLists.{extends_on, prefix_on}
use Rattle.lab_records_laws.proofs.KeepPersons.{persons_on, sessions_on}
use Rattle.lab_desk_events.specs.Keeping.{Follows, KeptFrom, Retains, RetainedFrom}
use Rattle.lab_desk_events.proofs.Keeping.{keeps_itself}

-- ---- records

rows_on : (signatures more : List Signature) (old between new : List EntryRow) →
    IsPrefix signatures more → KeepsRows signatures old between → KeepsRows more between new →
    KeepsRows signatures old new
rows_on [] [] old between new grown first next = prefix_on old between new first next
rows_on [] (one ∷ others) old between new grown first next =
    subst (λ (rows : List EntryRow). IsPrefix old rows) (sym next) first
rows_on (one ∷ others) [] old between new grown first next = absurd grown
rows_on (one ∷ others) (other ∷ more) old between new grown first next = next ∙ first

version_on : (one two three : Version) → KeepsVersion one two → KeepsVersion two three →
    KeepsVersion one three
version_on one two three first next = record {
  format = next.format ∙ first.format;
  origin = next.origin ∙ first.origin;
  opener = next.opener ∙ first.opener;
  opened = next.opened ∙ first.opened;
  rows = rows_on one.signatures two.signatures one.rows two.rows three.rows first.signatures
      first.rows next.rows;
  signatures = prefix_on one.signatures two.signatures three.signatures first.signatures
      next.signatures;
}

record_on : (one two three : Record) → KeepsRecord one two → KeepsRecord two three →
    KeepsRecord one three
record_on one two three first next = record {
  number = next.number ∙ first.number;
  form = next.form ∙ first.form;
  sample = next.sample ∙ first.sample;
  versions = extends_on KeepsVersion version_on one.versions two.versions three.versions
      first.versions next.versions;
}

-- ---- laboratories

retains_on : (one two three : Lab) → Retains one two → Retains two three → Retains one three
retains_on one two three first next = record {
  code = next.code ∙ first.code;
  name = next.name ∙ first.name;
  persons = persons_on one.persons two.persons three.persons first.persons next.persons;
  sessions = sessions_on one.sessions two.sessions three.sessions first.sessions next.sessions;
  forms = λ code version form is.
      next.forms code version form (first.forms code version form is);
  records = extends_on KeepsRecord record_on one.records two.records three.records
      first.records next.records;
  trail = prefix_on one.trail two.trail three.trail first.trail next.trail;
}

-- what keeps what was retains it
retains_kept : (old new : Lab) → Keeps old new → Retains old new
retains_kept old new keeps = record {
  code = keeps.code;
  name = keeps.name;
  persons = keeps.persons;
  sessions = keeps.sessions;
  forms = keeps.forms;
  records = keeps.records;
  trail = keeps.trail;
}

follows_on : (before between after : Option Lab) → Follows Retains before between →
    Follows Keeps between after → Follows Retains before after
follows_on None between after first next = tt
follows_on (Some one) None after first next = absurd first
follows_on (Some one) (Some two) None first next = absurd next
follows_on (Some one) (Some two) (Some three) first next =
    retains_on one two three first (retains_kept two three next)

itself : (lab : Option Lab) → Follows Retains lab lab
itself None = tt
itself (Some lab) = retains_kept lab lab (keeps_itself lab)

-- ---- all that are kept

-- nothing was touched
pub still_retained : (world : World) → RetainedFrom world world
still_retained world = λ live code. itself (world.meaning code)

-- one event more
pub retained_on : (old mid new : World) → (new.is_live → mid.is_live) → RetainedFrom old mid →
    KeptFrom mid new → RetainedFrom old new
retained_on old mid new back first next = λ live code.
    follows_on (old.meaning code) (mid.meaning code) (new.meaning code) (first (back live) code)
    (next live code)
