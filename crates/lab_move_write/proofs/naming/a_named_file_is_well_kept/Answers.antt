use Rattle.std.proofs.Common.{sym, ap, subst}
use Rattle.sqlite_keyed.specs.Keyed.{insert_by}
use Rattle.lab_store_tables.specs.Rows.{Tables, desk_id}
use Rattle.lab_store_tables.specs.Meaning.{meaning}
use Rattle.lab_store_tables.specs.WellKept.{is_desk, IsWellKept}
use Rattle.lab_move_write.specs.Namings.{naming_row}
use Rattle.lab_move_write.proofs.naming.a_named_file_is_well_kept.Goals as goal

pub returns-clause-kept : goal.returns-clause-kept
returns-clause-kept c = λ old new none well it.
    subst IsWellKept (sym it.made) (record {
      desk = ap (λ rows. is_desk (insert_by desk_id rows (naming_row it.id))) none;
      rows = record {
        ids = well.ids;
        keys = well.keys;
        arrows = well.arrows;
        labs_apart = well.labs_apart;
        numbered = well.numbered;
        alike = well.alike;
        columns = well.columns;
        persons = well.persons;
        fields = well.fields;
        signatures = well.signatures;
        trail = well.trail;
      };
    })

pub returns-clause-same : goal.returns-clause-same
returns-clause-same c = λ old new it code. ap (λ (t : Tables). meaning t code) it.made
