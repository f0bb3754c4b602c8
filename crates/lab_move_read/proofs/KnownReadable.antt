-- A small file of schema 2, with a laboratory in which nothing is yet: it is readable, so the premise of what is read isn't empty.
use Rattle.std.proofs.Common.{◌≡◌, ℕ, pos, true, map, refl, [], ◌∷◌}
use Rattle.std.specs.Prelude.{codes}
use Rattle.std.specs.Str.{is_utf8, chars}
use lib.Utf8.{encode}
use Rattle.std.proofs.lemmas.List.Elements.{All-nil, All-cons}
use Rattle.sqlite_value.specs.declared.value.Value.TheVariants.{Text}
use Rattle.sqlite.specs.Effect.{Database}
use Rattle.lab_forms_texts.specs.Names.{is_lab_code, is_name}
use Rattle.lab_store_tables.specs.Rows.{Tables}
use Rattle.lab_store_tables.specs.Family.{Name, Desk, id_of, rows, row_by}
use Rattle.lab_store_tables.proofs.FamilyWords.{trees_by}
use Rattle.lab_store_tables.proofs.KnownFile.{lab}
use Rattle.lab_store_tables.proofs.Tests.{are_rising, keyed_from_test}
use Rattle.lab_move_tables.specs.declared.older.Older.TheVariants.{Two}
use Rattle.lab_move_tables.specs.Answering.{TakesAll}
use Rattle.lab_move_tables.specs.OldSheets.{before}
use Rattle.lab_move_tables.specs.OldSchema.{old_schema}
use Rattle.lab_move_tables.specs.OldRows.{old_tables, IsOldFile}
use Rattle.lab_move_tables.proofs.KnownOldFile.{lifted}
use Rattle.lab_move_tables.proofs.OldTaken.{exact_takes}
use Rattle.lab_move_read.proofs.ReadableLabs.{IsReadable}
use Rattle.lab_move_read.specs.Readable.{HasLabCode, HasWhole}

abbrev small : Tables
small = record lifted {
  labs = lab (pos 7) (codes "aqua") (codes "Aqua Lab") 1600 0 0 0 0 ∷ [];
  persons = [];
  sessions = [];
  forms = [];
  fields = [];
  choices = [];
  records = [];
  versions = [];
  entries = [];
  signatures = [];
  trail = [];
}

abbrev file : Database
file = record { schema = old_schema; trees = trees_by before small }

ids_rise : (k : Name) → are_rising (id_of k) (rows k small) ≡ true
ids_rise Desk = refl
ids_rise _ = refl

file_rows : (k : Name) → file.trees (before k).sheet.tree ≡ map (row_by before k) (rows k (old_tables Two file.trees))
file_rows Desk = refl
file_rows _ = refl

is_old : IsOldFile Two file
is_old = record {
  schema = refl;
  stored = record { at = file_rows };
  rising = record { at = λ k. keyed_from_test (id_of k) (rows k small) (ids_rise k) };
  rules = record { ids = refl; keys = refl; arrows = refl };
}

takes : TakesAll Two file
takes = exact_takes Two file is_old

pub known_readable : IsReadable Two file small
unfolding is_lab_code is_name is_utf8 chars encode
known_readable = record {
  listed = record { taken = takes.labs; rows = All-cons HasLabCode (Text (codes "aqua") ∷ []) [] (record { code = refl }) (All-nil HasLabCode) };
  labs = All-cons (λ code. HasWhole Two code file small) (codes "aqua") [] (record {
    head = record { taken = takes.lab (codes "aqua"); rows = record { id = refl; code = refl; name = refl; last = refl; strays = refl; records = refl; sessions = refl; trail = refl } };
    parts = record {
      people = record {
        persons = record { taken = takes.persons (pos 7); rows = All-nil _; askers = All-nil _ };
        sessions = record { taken = takes.sessions (pos 7); rows = record { own = All-nil _; numbers = All-nil _; labs = All-nil _ } };
      };
      work = record {
        forms = record { taken = takes.forms (pos 7); rows = All-nil _; parts = All-nil _ };
        records = record { taken = takes.records (pos 7); rows = record { own = All-nil _; numbers = All-nil _ }; parts = All-nil _ };
      };
      trail = record { taken = takes.trail (pos 7); rows = record { own = All-nil _; numbers = All-nil _ }; doers = All-nil _ };
    };
  }) (All-nil (λ code. HasWhole Two code file small));
}
