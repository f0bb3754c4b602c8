-- The command line, as `clap` is told of it: `labdesk`, which has a version and wants one of its
-- subcommands, each with its own arguments.
use Rattle.std.specs.Prelude.{ℕ, pos, List, [], ◌∷◌, codes, true, Some}
use Rattle.clap.specs.Words.{App, Rule, new_app, new_rule, with_rule, with_subcommand}
use Rattle.clap.specs.declared.builder.value_parser.ValueParser.TheVariants.{Signed}
use Rattle.lab_forms_texts.specs.Moment.{last_moment}
use Rattle.lab_forms_texts.specs.Ordinals.{last_ordinal}
use Rattle.lab_program_app.specs.declared.commands.TheConstants.{MOST_CONNECTIONS}

-- ---- arguments

-- an argument behind `--` and its name, which has a value
abbrev pub named_rule : List ℕ → Rule
named_rule name = record (new_rule name) { long = Some name; value_names = 1 }

-- one that has to be given
abbrev pub wanted_rule : List ℕ → Rule
wanted_rule name = record (named_rule name) { required = true }

-- a file of laboratories, by its path
abbrev pub file_rule : Rule
file_rule = wanted_rule (codes "file")

-- a laboratory, by its code
abbrev pub lab_rule : Rule
lab_rule = wanted_rule (codes "lab")

-- a moment: the seconds from the first to the last
abbrev pub moment_rule : Rule
moment_rule = record (wanted_rule (codes "moment")) {
  parser = Some (Signed (pos 0) (pos last_moment));
}

-- a port; 0 is any that is free
abbrev pub last_port : ℕ
last_port = 65535

abbrev pub port_rule : Rule
port_rule = record (wanted_rule (codes "port")) { parser = Some (Signed (pos 0) (pos last_port)) }

-- how many connections are served: 1,000,000, where nothing is said of it
abbrev pub most_connections : ℕ
most_connections = MOST_CONNECTIONS

abbrev pub count_rule : Rule
count_rule = record (named_rule (codes "count")) {
  defaults = codes "1000000" ∷ [];
  parser = Some (Signed (pos 1) (pos most_connections));
}

-- the number of a record
abbrev pub number_rule : List ℕ → Rule
number_rule name = record (wanted_rule name) {
  parser = Some (Signed (pos 1) (pos last_ordinal));
}

-- ---- commands

-- with a file, and a laboratory in it
abbrev pub with_file_and_lab : App → App
with_file_and_lab app = with_rule (with_rule app file_rule) lab_rule

-- with a port, and how many connections are served there
abbrev pub with_port_and_count : App → App
with_port_and_count app = with_rule (with_rule app port_rule) count_rule

-- with the first and the last number of records
abbrev pub with_range : App → App
with_range app = with_rule (with_rule app (number_rule (codes "from"))) (number_rule (codes "to"))

-- with an old file and a new one, each by its path
abbrev pub with_old_and_new : App → App
with_old_and_new app =
    with_rule (with_rule app (wanted_rule (codes "old"))) (wanted_rule (codes "new"))

abbrev pub found_app : App
found_app = with_file_and_lab (new_app (codes "found"))

abbrev pub serve_app : App
serve_app = with_port_and_count (with_rule (new_app (codes "serve")) file_rule)

abbrev pub copy_app : App
copy_app = with_range (with_file_and_lab (new_app (codes "copy")))

abbrev pub migrate_app : App
migrate_app = with_old_and_new (new_app (codes "migrate"))

abbrev pub check_app : App
check_app = new_app (codes "check")

abbrev pub replay_app : App
replay_app = new_app (codes "replay")

abbrev pub rehearse_app : App
rehearse_app = with_rule (with_rule (new_app (codes "rehearse")) lab_rule) moment_rule

-- that has a version, and wants a subcommand
abbrev pub told_app : App → App
told_app app = record app {
  top = record app.top { has_version = true; subcommand_required = true };
}

-- `labdesk` by itself
abbrev pub bare_app : App
bare_app = told_app (new_app (codes "labdesk"))

-- with the subcommands of a file
abbrev pub with_files : App → App
with_files app = with_subcommand (with_subcommand (with_subcommand (with_subcommand app
    found_app.top) serve_app.top) copy_app.top) migrate_app.top

-- with those of no file: the two that have no arguments
abbrev pub with_plain : App → App
with_plain app = with_subcommand (with_subcommand app check_app.top) replay_app.top

-- and the one that has
abbrev pub with_streams : App → App
with_streams app = with_subcommand (with_plain app) rehearse_app.top

-- with all of them
abbrev pub labdesk_app : App
labdesk_app = with_streams (with_files bare_app)
