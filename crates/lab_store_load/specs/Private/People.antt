-- What clauses of private functions say beside People.antt.
use Rattle.std.specs.Prelude.{ℕ, List, Option, option_and_then}
use Rattle.lab_records_kept.specs.declared.labs.Lab.{Lab}
use Rattle.lab_records_kept.specs.Lookups.{session_at, caller_of}
use Rattle.lab_store_load.specs.declared.people.Callers.{Callers}

-- the session of a token, and whose it is
abbrev pub callers_by : Lab → Option (List ℕ) → Callers
callers_by lab token = record {
  session = option_and_then (session_at lab) token;
  caller = caller_of lab (option_and_then (session_at lab) token);
}
