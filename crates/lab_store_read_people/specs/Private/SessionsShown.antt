-- What clauses of private functions say beside SessionsShown.antt.
use Rattle.sqlite_value.specs.Order.{Row, column, bytes}
use Rattle.lab_people_access.specs.declared.sessions.Session.{Session}
use Rattle.lab_store_tables.specs.Rows.{number, number_in, flag_in}

abbrev pub session_read : Row → Session
session_read row = record {
  number = number_in (column row 0);
  person = bytes (column row 1);
  token = bytes (column row 2);
  opened = number_in (column row 3);
  last = number_in (column row 4);
  closed = flag_in (column row 5);
  signed = flag_in (column row 6);
}
