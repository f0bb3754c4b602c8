-- Who is meant: of equal members, it is equal.
use Rattle.std.proofs.Common.{◌≡◌}
use Rattle.lab_store_load.specs.declared.people.Callers.{Callers}
use Rattle.lab_store_load.specs.declared.people.People.{People}

pub same_callers : (one other : Callers) → one.session ≡ other.session → one.caller ≡ other.caller → one ≡ other
same_callers one other session caller = λ i. record other { session = session i; caller = caller i }

pub same_people : (one other : People) → one.session ≡ other.session → one.caller ≡ other.caller → one.person ≡ other.person → one ≡ other
same_people one other session caller person = λ i. record other { session = session i; caller = caller i; person = person i }
