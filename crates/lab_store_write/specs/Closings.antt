-- Which of a person's sessions a change of the account closes, by their rows.
use Rattle.std.specs.Prelude.{◌≡◌, ℤ, ℕ, Bool, true, false, not, ◌&&◌, ◌==◌, List, [], ◌∷◌, map, filter, Some}
use Rattle.std.specs.Ordering.{int_eq}
use Rattle.sqlite_value.specs.declared.value.Value.TheVariants.{Int}
use Rattle.sqlite_value.specs.Order.{Row}
use Rattle.sqlite_keyed.specs.Lists.{update_where}
use Rattle.lab_people_access.specs.declared.sessions.Closing.{Closing}
use Rattle.lab_people_access.specs.declared.sessions.Closing.TheVariants.{Nothing, All, Others}
use Rattle.lab_store_tables.specs.Rows.{SessionRow, Tables}
use Rattle.lab_store_tables.specs.Changes.{person_named}
use Rattle.lab_store_write.specs.Ids.{id_read}

abbrev pub is_meant : Closing → SessionRow → Bool
is_meant Nothing one = false
is_meant All one = true
is_meant (Others kept) one = not (one.number == kept)

abbrev pub closed_row : SessionRow → SessionRow
closed_row one = record one { closed = true }

-- the session with the id is closed
abbrev pub close_one : ℤ → Tables → Tables
close_one id t = record t {
  sessions = update_where (λ (one : SessionRow). int_eq one.id id) closed_row t.sessions;
}

abbrev pub ClosesRow : Row → Tables → Tables → Type 0
ClosesRow row old new = new ≡ close_one (id_read row) old

-- those sessions of a person are closed, whoever's laboratory has them
abbrev pub close_of : ℤ → Closing → Tables → Tables
close_of person closing t = record t {
  sessions = update_where (λ (one : SessionRow). int_eq one.person person && is_meant closing one)
      closed_row t.sessions;
}

-- the sessions that are open yet
abbrev pub is_open_of : ℤ → Closing → SessionRow → Bool
is_open_of person closing one =
    int_eq one.person person && (not one.closed && is_meant closing one)

abbrev pub opened_shown : ℤ → Closing → Tables → List Row
opened_shown person closing t =
    map (λ (one : SessionRow). Int one.id ∷ []) (filter (is_open_of person closing) t.sessions)

-- those of the person of the code
pub record ClosesOf (lab : ℤ) (code : List ℕ) (closing : Closing) (old new : Tables) : Type 0 where
  pub person : ℤ
  pub named : person_named old lab code ≡ Some person
  pub made : new ≡ close_of person closing old
