-- Values of the definitions in `specs/`, computed: of the command line by the definitions of
-- `clap`.
use Rattle.std.proofs.Common.{◌≡◌, ℕ, List, [], ◌∷◌, refl, codes, lit<}
use Rattle.clap.proofs.OnLiterals.{clap_on_literals}
use Rattle.lab_program_words.specs.Tasks.{AsksTask, IsDecimalOf, founds, serves, copies, migrates, checks, replays, rehearses}

-- Numbers in decimal digits.

a_hundred : IsDecimalOf 100 (codes "100")
a_hundred = ((lit< tt, (lit< tt, (lit< tt, (lit< tt, tt)))), refl)

eight_thousand_and_eighty : IsDecimalOf 8080 (codes "08080")
eight_thousand_and_eighty = ((lit< tt, (lit< tt, (lit< tt, (lit< tt, (lit< tt, (lit< tt, tt)))))), refl)

a_million : IsDecimalOf 1000000 (codes "1000000")
a_million = ((lit< tt, (lit< tt, (lit< tt, (lit< tt, (lit< tt, (lit< tt, (lit< tt, (lit< tt, tt)))))))), refl)

seven : IsDecimalOf 7 (codes "7")
seven = ((lit< tt, (lit< tt, tt)), refl)

-- The command line: what `clap` finds in the words after the program's name, which may be any.

module _ (program : List ℕ) where
  a_founding_is_asked_for : AsksTask (founds (codes "labs.db") (codes "aqua"))
      (program ∷ codes "found" ∷ codes "--file" ∷ codes "labs.db" ∷ codes "--lab" ∷ codes "aqua" ∷ [])
  unfolding clap_on_literals
  a_founding_is_asked_for = record { unfaulted = refl; rows = _; entered = refl; given = (refl, refl) }

  -- of connections, a million where nothing is said of them
  a_server_is_asked_for : AsksTask (serves (codes "labs.db") 8080 1000000)
      (program ∷ codes "serve" ∷ codes "--port=08080" ∷ codes "--file=labs.db" ∷ [])
  unfolding clap_on_literals
  a_server_is_asked_for = record {
    unfaulted = refl;
    rows = _;
    entered = refl;
    given = (refl, (_, refl, eight_thousand_and_eighty), lit< tt, (_, refl, a_million), lit< tt);
  }

  seven_connections_are_asked_for : AsksTask (serves (codes "labs.db") 100 7)
      (program ∷ codes "serve" ∷ codes "--file=labs.db" ∷ codes "--port=100" ∷ codes "--count" ∷ codes "7" ∷ [])
  unfolding clap_on_literals
  seven_connections_are_asked_for = record {
    unfaulted = refl;
    rows = _;
    entered = refl;
    given = (refl, (_, refl, a_hundred), lit< tt, (_, refl, seven), lit< tt);
  }

  a_copy_is_asked_for : AsksTask (copies (codes "labs.db") (codes "aqua") 7 100)
      (program ∷ codes "copy" ∷ codes "--file=labs.db" ∷ codes "--lab=aqua" ∷ codes "--from=7" ∷ codes "--to=100" ∷ [])
  unfolding clap_on_literals
  a_copy_is_asked_for = record {
    unfaulted = refl;
    rows = _;
    entered = refl;
    given = (refl, refl, (_, refl, seven), refl, (_, refl, a_hundred), refl);
  }

  a_move_is_asked_for : AsksTask (migrates (codes "labs.db") (codes "new.db"))
      (program ∷ codes "migrate" ∷ codes "--new" ∷ codes "new.db" ∷ codes "--old=labs.db" ∷ [])
  unfolding clap_on_literals
  a_move_is_asked_for = record { unfaulted = refl; rows = _; entered = refl; given = (refl, refl) }

  a_check_is_asked_for : AsksTask checks (program ∷ codes "check" ∷ [])
  unfolding clap_on_literals
  a_check_is_asked_for = record { unfaulted = refl; rows = _; entered = refl; given = tt }

  a_replay_is_asked_for : AsksTask replays (program ∷ codes "replay" ∷ [])
  unfolding clap_on_literals
  a_replay_is_asked_for = record { unfaulted = refl; rows = _; entered = refl; given = tt }

  a_rehearsal_is_asked_for : AsksTask (rehearses (codes "aqua") 100)
      (program ∷ codes "rehearse" ∷ codes "--lab" ∷ codes "aqua" ∷ codes "--moment" ∷ codes "100" ∷ [])
  unfolding clap_on_literals
  a_rehearsal_is_asked_for = record {
    unfaulted = refl;
    rows = _;
    entered = refl;
    given = (refl, (_, refl, a_hundred), refl);
  }
