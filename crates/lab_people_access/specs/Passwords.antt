-- Passwords: which texts a person's password accepts, and until when (21 CFR 11.300(b),
-- "periodically checked, recalled, or revised", and 11.300(d); the spans of time are this system's
-- own).
use Rattle.std.specs.Prelude.{ℕ, ◌-◌, ◌*◌, Bool, true, false, ◌&&◌, ◌||◌, ◌==◌, nat_lt, nat_le, List, length, take, drop}
use Rattle.lab_forms_texts.specs.Calendar.{day_of}
use Rattle.lab_seal_hashes.specs.declared.verifiers.VerifierParts.{VerifierParts}
use Rattle.lab_seal_hashes.specs.Verifiers.{verifier_of, is_verified}
use Rattle.lab_people_access.specs.declared.passwords.Password.{Password}
use Rattle.lab_people_access.specs.declared.passwords.Password.TheVariants.{Unset, Chosen, OneTime}
use Rattle.lab_people_access.specs.declared.passwords.TheConstants.{PASSWORD_LEAST, PASSWORD_LIMIT, ROUNDS, OLD_ROUNDS, HALF_LEN, SECONDS_OF_ONE_TIME_WORD, DAYS_OF_PASSWORD}

-- the fewest bytes of a password that may be chosen, and the most
abbrev pub password_least : ℕ
password_least = PASSWORD_LEAST

abbrev pub password_most : ℕ
password_most = PASSWORD_LIMIT

-- a text may be chosen as a password
abbrev pub is_password : List ℕ → Bool
is_password text = nat_le password_least (length text) && nat_le (length text) password_most

-- the rounds by which every new verifier is made, and those by which they were made before
abbrev pub new_rounds : ℕ
new_rounds = ROUNDS

abbrev pub old_rounds : ℕ
old_rounds = OLD_ROUNDS

-- a verifier has so many rounds, whenever it was made
abbrev pub are_rounds : ℕ → Bool
are_rounds rounds = (rounds == new_rounds) || (rounds == old_rounds)

-- a password that is chosen at the moment, with the salt
abbrev pub chosen_password : List ℕ → List ℕ → ℕ → Password
chosen_password text salt moment = Chosen (verifier_of text salt new_rounds) moment

-- the digits of a half of a one-time word
abbrev pub half_len : ℕ
half_len = HALF_LEN

-- a text as long as a one-time word (`one_time_word` of lab_seal_hashes), of which each half has a
-- verifier of its own
abbrev pub are_verified : VerifierParts → VerifierParts → List ℕ → Bool
are_verified first second text =
    (length text == 2 * half_len) && is_verified first (take half_len text)
    && is_verified second (drop half_len text)

-- the seconds for which a one-time word serves after it was confirmed: seven days
abbrev pub word_span : ℕ
word_span = SECONDS_OF_ONE_TIME_WORD

-- a one-time word that was confirmed at a moment serves at another
abbrev pub serves : ℕ → ℕ → Bool
serves confirmed moment = nat_le (moment - confirmed) word_span

-- a password accepts a text; a one-time word does so while it serves
unfoldable pub accepts : Password → List ℕ → ℕ → Bool
accepts Unset text moment = false
accepts (Chosen verifier changed) text moment = is_verified verifier text
accepts (OneTime first second confirmed) text moment =
    serves confirmed moment && are_verified first second text

-- there is a password, chosen or for one time
abbrev pub is_set : Password → Bool
is_set Unset = false
is_set (Chosen verifier changed) = true
is_set (OneTime first second confirmed) = true

-- the days for which a chosen password stands
abbrev pub password_days : ℕ
password_days = DAYS_OF_PASSWORD

-- a password is due to be changed: one that was chosen more than 90 days ago, by days of the
-- calendar; every one-time word; and where there is none
abbrev pub is_due : Password → ℕ → Bool
is_due Unset moment = true
is_due (Chosen verifier changed) moment = nat_lt password_days (day_of moment - day_of changed)
is_due (OneTime first second confirmed) moment = true
