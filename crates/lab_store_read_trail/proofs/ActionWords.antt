-- A word that no action has.
use Rattle.std.proofs.Common.{◌≡◌, ◌≢◌, ℕ, Bool, true, false, List, codes, refl, sym, subst, bytes_eq, IsFalse}
use Rattle.std.proofs.lemmas.Slice.Eq.{bytes_eq-Decides}
use Rattle.lab_records_kept.specs.declared.trails.Action.{Action}
use Rattle.lab_records_kept.specs.declared.trails.Action.TheVariants.{Found}
use Rattle.lab_records_kept.specs.Trails.{action_word}
use Rattle.lab_store_tables.specs.Columns.{action_in}
use Rattle.lab_store_read_trail.specs.Readable.{is_action}

differs : (same : Bool) (one other : List ℕ) → (same ≡ true → one ≡ other) → other ≢ one → same ≡ false
differs true one other is differ = absurd (differ (sym (is refl)))
differs false one other is differ = refl

is_other : (one other : List ℕ) → other ≢ one → bytes_eq one other ≡ false
is_other one other differ = differs (bytes_eq one other) one other (bytes_eq-Decides one other).0 differ

pub no_action : (word : List ℕ) → word ≢ codes "found" → word ≢ codes "open" → word ≢ codes "close" → word ≢ codes "refuse" → word ≢ codes "lock" → word ≢
    codes "password" → word ≢ codes "enrol" → word ≢ codes "issue" → word ≢ codes "confirm" → word ≢ codes "roles" → word ≢ codes "retire" → word ≢ codes
    "unlock" → word ≢ codes "form" → word ≢ codes "record" → word ≢ codes "entry" → word ≢ codes "amend" → word ≢ codes "sign" → IsFalse (is_action word)
no_action word n_found n_open n_close n_refuse n_lock n_password n_enrol n_issue n_confirm n_roles n_retire n_unlock n_form n_record n_entry n_amend n_sign =
    let first = is_other (codes "found") word n_found in
    let is : action_in word ≡ Found = rw (
      first,
      is_other (codes "open") word n_open,
      is_other (codes "close") word n_close,
      is_other (codes "refuse") word
          n_refuse,
      is_other (codes "lock") word n_lock,
      is_other (codes "password") word n_password,
      is_other (codes "enrol") word n_enrol,
      is_other (codes
          "issue") word n_issue,
      is_other (codes "confirm") word n_confirm,
      is_other (codes "roles") word n_roles,
      is_other (codes "retire") word n_retire,
      is_other (codes "unlock") word n_unlock,
      is_other (codes "form") word n_form,
      is_other (codes "record") word n_record,
      is_other (codes "entry") word
          n_entry,
      is_other (codes "amend") word n_amend,
      is_other (codes "sign") word n_sign,
    ) refl in
    subst (λ (one : Action). IsFalse (bytes_eq (action_word one) word)) (sym is) first
