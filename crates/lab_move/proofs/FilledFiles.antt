-- What a new file has, laboratory by laboratory, and once it is finished.
use Rattle.std.proofs.Common.{◌≡◌, ◌≢◌, ℕ, Bool, true, false, List, [], ◌∷◌, ◌++◌, Option, Some, None, Ok, refl, sym, ap, subst, ◌∙◌, bytes_eq}
use Rattle.sqlite.specs.Effect.{Database}
use Rattle.sqlite.specs.State.{State, HasCleanDisk}
use Rattle.lab_records_kept.specs.declared.labs.Lab.{Lab}
use Rattle.lab_records_keeper.specs.Worlds.{Meaning, SameMeaning, Places}
use Rattle.lab_records_laws.specs.Stepping.{WhereThere}
use Rattle.lab_store_tables.specs.Rows.{Tables, tables_in}
use Rattle.lab_store_tables.specs.Meaning.{meaning}
use Rattle.lab_move_tables.specs.Reading.{ReadsAs}
use Rattle.lab_move_tables.proofs.OldReaders.{stands_since}
use Rattle.lab_move_write.specs.Unfinished.{Finishes}
use Rattle.lab_move_read.specs.Laboratories.{codes_of, IsLabOf}
use Rattle.lab_move.specs.Moving.{IsSoundLab, AreAll, ReadsOldAs, IsBegun, HasCarried, HasThese, IsWhole, meaning_among}
use Rattle.lab_move.specs.Private.Moving.{IsWholeOf, CarriesFrom}
use Rattle.lab_move.proofs.Codes.{all_among, lab_means, among_more}
use Rattle.lab_store_tables.proofs.Comparing.{text_is, text_alike}

-- ---- facts on every laboratory

all_of : (Holds : Lab → Type 0) (was now : Meaning) → SameMeaning was now → AreAll Holds was → AreAll Holds now
all_of Holds was now same all code = subst (WhereThere Holds) (sym (same code)) (all code)

pub all_weaker : (P Q : Lab → Type 0) (held : Meaning) → ((lab : Lab) → P lab → Q lab) → AreAll P held → AreAll Q held
all_weaker P Q held f all code = go (held code) (all code)
  where
    go : (o : Option Lab) → WhereThere P o → WhereThere Q o
    go None h = tt
    go (Some lab) h = f lab h

none_of : (Holds : Lab → Type 0) (held : Meaning) → ((code : List ℕ) → held code ≡ None) → AreAll Holds held
none_of Holds held none code = subst (WhereThere Holds) (sym (none code)) tt

placed_of : (Holds : Lab → Type 0) (was now : Meaning) (lab : Lab) → Holds lab → Places lab was now → AreAll Holds was → AreAll Holds now
placed_of Holds was now lab is places all other = go (bytes_eq lab.code other) refl
  where
    go : (b : Bool) → bytes_eq lab.code other ≡ b → WhereThere Holds (now other)
    go true e = let same : lab.code ≡ other = text_is lab.code other e in subst (WhereThere Holds) (sym (ap now (sym same) ∙ places.placed.here)) is
    go false e =
        let apart : other ≢ lab.code = λ same. let alike : bytes_eq lab.code other ≡ true = text_alike lab.code other (sym same) in cc in
        subst (WhereThere Holds) (sym (places.placed.others other apart)) (all other)

-- ---- from one moment of the old file to another

-- what was said of a later moment of the old file is said of an earlier one, where nothing changed between, and where it stood in another way too
pub carried_from : {Stands Other : Database → Tables → Type 0} {IsFile : Database → Type 0} {among : Meaning → Meaning} {early before after : State} (db : Database)
    → (HasCleanDisk after → before.now ≡ early.now) → (HasCleanDisk after → (t : Tables) → Other early.now t → Stands early.now t)
    → HasCarried Stands IsFile before after among db → HasCarried Other IsFile early after among db
carried_from {Stands} db same so it =
    record { file = it.file; sound = it.sound; same = λ t read. it.same t (stands_since Stands (same read.1) t (so read.1 t read.0), read.1) }

-- in other words
pub carried_as : {Stands : Database → Tables → Type 0} {IsFile : Database → Type 0} {among other : Meaning → Meaning} {before after : State} (db : Database)
    → ((t : Tables) → ReadsOldAs Stands before after t → SameMeaning (other (meaning t)) (among (meaning t)))
    → HasCarried Stands IsFile before after among db
    → HasCarried Stands IsFile before after other db
carried_as db same it = record { file = it.file; sound = it.sound; same = λ t read code. it.same t read code ∙ same t read code }

-- ---- laboratory by laboratory

pub none_carried : {Stands : Database → Tables → Type 0} (before after : State) (db : Database) → IsBegun db → HasThese Stands before after [] db
none_carried before after db begun = record { file = begun.filling; sound = none_of IsSoundLab (meaning (tables_in db.trees)) begun.empty; same = λ t read code. begun.empty code }

pub one_carried : {Stands : Database → Tables → Type 0} (early before after : State) (done : List (List ℕ)) (code : List ℕ) (was db : Database) → (HasCleanDisk after → HasCleanDisk before)
    → (HasCleanDisk before → before.now ≡ early.now)
    → CarriesFrom Stands before after code was db → HasThese Stands early before done was → HasThese Stands early after (done ++ code ∷ []) db
one_carried {Stands} early before after done code was db clean same it so =
    let lab = it.0 in
    let placed = it.2 so.file in
    record {
      file = placed.0;
      sound = placed_of IsSoundLab (meaning (tables_in was.trees)) (meaning (tables_in db.trees)) lab it.1 placed.1 so.sound;
      same = λ t read.
          let mid = clean read.1 in
          let there : IsLabOf t code (Some lab) = it.3 t (stands_since Stands (same mid) t read.0, read.1) in
          let means = lab_means t code lab there in
          among_more done code (meaning t) (meaning (tables_in was.trees)) (meaning (tables_in db.trees)) lab means.0 means.1 placed.1 (so.same t (read.0, mid));
    }

-- ---- finished

pub finished : {Stands : Database → Tables → Type 0} (before after : State) (codes : List (List ℕ)) (was db : Database) → Finishes was db → HasThese Stands before after codes was
    → IsWholeOf Stands before after codes db
finished before after codes was db it so =
    let whole = it so.file in
    record { file = whole.0; sound = all_of IsSoundLab (meaning (tables_in was.trees)) (meaning (tables_in db.trees)) whole.1 so.sound; same = λ t read code. whole.1 code ∙ so.same t read code }

-- of all codes that were read
pub whole_is : {Stands : Database → Tables → Type 0} {E : Type 0} (early before after : State) (codes : List (List ℕ)) (db : Database)
    → ReadsAs Stands {E = E} (λ t made. made ≡ codes_of t) early before (Ok codes)
    → (HasCleanDisk after → HasCleanDisk before) → IsWholeOf Stands before after codes db → IsWhole Stands early after db
whole_is {Stands} early before after codes db read clean it =
    let was : IsWholeOf Stands early after codes db = carried_from db (λ late. read.shows (clean late)) (λ late t file. file) it in
    carried_as db
    (λ t so code.
    let all : codes ≡ codes_of t = read.answer t so.0 (clean so.1) in
    ap (λ l. meaning_among l (meaning t) code) all ∙ sym (all_among t code))
    was
