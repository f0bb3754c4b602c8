-- The rows of the twelve tables, a record for each table with a member for each column. Ids are
-- integers, as SQL has them; numbers that are never below zero are natural numbers; a column that
-- may be NULL is an option.
use Rattle.std.specs.Prelude.{ℕ, ℤ, Bool, List, Option}

-- which schema the file has; the table has one row
pub record DeskRow : Type 0 where
  pub id : ℤ
  pub number : ℕ

-- a laboratory, with its last moment, its stray passwords, and how many numbers of records, of
-- sessions and of rows of the trail it gave so far
pub record LabRow : Type 0 where
  pub id : ℤ
  pub code : List ℕ
  pub name : List ℕ
  pub last : ℕ
  pub stray : ℕ
  pub records : ℕ
  pub sessions : ℕ
  pub trail : ℕ

-- what is kept of a password: 0 none, 1 chosen, with one verifier, 2 a one-time word, with two
pub record PasswordColumns : Type 0 where
  pub kind : ℕ
  pub salt : Option (List ℕ)
  pub rounds : Option ℕ
  pub bytes : Option (List ℕ)
  pub salt2 : Option (List ℕ)
  pub rounds2 : Option ℕ
  pub bytes2 : Option (List ℕ)
  pub changed : Option ℕ

-- what an administrator asked for: whose row that is, when, and a verifier; or nothing
pub record AskColumns : Type 0 where
  pub asker : Option ℤ
  pub asked : Option ℕ
  pub salt : Option (List ℕ)
  pub rounds : Option ℕ
  pub bytes : Option (List ℕ)

pub record PersonRow : Type 0 where
  pub id : ℤ
  pub lab : ℤ
  pub code : List ℕ
  pub name : List ℕ
  pub roles : ℕ
  pub retired : Bool
  pub failures : ℕ
  pub locked : Option ℕ
  pub password : PasswordColumns
  pub ask : AskColumns

pub record SessionRow : Type 0 where
  pub id : ℤ
  pub lab : ℤ
  pub person : ℤ
  pub number : ℕ
  pub token : List ℕ
  pub opened : ℕ
  pub last : ℕ
  pub closed : Bool
  pub signed : Bool

-- a version of a form
pub record FormRow : Type 0 where
  pub id : ℤ
  pub lab : ℤ
  pub code : List ℕ
  pub version : ℕ
  pub approval : Bool

-- what a field takes: the word of its kind, and of the others those that this kind has
pub record KindColumns : Type 0 where
  pub word : List ℕ
  pub unit : Option (List ℕ)
  pub decimals : Option ℕ
  pub low : Option (List ℕ)
  pub high : Option (List ℕ)
  pub size : Option ℕ

pub record FieldRow : Type 0 where
  pub id : ℤ
  pub form : ℤ
  pub place : ℕ
  pub key : List ℕ
  pub label : List ℕ
  pub required : Bool
  pub kind : KindColumns

pub record ChoiceRow : Type 0 where
  pub id : ℤ
  pub field : ℤ
  pub place : ℕ
  pub name : List ℕ

pub record RecordRow : Type 0 where
  pub id : ℤ
  pub lab : ℤ
  pub number : ℕ
  pub form : ℤ
  pub form_code : List ℕ
  pub sample : List ℕ
  pub current : ℕ

-- a version of a record; `kept` is the record's id, in the column `record`, which is a word of this
-- language
pub record VersionRow : Type 0 where
  pub id : ℤ
  pub kept : ℤ
  pub number : ℕ
  pub format : ℕ
  pub opener : ℤ
  pub opened : ℕ
  pub reason : Option (List ℕ)

pub record EntryRow : Type 0 where
  pub id : ℤ
  pub version : ℤ
  pub place : ℕ
  pub key : List ℕ
  pub value : List ℕ
  pub unit : List ℕ
  pub person : ℤ
  pub moment : ℕ
  pub reason : Option (List ℕ)

pub record SignatureRow : Type 0 where
  pub id : ℤ
  pub version : ℤ
  pub place : ℕ
  pub person : ℤ
  pub name : List ℕ
  pub meaning : List ℕ
  pub moment : ℕ
  pub reason : Option (List ℕ)
  pub digest : List ℕ
  pub seal : List ℕ

pub record TrailRow : Type 0 where
  pub id : ℤ
  pub lab : ℤ
  pub number : ℕ
  pub moment : ℕ
  pub person : Option ℤ
  pub action : List ℕ
  pub subject : List ℕ

-- all twelve
pub record Tables : Type 0 where
  pub desk : List DeskRow
  pub labs : List LabRow
  pub persons : List PersonRow
  pub sessions : List SessionRow
  pub forms : List FormRow
  pub fields : List FieldRow
  pub choices : List ChoiceRow
  pub records : List RecordRow
  pub versions : List VersionRow
  pub entries : List EntryRow
  pub signatures : List SignatureRow
  pub trail : List TrailRow
