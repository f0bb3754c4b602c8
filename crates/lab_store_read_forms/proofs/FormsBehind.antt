-- Records of a list, each by the form of the one before where that is its own; and the loop over them.
use Rattle.std.proofs.Common.{◌≡◌, ℕ, ℤ, List, [], ◌∷◌, ◌++◌, map, Option, Some, None, Ok, refl, sym, ap, ap₂, subst, ◌∙◌}
use Rattle.std.specs.Prelude.{IfSome}
use Rattle.sqlite.specs.State.{State}
use Rattle.lab_records_kept.specs.declared.records.FormVersion.{FormVersion}
use Rattle.lab_records_kept.specs.declared.records.Record.{Record}
use Rattle.lab_store_tables.specs.Rows.{Tables}
use Rattle.lab_store_tables.specs.Meaning.{form_at, leaves_of}
use Rattle.lab_store_tables.specs.Ready.{tables_of}
use Rattle.lab_store_read.specs.Reads.{MayRead}
use Rattle.lab_store_read.proofs.Readers.{none_read, may_and, may_both}
use Rattle.lab_store_read.proofs.Loops.{HasPut, one_more}
use Rattle.lab_store_read_records.specs.declared.heads.RecordHead.{RecordHead}
use Rattle.lab_store_read_forms.specs.declared.heads.FormAt.{FormAt}
use Rattle.lab_store_read_forms.specs.Private.FormsBehind.{form_with_id, IsAtItsId, IsFiledBehind}
use Rattle.lab_store_read_forms.specs.Wholes.{record_by, record_with}

-- ---- a version of a form with its id

abbrev pub form_with : ℤ → FormVersion → FormAt
form_with id form = record { id = id; form = form }

-- the one before is the one with the id
pub same_form : (t : Tables) (id : ℤ) (before : FormAt) → before.id ≡ id → IsAtItsId t before → before ≡ form_with_id t id
same_form t id before same right = ap₂ form_with same (right ∙ ap (form_at t) same)

right_form : (t : Tables) (id : ℤ) (found : FormAt) → found ≡ form_with_id t id → IsAtItsId t found
right_form t id found is = subst (IsAtItsId t) (sym is) refl

-- the record by a copy of what was found stands behind the others
pub filed_behind : (t : Tables) (lab : List ℕ) (head : RecordHead) (others made : List Record) (found : FormAt) (form : FormVersion)
    → found ≡ form_with_id t head.form → form ≡ found.form → made ≡ others ++ record_with lab head form (leaves_of t head.id) ∷ [] → IsFiledBehind t lab head others made found
filed_behind t lab head others made found form is copied put =
    let own : form ≡ form_at t head.form = copied ∙ ap (λ (one : FormAt). one.form) is in
    record {
      made = put ∙ ap (λ (one : FormVersion). others ++ record_with lab head one (leaves_of t head.id) ∷ []) own;
      form = right_form t head.form found is;
    }

-- ---- the loop

-- the records that were made, and those of the rows that are left, are all, and the form is right for the next one
pub record HasFiled (lab : List ℕ) (begun : List Record) (rows : List RecordHead) (made : List Record) (left : List RecordHead) (before : Option FormAt)
    (old now : State) : Type 0 where
  pub reads : MayRead {T = Unit {0}} {E = ⊥}
      (λ t _. (made ++ map (record_by t lab) left ≡ begun ++ map (record_by t lab) rows) × IfSome before (IsAtItsId t)) old now (Ok tt)

pub none_filed : (lab : List ℕ) (begun : List Record) (rows left : List RecordHead) (s : State) → left ≡ rows → HasFiled lab begun rows begun left None s s
none_filed lab begun rows left s same = record { reads = none_read (ap (λ it. begun ++ map (record_by (tables_of s) lab) it) same, tt) }

module _ {lab : List ℕ} {begun : List Record} {rows : List RecordHead} {made : List Record} {left : List RecordHead} {before : Option FormAt} {old mid : State}
    (so : HasFiled lab begun rows made left before old mid) where
  pub one_filed : {F : Type 0} {more : List Record} {one : RecordHead} {rest : List RecordHead} {found : FormAt} {new : State} → left ≡ one ∷ rest
      → MayRead {T = FormAt} {E = F} (λ t it. IfSome before (IsAtItsId t) → IsFiledBehind t lab one made more it) mid new (Ok found)
      → HasFiled lab begun rows more rest (Some found) old new
  one_filed {F} {more} {one} {rest} {found} {new} steps next = record {
    reads = may_both so.reads next (λ was is.
        let filed = is was.1 in
        (one_more (record_by (tables_of old) lab) made more _ one left rest steps was.0 filed.made, filed.form));
  }

  -- without the form
  pub put_of : HasPut (λ t. record_by t lab) begun rows made left old mid
  put_of = record { reads = may_and so.reads (λ was. was.0) }
