-- Loops over rows, by which codes are kept beside what was made so far.
use Rattle.std.proofs.Common.{◌≡◌, List, [], ◌∷◌, ◌++◌, map, Ok, ap}
use Rattle.sqlite.specs.State.{State}
use Rattle.lab_store_tables.specs.Rows.{Tables}
use Rattle.lab_store_tables.specs.Ready.{tables_of}
use Rattle.lab_store_read.specs.Reads.{MayRead}
use Rattle.lab_store_read.specs.declared.known.KnownCode.{KnownCode}
use Rattle.lab_store_read.specs.Known.{AreKnown}
use Rattle.lab_store_read.proofs.Loops.{HasPut, one_more}
use Rattle.lab_store_read.proofs.Readers.{none_read, may_and, may_both}
use Rattle.lab_store_read.proofs.KnownCodes.{known_none}

-- each code that is kept is right; and what was made, and what the rows are that are left, is all
pub record HasPutOnce {A B : Type 0} (by : Tables → A → B) (begun : List B) (rows : List A) (known : List KnownCode) (made : List B) (left : List A)
    (old now : State) : Type 0 where
  pub reads : MayRead {T = Unit {0}} {E = ⊥} (λ t _. AreKnown t known × (made ++ map (by t) left ≡ begun ++ map (by t) rows)) old now (Ok tt)

pub none_put_once : {A B : Type 0} (by : Tables → A → B) (begun : List B) (rows left : List A) (known : List KnownCode) (s : State) → left ≡ rows → known ≡ []
    → HasPutOnce by begun rows known begun left s s
none_put_once by begun rows left known s same none =
    let here = by (tables_of s) in
    let it : AreKnown (tables_of s) known × (begun ++ map here left ≡ begun ++ map here rows) =
    (known_none (tables_of s) known none, ap (λ it. begun ++ map here it) same) in
    record { reads = none_read it }

module _ {A B : Type 0} {by : Tables → A → B} {begun : List B} {rows : List A} {known : List KnownCode} {made : List B} {left : List A} {old mid : State}
    (so : HasPutOnce by begun rows known made left old mid) where
  pub put_so : HasPut by begun rows made left old mid
  put_so = record { reads = may_and so.reads (λ was. was.1) }

  pub one_put_once : {F : Type 0} {after : List KnownCode} {more : List B} {one : A} {rest : List A} {new : State} → left ≡ one ∷ rest
      → MayRead {T = Unit {0}} {E = F} (λ t _. AreKnown t known → (more ≡ made ++ by t one ∷ []) × AreKnown t after) mid new (Ok tt)
      → HasPutOnce by begun rows after more rest old new
  one_put_once {F} {after} {more} {one} {rest} {new} steps next = record {
    reads = may_both so.reads next (λ was is.
        let it = is was.0 in
        (it.1, one_more (by (tables_of old)) made more _ one left rest steps was.1 it.0));
  }
