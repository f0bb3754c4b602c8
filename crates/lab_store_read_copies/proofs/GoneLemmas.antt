-- Versions of a record that went out one after the other, each behind the digest of the one before
-- it, as the record's chain has them.
use Rattle.std.proofs.Common.{◌≡◌, ℕ, List, [], ◌∷◌, ◌++◌, map, Option, Some, None, refl, sym, ap, subst, ◌∙◌, append_assoc, append-nil}
use Rattle.std.specs.Io.KnownBytes.{Appends}
use Rattle.std.proofs.KnownBytes.{Appends-nil, Appends-trans}
use Rattle.lab_records_kept.specs.declared.records.Record.{Record}
use Rattle.lab_records_kept.specs.declared.records.Version.{Version}
use Rattle.lab_records_kept.specs.Digests.{digest_of}
use Rattle.lab_copy_rows.specs.Csv.{csv_text}
use Rattle.lab_copy_rows.specs.declared.outs.CopyOut.{CopyOut}
use Rattle.lab_copy_rows.specs.Outs.{AppendsFront}
use Rattle.lab_copy_rows.proofs.SendLemmas.{first_went, front_went, second_went}
use Rattle.lab_store_tables.specs.Rows.{Tables}
use Rattle.lab_store_tables.specs.Meaning.{Leaf, chained, version_after}
use Rattle.lab_store_read_records.specs.declared.heads.VersionHead.{VersionHead}
use Rattle.lab_store_read_records.specs.Leaves.{leaf_by}
use Rattle.lab_records_copy_out.proofs.OutLemmas.{given_on, given_rows}
use Rattle.lab_store_read_copies.specs.GivenRows.{rows_of_version}
use Rattle.lab_store_read_copies.specs.Private.GivenRows.{rows_of_versions}
use Rattle.lab_store_read_copies.proofs.RowLemmas.{version_alone, versions_both, versions_first, text_of_both}

-- of all versions those before the rest went out and were counted; the next is behind this digest
pub record HasGone (lab : List ℕ) (cover : Record) (before : Option (List ℕ))
    (rest all : List Leaf) (old now : Option (List ℕ)) (start out : CopyOut) : Type 0 where
  pub made : List Version
  pub parts : chained lab cover None all ≡ made ++ chained lab cover before rest
  pub went : Appends old now (csv_text (rows_of_versions lab cover made))
  pub counts : out ≡ given_rows start (rows_of_versions lab cover made)

pub none_gone : (lab : List ℕ) (cover : Record) (rest all : List Leaf) (old : Option (List ℕ))
    (start : CopyOut) → rest ≡ all → HasGone lab cover None rest all old old start start
none_gone lab cover rest all old start same = record {
  made = [];
  parts = ap (chained lab cover None) (sym same);
  went = Appends-nil old;
  counts = refl;
}

module _ (lab : List ℕ) (cover : Record) (before : Option (List ℕ)) (leaf : Leaf)
    (rest all : List Leaf) (old between new : Option (List ℕ)) (start mid out : CopyOut)
    (so : HasGone lab cover before (leaf ∷ rest) all old between start mid) where
  abbrev this : Version
  this = version_after cover before leaf

  abbrev later : List Version
  later = chained lab cover (Some (digest_of lab cover this)) rest

  one_more : rows_of_versions lab cover (so.made ++ this ∷ [])
      ≡ rows_of_versions lab cover so.made ++ rows_of_version lab cover this
  one_more =
      versions_both lab cover so.made (this ∷ [])
      ∙ ap (λ (rows : List (List (List ℕ))). rows_of_versions lab cover so.made ++ rows)
      (version_alone lab cover this)

  pub gone_more : Appends between new (csv_text (rows_of_version lab cover this)) →
      out ≡ given_rows mid (rows_of_version lab cover this) →
      HasGone lab cover (Some (digest_of lab cover this)) rest all old new start out
  gone_more here gave = record {
    made = so.made ++ this ∷ [];
    parts = so.parts ∙ sym (append_assoc so.made (this ∷ []) later);
    went = subst (Appends old new)
        (sym (ap csv_text one_more
        ∙ text_of_both (rows_of_versions lab cover so.made) (rows_of_version lab cover this)))
        (Appends-trans old between new (csv_text (rows_of_versions lab cover so.made))
        (csv_text (rows_of_version lab cover this)) so.went here);
    counts = given_on start mid out (rows_of_versions lab cover so.made)
        (rows_of_version lab cover this)
        so.counts gave
        ∙ ap (given_rows start) (sym one_more);
  }

  whole_text : csv_text (rows_of_versions lab cover (chained lab cover None all))
      ≡ csv_text (rows_of_versions lab cover so.made)
      ++ (csv_text (rows_of_version lab cover this) ++ csv_text (rows_of_versions lab cover later))
  whole_text =
      ap csv_text (ap (rows_of_versions lab cover) so.parts
      ∙ versions_both lab cover so.made (this ∷ later)
      ∙ ap (λ (rows : List (List (List ℕ))). rows_of_versions lab cover so.made ++ rows)
      (versions_first lab cover this later))
      ∙ text_of_both (rows_of_versions lab cover so.made)
      (rows_of_version lab cover this ++ rows_of_versions lab cover later)
      ∙ ap (λ (text : List ℕ). csv_text (rows_of_versions lab cover so.made) ++ text)
      (text_of_both (rows_of_version lab cover this) (rows_of_versions lab cover later))

  pub gone_cut : AppendsFront between new (csv_text (rows_of_version lab cover this)) →
      AppendsFront old new (csv_text (rows_of_versions lab cover (chained lab cover None all)))
  gone_cut cut =
      subst (AppendsFront old new) (sym whole_text)
      (second_went old between new (csv_text (rows_of_versions lab cover so.made))
      (csv_text (rows_of_version lab cover this)
      ++ csv_text (rows_of_versions lab cover later)) so.went
      (front_went between new (csv_text (rows_of_version lab cover this))
      (csv_text (rows_of_versions lab cover later)) cut))

-- ---- so far

pub gone_front : (lab : List ℕ) (cover : Record) (before : Option (List ℕ)) (rest all : List Leaf)
    (old now : Option (List ℕ)) (start out : CopyOut) →
    HasGone lab cover before rest all old now start out →
    AppendsFront old now (csv_text (rows_of_versions lab cover (chained lab cover None all)))
gone_front lab cover before rest all old now start out so =
    let later = chained lab cover before rest in
    subst (AppendsFront old now)
    (sym (ap csv_text (ap (rows_of_versions lab cover) so.parts
    ∙ versions_both lab cover so.made later)
    ∙ text_of_both (rows_of_versions lab cover so.made) (rows_of_versions lab cover later)))
    (first_went old now (csv_text (rows_of_versions lab cover so.made))
    (csv_text (rows_of_versions lab cover later)) so.went)

-- ---- at the end

module _ (lab : List ℕ) (cover : Record) (before : Option (List ℕ)) (rest all : List Leaf)
    (old now : Option (List ℕ)) (start out : CopyOut) (none : rest ≡ [])
    (so : HasGone lab cover before rest all old now start out) where
  all_made : so.made ≡ chained lab cover None all
  all_made =
      sym (so.parts ∙ ap (λ (leaves : List Leaf). so.made ++ chained lab cover before leaves) none
      ∙ append-nil so.made)

  pub all_gone : Appends old now
      (csv_text (rows_of_versions lab cover (chained lab cover None all)))
  all_gone =
      subst (λ (versions : List Version). Appends old now
      (csv_text (rows_of_versions lab cover versions))) all_made so.went

  pub all_given : out ≡ given_rows start (rows_of_versions lab cover (chained lab cover None all))
  all_given =
      subst (λ (versions : List Version).
      out ≡ given_rows start (rows_of_versions lab cover versions))
      all_made so.counts

-- ---- of versions whose rows were read, where nothing has changed since

module _ (lab : List ℕ) (cover : Record) (before : Option (List ℕ)) (head : VersionHead)
    (items rest heads : List VersionHead) (u t : Tables) (same : u ≡ t)
    (steps : items ≡ head ∷ rest) (old between new : Option (List ℕ)) (start mid out : CopyOut)
    (so : HasGone lab cover before (map (leaf_by t) items) (map (leaf_by t) heads) old between
    start mid) where
  next_of : HasGone lab cover before (leaf_by t head ∷ map (leaf_by t) rest)
      (map (leaf_by t) heads) old between start mid
  next_of =
      subst (λ (list : List VersionHead). HasGone lab cover before (map (leaf_by t) list)
      (map (leaf_by t) heads) old between start mid) steps so

  pub version_more : (digest : List ℕ) →
      Appends between new
      (csv_text (rows_of_version lab cover (version_after cover before (leaf_by u head)))) →
      out ≡ given_rows mid
      (rows_of_version lab cover (version_after cover before (leaf_by u head))) →
      digest ≡ digest_of lab cover (version_after cover before (leaf_by u head)) →
      HasGone lab cover (Some digest) (map (leaf_by t) rest) (map (leaf_by t) heads) old new start
      out
  version_more digest here gave is =
      subst (λ (one : List ℕ). HasGone lab cover (Some one) (map (leaf_by t) rest)
      (map (leaf_by t) heads) old new start out)
      (sym (is ∙ ap (λ (v : Tables).
      digest_of lab cover (version_after cover before (leaf_by v head))) same))
      (gone_more lab cover before (leaf_by t head) (map (leaf_by t) rest) (map (leaf_by t) heads)
      old between new start mid out next_of
      (subst (λ (v : Tables). Appends between new
      (csv_text (rows_of_version lab cover (version_after cover before (leaf_by v head)))))
      same here)
      (subst (λ (v : Tables). out ≡ given_rows mid
      (rows_of_version lab cover (version_after cover before (leaf_by v head)))) same gave))

  pub version_cut : AppendsFront between new
      (csv_text (rows_of_version lab cover (version_after cover before (leaf_by u head)))) →
      AppendsFront old new
      (csv_text (rows_of_versions lab cover (chained lab cover None (map (leaf_by t) heads))))
  version_cut cut =
      gone_cut lab cover before (leaf_by t head) (map (leaf_by t) rest) (map (leaf_by t) heads)
      old between new start mid out next_of
      (subst (λ (v : Tables). AppendsFront between new
      (csv_text (rows_of_version lab cover (version_after cover before (leaf_by v head)))))
      same cut)
