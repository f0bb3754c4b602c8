-- Versions that are added in turn to one record stand in it in turn, behind those that it has, and no other record sees one.
use Rattle.std.proofs.Common.{◌≡◌, ℕ, ◌+◌, ℤ, cond, List, [], ◌∷◌, ◌++◌, map, filter, length, refl, sym, ap, subst, ◌∙◌, int_eq}
use Rattle.lab_records_kept.specs.declared.records.Version.{Version}
use Rattle.lab_records_kept.specs.Limits.{AreNumberedAfter}
use Rattle.lab_store_tables.specs.Rows.{VersionRow, Tables, version_id}
use Rattle.lab_store_tables.specs.Meaning.{leaves_of}
use Rattle.lab_store_tables.specs.Changes.{InTurn, AddsVersion, version_row_of}
use Rattle.lab_store_tables.proofs.EntriesInTurn.{nothing_more, one_more}
use Rattle.lab_store_tables.proofs.LabLaws.{alike}
use Rattle.lab_store_tables.proofs.PutRows.{count_mine}
use Rattle.lab_store_tables.proofs.NextLaws.{AreWithin}
use Rattle.lab_store_tables.proofs.VersionMore.{leaf_of}
use Rattle.lab_move_write.proofs.VersionWhole.{kept_of, number_of, AreSteady, leaves_more, rest_is, versions_are, within_more, steady_more}

abbrev pub number_in : Version → ℕ
number_in version = version.origin.number

-- what stands in the record afterwards, and what of the tables has changed
pub record AreOpened (kept : ℤ) (versions : List Version) (t new : Tables) : Type 0 where
  pub rest : new ≡ record t { versions = new.versions; entries = new.entries; signatures = new.signatures }
  pub has : (of : ℤ) → leaves_of new of ≡ cond (int_eq of kept) (leaves_of t of ++ map leaf_of versions) (leaves_of t of)

abbrev Parts : Tables → Tables → Tables
Parts t u = record t { versions = u.versions; entries = u.entries; signatures = u.signatures }

pub opened_in_turn : (lab kept : ℤ) (versions : List Version) (before : ℕ) (t new : Tables) → AreSteady t
    → AreWithin version_id kept_of number_of kept t.versions → length (filter (λ (one : VersionRow). int_eq one.kept kept) t.versions) ≡ before
    → AreNumberedAfter number_in before versions → InTurn (AddsVersion lab kept) versions t new → AreOpened kept versions t new
opened_in_turn lab kept [] before t new steady within count numbered it = record {
  rest = subst (λ u. u ≡ Parts t u) (sym it) refl;
  has = λ of. ap (λ (u : Tables). leaves_of u of) it ∙ nothing_more (int_eq of kept) (leaves_of t of);
}
opened_in_turn lab kept (one ∷ others) before t new steady within count numbered it =
    let next : one.origin.number ≡ length (filter (λ (x : VersionRow). int_eq x.kept kept) t.versions) + 1 = numbered.0 ∙ ap (λ n. n + 1) (sym count) in
    let row = version_row_of kept it.1.id it.1.opener one in
    let grown : length (filter (λ (x : VersionRow). int_eq x.kept kept) it.0.versions) ≡ before + 1 =
    ap (λ list. length (filter (λ (x : VersionRow). int_eq x.kept kept) list)) (versions_are t steady lab kept within one it.0 it.1 next)
    ∙ count_mine version_id row (λ (x : VersionRow). int_eq x.kept kept) t.versions it.1.free (alike kept kept refl)
    ∙ ap (λ n. n + 1) count in
    let more = opened_in_turn lab kept others (before + 1) it.0 new (steady_more t steady lab kept within one it.0 it.1 next)
    (within_more t steady lab kept within one it.0 it.1 next) grown numbered.1 it.2 in
    record {
      rest = more.rest ∙ ap (λ u. Parts u new) (rest_is t steady lab kept within one it.0 it.1 next);
      has = λ of. more.has of
          ∙ one_more (int_eq of kept) (leaves_of t of) (leaves_of it.0 of) (leaf_of one) (map leaf_of others)
          (leaves_more t steady lab kept within one it.0 it.1 next of);
    }
