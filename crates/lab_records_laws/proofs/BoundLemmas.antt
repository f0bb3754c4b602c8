-- Signatures and versions stay bound through what the rules make of a record.
use Rattle.std.proofs.Common.{◌≡◌, ℕ, Bool, true, false, cond, List, [], ◌∷◌, ◌++◌, Option, Some, None, refl, sym, ap, ◌∙◌}
use Rattle.std.specs.Prelude.{All}
use Rattle.std.proofs.lemmas.List.Elements.{All-nil, All-cons, All-head, All-tail, All-push, All-same, All-weaker}
use Rattle.lab_people_access.specs.declared.persons.Person.{Person}
use Rattle.lab_seal_versions.specs.declared.rows.EntryRow.{EntryRow}
use Rattle.lab_seal_versions.specs.declared.states.State.TheVariants.{Open}
use Rattle.lab_records_kept.specs.declared.records.FormVersion.{FormVersion}
use Rattle.lab_records_kept.specs.declared.records.Record.{Record}
use Rattle.lab_records_kept.specs.declared.records.Version.{Version}
use Rattle.lab_records_kept.specs.declared.records.Signature.{Signature}
use Rattle.lab_records_kept.specs.Lookups.{last_of, version_of, is_numbered}
use Rattle.lab_records_kept.specs.Values.{version_state}
use Rattle.lab_records_kept.specs.Digests.{digest_of, previous_of}
use Rattle.lab_records_kept.specs.Changes.{with_row, with_signature, in_last, in_version, entered_in, opened_in, signed_in}
use Rattle.lab_records_kept.specs.Bound.{IsBoundTo, IsSealed, IsChain, IsBoundRecord}
use Rattle.lab_records_rules.specs.declared.items.Item.{Item}
use Rattle.lab_records_rules.specs.declared.outcomes.Signing.{Signing}
use Rattle.lab_records_rules.specs.Making.{new_record}
use Rattle.lab_records_versions.specs.Entering.{has_settled, next_version}
use Rattle.lab_records_versions.specs.Signing.{version_refusal, new_signature}
use Rattle.lab_records_laws.proofs.SigningFrame.{with_versions, StaysTrue, each_in_version}
use Rattle.lab_records_laws.proofs.SigningStates.{one_last, later_last, open_none, given_digest}

-- a signature stays bound to a version whose text is the same
same_bound : (lab : List ℕ) (kept : Record) (others : List Version) (version other : Version)
    → digest_of lab (with_versions kept others) other ≡ digest_of lab kept version
    → (signature : Signature) → IsBoundTo lab kept version signature
    → IsBoundTo lab (with_versions kept others) other signature
same_bound lab kept others version other same signature bound = record {
  digest = bound.digest ∙ sym same;
  seal = bound.seal;
}

-- and so do all of a version that stays
same_sealed : (lab : List ℕ) (kept : Record) (others : List Version) (version : Version)
    → IsSealed lab kept version → IsSealed lab (with_versions kept others) version
same_sealed lab kept others version bound =
    All-weaker (IsBoundTo lab kept version) (IsBoundTo lab (with_versions kept others) version)
    (same_bound lab kept others version version refl) version.signatures bound

-- ---- an entry

-- the last version, which has no signatures, has one row more
sealed_in_last : (lab : List ℕ) (kept : Record) (others : List Version) (row : EntryRow)
    (last : Version) (versions : List Version) → last_of versions ≡ Some last → last.signatures ≡ []
    → All (IsSealed lab kept) versions
    → All (IsSealed lab (with_versions kept others)) (in_last (with_row row) versions)
sealed_in_last lab kept others row last [] is none bound = absurd (cc)
sealed_in_last lab kept others row last (one ∷ []) is none bound =
    let same : one.signatures ≡ [] =
    ap (λ (v : Version). v.signatures) (one_last one last is) ∙ none in
    All-cons (IsSealed lab (with_versions kept others)) (with_row row one) []
    (All-same (IsBoundTo lab (with_versions kept others) (with_row row one)) one.signatures [] same
    (All-nil (IsBoundTo lab (with_versions kept others) (with_row row one))))
    (All-nil (IsSealed lab (with_versions kept others)))
sealed_in_last lab kept others row last (one ∷ two ∷ more) is none bound =
    All-cons (IsSealed lab (with_versions kept others)) one (in_last (with_row row) (two ∷ more))
    (same_sealed lab kept others one (All-head (IsSealed lab kept) one (two ∷ more) bound))
    (sealed_in_last lab kept others row last (two ∷ more) (later_last one two more last is) none
    (All-tail (IsSealed lab kept) one (two ∷ more) bound))

chain_in_last : (lab : List ℕ) (kept : Record) (others : List Version) (row : EntryRow)
    (before : Option (List ℕ)) (versions : List Version) → IsChain lab kept before versions
    → IsChain lab (with_versions kept others) before (in_last (with_row row) versions)
chain_in_last lab kept others row before [] chain = tt
chain_in_last lab kept others row before (one ∷ []) chain = (chain.0, tt)
chain_in_last lab kept others row before (one ∷ two ∷ more) chain = (
  chain.0,
  chain_in_last lab kept others row (Some (digest_of lab kept one)) (two ∷ more) chain.1,
)

-- ---- an amendment

chain_more : (lab : List ℕ) (kept : Record) (others : List Version) (last next : Version)
    (before : Option (List ℕ)) (versions : List Version) → last_of versions ≡ Some last
    → previous_of next ≡ Some (digest_of lab kept last) → IsChain lab kept before versions
    → IsChain lab (with_versions kept others) before (versions ++ next ∷ [])
chain_more lab kept others last next before [] is amends chain = absurd (cc)
chain_more lab kept others last next before (one ∷ []) is amends chain = (
  chain.0,
  (amends ∙ ap (λ (v : Version). Some (digest_of lab kept v)) (sym (one_last one last is)), tt),
)
chain_more lab kept others last next before (one ∷ two ∷ more) is amends chain = (
  chain.0,
  chain_more lab kept others last next (Some (digest_of lab kept one)) (two ∷ more)
      (later_last one two more last is) amends chain.1,
)

-- ---- a signature

chain_same : (lab : List ℕ) (kept : Record) (others : List Version) (before : Option (List ℕ))
    (versions : List Version) → IsChain lab kept before versions
    → IsChain lab (with_versions kept others) before versions
chain_same lab kept others before [] chain = tt
chain_same lab kept others before (one ∷ more) chain =
    (chain.0, chain_same lab kept others (Some (digest_of lab kept one)) more chain.1)

chain_if : (lab : List ℕ) (kept : Record) (others : List Version) (signature : Signature)
    (before : Option (List ℕ)) (one : Version) (more changed : List Version) (here : Bool)
    → previous_of one ≡ before
    → IsChain lab (with_versions kept others) (Some (digest_of lab kept one)) more
    → IsChain lab (with_versions kept others) (Some (digest_of lab kept one)) changed
    → IsChain lab (with_versions kept others) before
    (cond here (with_signature signature one ∷ more) (one ∷ changed))
chain_if lab kept others signature before one more changed true first same later = (first, same)
chain_if lab kept others signature before one more changed false first same later = (first, later)

chain_in_version : (lab : List ℕ) (kept : Record) (others : List Version) (number : ℕ)
    (signature : Signature) (before : Option (List ℕ)) (versions : List Version)
    → IsChain lab kept before versions
    → IsChain lab (with_versions kept others) before
    (in_version number (with_signature signature) versions)
chain_in_version lab kept others number signature before [] chain = tt
chain_in_version lab kept others number signature before (one ∷ more) chain =
    chain_if lab kept others signature before one more
    (in_version number (with_signature signature) more) (is_numbered number one) chain.0
    (chain_same lab kept others (Some (digest_of lab kept one)) more chain.1)
    (chain_in_version lab kept others number signature (Some (digest_of lab kept one)) more chain.1)

-- the new signature is bound, and those before it stay so
sealed_more : (lab : List ℕ) (kept : Record) (others : List Version) (version : Version)
    (person : Person) (signing : Signing) (moment : ℕ) (digest : List ℕ)
    → digest ≡ digest_of lab kept version → IsSealed lab kept version
    → IsSealed lab (with_versions kept others)
    (with_signature (new_signature lab person signing moment digest) version)
sealed_more lab kept others version person signing moment digest current bound =
    let signature : Signature = new_signature lab person signing moment digest in
    let signed : Version = with_signature signature version in
    All-push (IsBoundTo lab (with_versions kept others) signed) version.signatures signature
    (All-weaker (IsBoundTo lab kept version) (IsBoundTo lab (with_versions kept others) signed)
    (same_bound lab kept others version signed refl) version.signatures bound)
    (record { digest = current; seal = refl })

-- ---- what the rules make

bound_opened : (lab : List ℕ) (form : FormVersion) (sample caller : List ℕ) (moment records : ℕ)
    → IsBoundRecord lab (new_record form sample caller moment records)
bound_opened lab form sample caller moment records = record {
  signatures = All-cons (IsSealed lab (new_record form sample caller moment records)) _ []
      (All-nil (IsBoundTo lab (new_record form sample caller moment records) _))
      (All-nil (IsSealed lab (new_record form sample caller moment records)));
  chain = (refl, tt);
}

bound_entered : (lab : List ℕ) (kept : Record) (version : Version) (row : EntryRow)
    → last_of kept.versions ≡ Some version → version_state kept version ≡ Some Open
    → IsBoundRecord lab kept → IsBoundRecord lab (entered_in row kept)
bound_entered lab kept version row last is bound = record {
  signatures = sealed_in_last lab kept (in_last (with_row row) kept.versions) row version
      kept.versions last (open_none version.signatures kept.form.form.approval is) bound.signatures;
  chain = chain_in_last lab kept (in_last (with_row row) kept.versions) row None kept.versions
      bound.chain;
}

bound_amended : (lab : List ℕ) (kept : Record) (last : Version) (reason : List ℕ)
    (altered : List Item) (caller : List ℕ) (moment : ℕ)
    → last_of kept.versions ≡ Some last → has_settled (version_state kept last) ≡ true
    → IsBoundRecord lab kept
    → IsBoundRecord lab (opened_in (next_version lab kept last reason altered caller moment) kept)
bound_amended lab kept last reason altered caller moment is settled bound =
    let next : Version = next_version lab kept last reason altered caller moment in
    let others : List Version = kept.versions ++ next ∷ [] in
    record {
      signatures = All-push (IsSealed lab (with_versions kept others)) kept.versions next
          (All-weaker (IsSealed lab kept) (IsSealed lab (with_versions kept others))
          (same_sealed lab kept others) kept.versions bound.signatures)
          (All-nil (IsBoundTo lab (with_versions kept others) next));
      chain = chain_more lab kept others last next None kept.versions is refl bound.chain;
    }

bound_signed : (lab : List ℕ) (kept : Record) (version : Version) (number : ℕ) (digest : List ℕ)
    (signing : Signing) (person : Person) (moment : ℕ)
    → version_of kept.versions number ≡ Some version
    → version_refusal lab kept version digest signing person.code ≡ None → IsBoundRecord lab kept
    → IsBoundRecord lab (signed_in number (new_signature lab person signing moment digest) kept)
bound_signed lab kept version number digest signing person moment found taken bound =
    let signature : Signature = new_signature lab person signing moment digest in
    let others : List Version = in_version number (with_signature signature) kept.versions in
    record {
      signatures = each_in_version (IsSealed lab kept) (IsSealed lab (with_versions kept others))
          number (with_signature signature) version kept.versions found
          (sealed_more lab kept others version person signing moment digest
          (given_digest lab kept version digest signing person.code taken))
          (same_sealed lab kept others) bound.signatures;
      chain = chain_in_version lab kept others number signature None kept.versions bound.chain;
    }

pub bound_stays : StaysTrue IsBoundRecord
bound_stays = record {
  opened = bound_opened;
  entered = bound_entered;
  amended = bound_amended;
  signed = bound_signed;
}
