-- How the calls of a loading follow one another.
use Rattle.std.proofs.Common.{◌≡◌, ◌≢◌, inl, inr, ℕ, Bool, true, false, List, [], ◌∷◌, ◌++◌, Result, Err, refl, sym, ◌∙◌, ap, subst}
use Rattle.ba_ports.specs.Disk.{InTurn, counted}
use Rattle.ba_ports.specs.declared.requests.Call.{Call}
use Rattle.ba_ports.specs.declared.requests.Request.{Request}
use Rattle.ba_ports.specs.declared.requests.Request.TheVariants.{Sync}
use Rattle.ba_journal.specs.Loads.{Loaded, settling}
use Rattle.ba_journal.specs.Loads.{EndsFailed}
use Rattle.ba_journal.specs.inside.Looks.{BreaksOff}
use Rattle.ba_journal.proofs.Looking.{ends_failed_on}
use Rattle.ba_journal.specs.declared.faults.JournalFault.{JournalFault}
use Rattle.ba_journal.specs.declared.faults.JournalFault.TheVariants as fault
use Rattle.ba_journal.specs.declared.readings.Reading.{Reading}
use Rattle.ba_journal.specs.declared.readings.Reading.TheVariants.{Fresh, Found}
use Rattle.ba_journal.specs.declared.readings.Tail.TheVariants as tail
use Rattle.ba_journal.proofs.Turns.{AreCounted, counted_on, all_counted}

settling_is_counted : (found : Reading) → AreCounted (settling found)
settling_is_counted Fresh = (refl, (refl, (refl, (refl, (refl, (refl, (refl, (refl, tt))))))))
settling_is_counted (Found records gate tail.AtRest) = tt
settling_is_counted (Found records gate tail.Closed) = (refl, (refl, tt))
settling_is_counted (Found records gate tail.Open) = (refl, (refl, (refl, (refl, tt))))

-- a sync and a reading
pub read_counted : (failed : Bool) (reads : List Call) → counted reads ≡ [] → failed ≡ false
    → InTurn (Sync ∷ []) false (counted ((record { request = Sync; failed = failed } ∷ []) ++ reads))
read_counted failed reads none is =
    inr (
      [],
      ap (λ (b : Bool). record { request = Sync; failed = b } ∷ counted reads) is
          ∙ ap (λ (cs : List Call). record { request = Sync; failed = false } ∷ cs) none,
      (refl, refl),
    )

-- and then a making or a repair
pub settled_counted : (found : Reading) (failed stopped : Bool) (reads made : List Call)
    → counted reads ≡ [] → failed ≡ false → InTurn (settling found) stopped made
    → InTurn (Sync ∷ settling found) stopped (counted ((record { request = Sync; failed = failed } ∷ []) ++ (reads ++ made)))
settled_counted found failed stopped reads made none is turn =
    let both : counted (reads ++ made) ≡ made = counted_on reads made ∙ ap (λ (cs : List Call). cs ++ counted made) none
    ∙ all_counted (settling found) stopped made (settling_is_counted found) turn in
    inr (
      made,
      ap (λ (b : Bool). record { request = Sync; failed = b } ∷ counted (reads ++ made)) is
          ∙ ap (λ (cs : List Call). record { request = Sync; failed = false } ∷ cs) both,
      turn,
    )

-- requests made in turn of which one failed
pub turn_ends_failed : (requests : List Request) (calls : List Call) → InTurn requests true calls → EndsFailed calls
turn_ends_failed [] calls turn = let no = turn.0 in absurd cc
turn_ends_failed (request ∷ requests) calls (inl stopped) = ([], request, stopped.1)
turn_ends_failed (request ∷ requests) calls (inr (more, is, others)) =
    subst EndsFailed (sym is) (ends_failed_on (record { request = request; failed = false } ∷ []) more
    (turn_ends_failed requests more others))

-- an answer of a reading that went wrong
module _ {D : Type 0} (driven : D → List Call → D → Type 0) (driven_on : (a b c : D) (first second : List Call) → driven a first b
    → driven b second c → driven a (first ++ second) c) where
  abbrev Refusal : {T : Type 0} → (Reading → Type 0) → (T → Reading → Type 0) → Result T JournalFault → D → D → Type 0
  Refusal IsRead IsOpened result d r = (calls : List Call) × driven d calls r × Loaded IsRead IsOpened result calls

  broke_kind : {T : Type 0} (IsRead : Reading → Type 0) (IsOpened : T → Reading
      → Type 0) (none : Result T JournalFault) (d s r : D) (failed : Bool) (why : JournalFault)
      → failed ≡ false → driven d (record { request = Sync; failed = failed } ∷ []) s
      → ((calls : List Call) × driven s calls r × (counted calls ≡ [])) → (why ≡ fault.Disk → BreaksOff driven s r)
      → why ≢ fault.Full → ((count : ℕ) → why ≢ fault.Closed count) → Refusal {T = T} IsRead IsOpened (Err why) d r
  broke_kind IsRead IsOpened none d s r failed fault.Memory is sync reads broke not_full not_closed =
      (_, driven_on d s r _ reads.0 sync reads.1, read_counted failed reads.0 reads.2 is)
  broke_kind IsRead IsOpened none d s r failed fault.Disk is sync reads broke not_full not_closed =
      let (made, drove, none_counted, ends) = broke refl in
      let first = record { request = Sync; failed = failed } ∷ [] in (
        first ++ made,
        driven_on d s r first made sync drove,
        (ends_failed_on first made ends, inl (false, read_counted failed made none_counted is)),
      )
  broke_kind IsRead IsOpened none d s r failed (fault.NotAJournal place) is sync reads broke not_full not_closed =
      (_, driven_on d s r _ reads.0 sync reads.1, read_counted failed reads.0 reads.2 is)
  broke_kind IsRead IsOpened none d s r failed fault.Full is sync reads broke not_full not_closed = absurd (not_full refl)
  broke_kind IsRead IsOpened none d s r failed (fault.Closed count) is sync reads broke not_full not_closed = absurd (not_closed count refl)

  pub refusal : {T : Type 0} (IsRead : Reading → Type 0) (IsOpened : T → Reading
      → Type 0) (result : Result T JournalFault) (d s r : D) (failed : Bool) (why : JournalFault) → result ≡ Err why
      → failed ≡ false → driven d (record { request = Sync; failed = failed } ∷ []) s
      → ((calls : List Call) × driven s calls r × (counted calls ≡ [])) → (why ≡ fault.Disk → BreaksOff driven s r)
      → why ≢ fault.Full → ((count : ℕ) → why ≢ fault.Closed count) → Refusal IsRead IsOpened result d r
  refusal IsRead IsOpened result d s r failed why told is sync reads broke not_full not_closed =
      subst (λ x. Refusal IsRead IsOpened x d r) (sym told)
      (broke_kind IsRead IsOpened result d s r failed why is sync reads broke not_full not_closed)

same_err : {T : Type 0} (none : Result T JournalFault) (why other : JournalFault)
    → let told : Result T JournalFault = Err why in told ≡ Err other → why ≡ other
same_err none why other is = cc

pub err_is : {T : Type 0} (result : Result T JournalFault) (why other : JournalFault) → result ≡ Err why → result ≡ Err other → why ≡ other
err_is result why other is also = same_err result why other (sym is ∙ also)
