-- What each call of a MemDisk does, in the words of the disk model.
use Rattle.std.proofs.Common.{◌≡◌, ◌≢◌, ◌⊎◌, inl, inr, ⊎_elim, ℕ, ◌+◌, ◌<◌, ◌≤◌, ◌^◌, min, Bool, true, false, List, [], ◌∷◌, ◌++◌, length}
use Rattle.std.proofs.Common.{take, drop, Option, Some, None, Ok, Err, if◌then◌else◌, refl, sym, ◌∙◌, ap, subst, arith, append_assoc}
use Rattle.std.proofs.Common.{length-append, Result, OnOk, is_err}
use Rattle.std.proofs.lemmas.Bool.{cases_lt}
use Rattle.std.proofs.lemmas.List.{take_all, take-append-le}
use Rattle.ba_ports.specs.Causes.{HasCause}
use Rattle.ba_ports.specs.Counts.{risen}
use Rattle.ba_ports.specs.Disk.{written_at, Torn, CutShort, Done, NoMore, Only, Passes, is_counted}
use Rattle.ba_ports_memory.specs.DiskValue.{MediumValue, DiskValue, imaged, all_imaged, bytes_of, LeftOfOne, LeftOf, MayBeLeft, course, course_of}
use Rattle.ba_ports_memory.specs.DiskValue.{goes_wrong, issued, changed_by, synced_by, after, after_all, fails, Makes, IsLater, MayHaveBeenLeft}
use Rattle.ba_ports_memory.specs.inside.DiskLaws.{torn_none, cut_none, put_within, length_written, left_of_one, shown_may_stay, after_append}
use Rattle.ba_ports_memory.specs.inside.DiskLaws.{more_of}
use Rattle.ba_ports_memory.specs.declared.changes.Change.{Change}
use Rattle.ba_ports_memory.specs.declared.changes.Change.TheVariants as change
use Rattle.ba_ports.specs.declared.failures.Failed.{Failed}
use Rattle.ba_ports.specs.declared.images.Image.{Image}
use Rattle.ba_ports.specs.declared.images.Image.TheVariants as image
use Rattle.ba_ports_memory.specs.declared.media.Armed.{Armed}
use Rattle.ba_ports_memory.specs.declared.media.Course.{Course}
use Rattle.ba_ports_memory.specs.declared.media.Course.TheVariants.{GoesOn, Refused, Met}
use Rattle.ba_ports_memory.specs.declared.media.Trouble.TheVariants.{Fails, Stops}
use Rattle.ba_ports.specs.declared.requests.Call.{Call}
use Rattle.ba_ports.specs.declared.requests.Request.{Request}
use Rattle.ba_ports.specs.declared.requests.Request.TheVariants as request

-- One change more

pub all_imaged_on : (i : Image) (changes : List Change) (change : Change) (file : List ℕ)
    → all_imaged i (changes ++ change ∷ []) file ≡ imaged i change (all_imaged i changes file)
all_imaged_on i [] change file = refl
all_imaged_on i (first ∷ changes) change file = all_imaged_on i changes change (imaged i first file)

left_before : (changes : List Change) (change : Change) (file c : List ℕ) → LeftOf (changes ++ change ∷ []) file c → (d : List ℕ)
    × LeftOf changes file d × LeftOfOne change d c
left_before [] change file c (d, one, same) = (file, refl, subst (LeftOfOne change file) (sym same) one)
left_before (first ∷ changes) change file c (d, one, left) =
    let before = left_before changes change d c left in
    (before.0, (d, one, before.1), before.2)

none_of_one : (change : Change) (file : List ℕ) → LeftOfOne change file file
none_of_one (change.Write place bytes) file = torn_none place (length bytes) file
none_of_one (change.Cut len) file = cut_none len file

-- what may be left after a write or a cut
change_left : (change : Change) (k : Course) (m : MediumValue)
    → NoMore (Done (LeftOfOne change) (MayBeLeft m)) (MayBeLeft (changed_by k m (issued change m)))
change_left change GoesOn m c left = left_before m.pending change m.synced c left
change_left change Refused m c left = (c, left, none_of_one change c)
change_left change (Met Fails) m c left = (c, left, none_of_one change c)
change_left change (Met (Stops i)) m c left = left_before m.pending change m.synced c left

-- what a read gives after it
change_shown : (change : Change) (k : Course) (m : MediumValue)
    → LeftOfOne change (bytes_of m) (bytes_of (changed_by k m (issued change m)))
change_shown change GoesOn m = subst (LeftOfOne change (bytes_of m)) (sym (all_imaged_on image.New m.pending change m.synced))
    (left_of_one image.New change (bytes_of m))
change_shown change Refused m = none_of_one change (bytes_of m)
change_shown change (Met Fails) m = none_of_one change (bytes_of m)
change_shown change (Met (Stops i)) m = subst (LeftOfOne change (bytes_of m)) (sym (all_imaged_on image.New m.pending change m.synced))
    (left_of_one image.New change (bytes_of m))

change_done : (change : Change) (k : Course) (m : MediumValue) → goes_wrong k ≡ false
    → bytes_of (changed_by k m (issued change m)) ≡ imaged image.New change (bytes_of m)
change_done change GoesOn m right = all_imaged_on image.New m.pending change m.synced
change_done change Refused m right = cc
change_done change (Met trouble) m right = cc

sync_left : (k : Course) (m : MediumValue) → NoMore (MayBeLeft m) (MayBeLeft (synced_by k m))
sync_left GoesOn m c left = subst (MayBeLeft m) (sym left) (shown_may_stay m)
sync_left Refused m c left = left
sync_left (Met Fails) m c left = left
sync_left (Met (Stops i)) m c left = left

sync_shown : (k : Course) (m : MediumValue) → bytes_of (synced_by k m) ≡ bytes_of m
sync_shown GoesOn m = refl
sync_shown Refused m = refl
sync_shown (Met Fails) m = refl
sync_shown (Met (Stops i)) m = refl

sync_done : (k : Course) (m : MediumValue) → goes_wrong k ≡ false → Only (bytes_of m) (MayBeLeft (synced_by k m))
sync_done GoesOn m right = λ c left. left
sync_done Refused m right = cc
sync_done (Met trouble) m right = cc

-- One call more

last_call : (r : Request) (m : MediumValue) → is_counted r ≡ true
    → (after r m).calls ≡ m.calls ++ record { request = r; failed = goes_wrong (course m) } ∷ []
last_call request.Len m counts = cc
last_call (request.ReadAt place room) m counts = cc
last_call (request.WriteAt place bytes) m counts = refl
last_call (request.Cut len) m counts = refl
last_call request.Sync m counts = refl

take_more : (n : ℕ) (calls : List Call) (call : Call) → n ≤ length calls → take n (calls ++ call ∷ []) ≡ take n calls
take_more n calls call few = take-append-le n calls (call ∷ []) few

abbrev pub PassesBy : (List ℕ → Type 0) → DiskValue → DiskValue → Type 0
PassesBy = Passes (λ (a b : DiskValue). IsLater a.medium b.medium) (λ (a b : DiskValue). MayHaveBeenLeft a.medium b.medium)

abbrev PassesOn : DiskValue → DiskValue → Type 0
PassesOn old new = PassesBy (MayBeLeft new.medium) old new

-- what a crash may leave after the call, one during it may leave too
pub passes_during : (old new : DiskValue) (during : List ℕ → Type 0) → PassesOn old new
    → ((c : List ℕ) → MayBeLeft new.medium c → during c) → PassesBy during old new
passes_during old new during passes has = record {
  goes_on = passes.goes_on;
  nothing_else = λ a c later left. ⊎_elim (λ was. inl was) (λ now. inr (has c now)) (passes.nothing_else a c later left);
  keeps = passes.keeps;
}

pub passes_same : (old new : DiskValue) → new.medium ≡ old.medium → PassesOn old new
passes_same old new same = record {
  goes_on = λ a later. subst (IsLater a.medium) (sym same) later;
  nothing_else = λ a c later left. inl (subst (λ (m : MediumValue). MayHaveBeenLeft a.medium m c) same left);
  keeps = λ a c later left. subst (λ (m : MediumValue). MayHaveBeenLeft a.medium m c) (sym same) left;
}

-- a call that is one more leads on
module _ (old new : MediumValue) (call : Call) (noted : new.calls ≡ old.calls ++ call ∷ []) (is : new ≡ after call.request old) where
  on : (a : MediumValue) → IsLater a old → IsLater a new
  on a later = (
    later.0 ++ call ∷ [],
    noted ∙ ap (λ (l : List Call). l ++ call ∷ []) later.1 ∙ append_assoc a.calls later.0 (call ∷ []),
    is ∙ ap (after call.request) later.2 ∙ sym (after_append later.0 (call ∷ []) a),
  )

  else_none : (a : MediumValue) (c : List ℕ) → IsLater a old → MayHaveBeenLeft a new c → MayHaveBeenLeft a old c ⊎ MayBeLeft new c
  unfolding on
  else_none a c later left =
      let more = more_of a old later in
      let more' = more_of a new (on a later) in
      ⊎_elim
      (λ past.
      let whole : take left.0 (drop (length a.calls) new.calls) ≡ later.0 ++ call ∷ [] =
      ap (take left.0) more' ∙ take_all left.0 (later.0 ++ call ∷ []) (omega (arith, past, length-append later.0 (call ∷ []))) in
      inr (subst (λ (m : MediumValue). MayBeLeft m c) (ap (λ (l : List Call). after_all l a) whole ∙ sym (on a later).2) left.1))
      (λ within.
      let front : take left.0 (drop (length a.calls) new.calls) ≡ take left.0 (drop (length a.calls) old.calls) =
      ap (take left.0) more' ∙ take_more left.0 later.0 call within ∙ ap (take left.0) (sym more) in
      inl (left.0, subst (λ (l : List Call). MayBeLeft (after_all l a) c) front left.1))
      (cases_lt (length later.0) left.0)

  kept : (a : MediumValue) (c : List ℕ) → IsLater a old → MayHaveBeenLeft a old c → MayHaveBeenLeft a new c
  unfolding on
  kept a c later left =
      let more = more_of a old later in
      let more' = more_of a new (on a later) in
      let n = min left.0 (length later.0) in
      let cut : take left.0 later.0 ≡ take n later.0 = ⊎_elim
      (λ past.
      let same : n ≡ length later.0 = omega (arith, past) in
      take_all left.0 later.0 (omega (arith, past)) ∙ sym (take_all n later.0 (omega (arith, same))))
      (λ within. let same : left.0 ≡ n = omega (arith, within) in ap (λ (k : ℕ). take k later.0) same)
      (cases_lt (length later.0) left.0) in
      let front : take left.0 (drop (length a.calls) old.calls) ≡ take n (drop (length a.calls) new.calls) =
      ap (take left.0) more ∙ cut ∙ sym (take_more n later.0 call (omega arith)) ∙ ap (take n) (sym more') in
      (n, subst (λ (l : List Call). MayBeLeft (after_all l a) c) front left.1)

pub passes_after : (r : Request) (old new : DiskValue) → is_counted r ≡ true → new.medium ≡ after r old.medium → PassesOn old new
passes_after r old new counts is =
    let call : Call = record { request = r; failed = goes_wrong (course old.medium) } in
    let noted : new.medium.calls ≡ old.medium.calls ++ call ∷ [] = ap (λ (m : MediumValue). m.calls) is ∙ last_call r old.medium counts in
    record {
      goes_on = λ a later. on old.medium new.medium call noted is a.medium later;
      nothing_else = λ a c later left. else_none old.medium new.medium call noted is a.medium c later left;
      keeps = λ a c later left. kept old.medium new.medium call noted is a.medium c later left;
    }

-- What each call says

module _ {T E : Type 0} (result : Result T E) (old new : DiskValue) where
  pub passes : (r : Request) → is_counted r ≡ true → Makes r result old new → PassesOn old new
  passes r counts makes = ⊎_elim
      (λ did. passes_after r old new counts (ap (λ (d : DiskValue). d.medium) did.0))
      (λ starved. passes_same old new (ap (λ (d : DiskValue). d.medium) starved.0))
      makes

-- a fact of the medium, whether the call did what it does or found no memory
by_medium : {T E : Type 0} (P : MediumValue → Type 0) (r : Request) (result : Result T E) (old new : DiskValue) → Makes r result old new
    → P (after r old.medium) → P old.medium → P new.medium
by_medium P r result old new makes did same = ⊎_elim
    (λ makes. subst (λ (d : DiskValue). P d.medium) (sym makes.0) did)
    (λ starved. subst (λ (d : DiskValue). P d.medium) (sym starved.0) same)
    makes

pub write_left : {T E : Type 0} (place : ℕ) (piece : List ℕ) (result : Result T E) (old new : DiskValue)
    → Makes (request.WriteAt place piece) result old new
    → NoMore (Done (Torn place (length piece)) (MayBeLeft old.medium)) (MayBeLeft new.medium)
write_left place piece result old new makes =
    by_medium (λ (m : MediumValue). NoMore (Done (Torn place (length piece)) (MayBeLeft old.medium)) (MayBeLeft m))
    (request.WriteAt place piece) result old new makes
    (change_left (change.Write place piece) (course old.medium) old.medium) (λ c left. (c, left, torn_none place (length piece) c))

pub cut_left : {T E : Type 0} (len : ℕ) (result : Result T E) (old new : DiskValue) → Makes (request.Cut len) result old new
    → NoMore (Done (CutShort len) (MayBeLeft old.medium)) (MayBeLeft new.medium)
cut_left len result old new makes =
    by_medium (λ (m : MediumValue). NoMore (Done (CutShort len) (MayBeLeft old.medium)) (MayBeLeft m))
    (request.Cut len) result old new makes
    (change_left (change.Cut len) (course old.medium) old.medium) (λ c left. (c, left, cut_none len c))

pub write_torn : {T E : Type 0} (place : ℕ) (piece : List ℕ) (result : Result T E) (old new : DiskValue)
    → Makes (request.WriteAt place piece) result old new → Torn place (length piece) (bytes_of old.medium) (bytes_of new.medium)
write_torn place piece result old new makes =
    by_medium (λ (m : MediumValue). Torn place (length piece) (bytes_of old.medium) (bytes_of m))
    (request.WriteAt place piece) result old new makes
    (change_shown (change.Write place piece) (course old.medium) old.medium) (torn_none place (length piece) (bytes_of old.medium))

pub cut_short : {T E : Type 0} (len : ℕ) (result : Result T E) (old new : DiskValue) → Makes (request.Cut len) result old new
    → CutShort len (bytes_of old.medium) (bytes_of new.medium)
cut_short len result old new makes =
    by_medium (λ (m : MediumValue). CutShort len (bytes_of old.medium) (bytes_of m)) (request.Cut len) result old new makes
    (change_shown (change.Cut len) (course old.medium) old.medium) (cut_none len (bytes_of old.medium))

pub sync_no_more : {T E : Type 0} (result : Result T E) (old new : DiskValue) → Makes request.Sync result old new
    → NoMore (MayBeLeft old.medium) (MayBeLeft new.medium)
sync_no_more result old new makes =
    by_medium (λ (m : MediumValue). NoMore (MayBeLeft old.medium) (MayBeLeft m)) request.Sync result old new makes
    (sync_left (course old.medium) old.medium) (λ c left. left)

pub sync_seen : {T E : Type 0} (result : Result T E) (old new : DiskValue) → Makes request.Sync result old new
    → bytes_of new.medium ≡ bytes_of old.medium
sync_seen result old new makes =
    by_medium (λ (m : MediumValue). bytes_of m ≡ bytes_of old.medium) request.Sync result old new makes
    (sync_shown (course old.medium) old.medium) refl

-- after Ok the call went on
went_on : {T E : Type 0} (r : Request) (result : Result T E) (old new : DiskValue) → Makes r result old new → is_err result ≡ false
    → (new.medium ≡ after r old.medium) × (fails r old.medium ≡ false)
went_on r result old new makes ok = ⊎_elim
    (λ did. (ap (λ (d : DiskValue). d.medium) did.0, sym did.1 ∙ ok))
    (λ starved. let no = starved.1 in cc)
    makes

pub write_done : {T E : Type 0} (place : ℕ) (piece : List ℕ) (result : Result T E) (old new : DiskValue)
    → Makes (request.WriteAt place piece) result old new → place ≤ length (bytes_of old.medium)
    → OnOk result (bytes_of new.medium ≡ written_at place piece (bytes_of old.medium))
write_done {T = T} {E = E} place piece (Ok value) old new makes within =
    let went = went_on {T = T} {E = E} (request.WriteAt place piece) (Ok value) old new makes refl in
    ap bytes_of went.0 ∙ change_done (change.Write place piece) (course old.medium) old.medium went.1
    ∙ put_within place piece (bytes_of old.medium) within
write_done place piece (Err e) old new makes within = tt

pub cut_done : {T E : Type 0} (len : ℕ) (result : Result T E) (old new : DiskValue) → Makes (request.Cut len) result old new
    → OnOk result (bytes_of new.medium ≡ take len (bytes_of old.medium))
cut_done {T = T} {E = E} len (Ok value) old new makes =
    let went = went_on {T = T} {E = E} (request.Cut len) (Ok value) old new makes refl in
    ap bytes_of went.0 ∙ change_done (change.Cut len) (course old.medium) old.medium went.1
cut_done len (Err e) old new makes = tt

pub sync_durable : {T E : Type 0} (result : Result T E) (old new : DiskValue) → Makes request.Sync result old new
    → OnOk result (Only (bytes_of old.medium) (MayBeLeft new.medium))
sync_durable {T = T} {E = E} (Ok value) old new makes =
    let went = went_on {T = T} {E = E} request.Sync (Ok value) old new makes refl in
    subst (λ (m : MediumValue). Only (bytes_of old.medium) (MayBeLeft m)) (sym went.0) (sync_done (course old.medium) old.medium went.1)
sync_durable (Err e) old new makes = tt

pub caused : {T : Type 0} (r : Request) (result : Result T Failed) (old new : DiskValue) → Makes r result old new
    → old.faults ≤ new.faults → HasCause old.faults new.faults result
caused r (Ok value) old new makes later = record { later = later; failed = tt }
caused r (Err e) old new makes later =
    let counts : new.faults ≡ risen old.faults = ⊎_elim
    (λ did. ap (λ (d : DiskValue). d.faults) did.0 ∙ ap (λ (b : Bool). if b then risen old.faults else old.faults) (sym did.1))
    (λ starved. ap (λ (d : DiskValue). d.faults) starved.0)
    makes in
    record { later = later; failed = omega (arith, counts) }

-- a call that goes on, or meets trouble, finds the machine running
pub running : (stopped : Option Image) (armed : Option Armed) (number : ℕ) → course_of stopped armed number ≢ Refused → stopped ≡ None
running None armed number goes = refl
running (Some i) armed number goes = absurd (goes refl)

pub going : (m : MediumValue) → course m ≡ GoesOn → m.stopped ≡ None
going m goes = running m.stopped m.armed (length m.calls + 1) (λ refused. let both = sym goes ∙ refused in cc)

-- what a file in memory holds ends below the greatest u64
pub write_within : {T E : Type 0} (place : ℕ) (piece : List ℕ) (result : Result T E) (old new : DiskValue)
    → OnOk result (bytes_of new.medium ≡ written_at place piece (bytes_of old.medium)) → place ≤ length (bytes_of old.medium)
    → length (bytes_of new.medium) < 2 ^ 64
    → OnOk result (place + length piece < 2 ^ 64)
write_within place piece (Ok value) old new done within ends = omega
    (arith, ap length done, length_written place piece (bytes_of old.medium) within, ends)
write_within place piece (Err e) old new done within ends = tt
