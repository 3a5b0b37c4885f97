-- Believe: the disk model: what a read gives, what a crash may leave, and by which calls one disk leads to another.
use Rattle.std.specs.Prelude.{◌≡◌, ◌⊎◌, ◌+◌, ◌<◌, ◌≤◌, ℕ, max, Bool, true, false, List, [], ◌∷◌, ◌++◌, length, take, drop, Option, Some}
use Rattle.std.specs.Prelude.{None, Result, is_err}
use Rattle.ba_ports.specs.declared.images.Image.{Image}
use Rattle.ba_ports.specs.declared.requests.Call.{Call}
use Rattle.ba_ports.specs.declared.requests.Request.{Request}
use Rattle.ba_ports.specs.declared.requests.Request.TheVariants as request

-- What a read gives

-- a read at this place moves this many bytes of the file into the room: one at least where there is one
pub record Reads (file : List ℕ) (place count : ℕ) (before after : List ℕ) : Type 0 where
  pub within : count ≤ length (drop place file)
  pub some : place < length file → 0 < length before → 0 < count
  pub bytes : after ≡ take count (drop place file) ++ drop count before

-- the file with these bytes at this place, where others were or past the end
abbrev pub written_at : ℕ → List ℕ → List ℕ → List ℕ
written_at place bytes file = take place file ++ bytes ++ drop (place + length bytes) file

-- What a crash may leave

-- What a crash may make of a file while a write of so many bytes is pending: the range of the write, and
-- what lies past the old end, may hold any bytes, the file may end anywhere from the old end to the new
-- one, and all other bytes stay.
pub record Torn (place count : ℕ) (old new : List ℕ) : Type 0 where
  pub range : List ℕ
  pub bytes : new ≡ take place old ++ range ++ drop (place + count) old
  pub no_shorter : length old ≤ length new
  pub no_longer : length new ≤ max (length old) (place + count)

-- the same while a cut to this length is pending: the range that is cut is gone from some place on
pub record CutShort (len : ℕ) (old new : List ℕ) : Type 0 where
  pub end : ℕ
  pub no_shorter : len ≤ end
  pub front : new ≡ take end old

-- what a crash might have left before, after this was done to it
abbrev pub Done : (List ℕ → List ℕ → Type 0) → (List ℕ → Type 0) → List ℕ → Type 0
Done step before c = (d : List ℕ) × before d × step d c

-- a crash may leave no other bytes than before
abbrev pub NoMore : (List ℕ → Type 0) → (List ℕ → Type 0) → Type 0
NoMore before now = (c : List ℕ) → now c → before c

-- a crash leaves these bytes
abbrev pub Only : List ℕ → (List ℕ → Type 0) → Type 0
Only file now = (c : List ℕ) → now c → c ≡ file

-- Crashes between two states of one disk

-- A call leads from old to new: since any state before it, a crash may have left what it may have left
-- before the call, or what it may leave during the call, and nothing else.
pub record Passes {D : Type 0} (later : D → D → Type 0) (left_between : D → D → List ℕ → Type 0) (during : List ℕ
    → Type 0) (old new : D) : Type 0 where
  pub goes_on : (a : D) → later a old → later a new
  pub nothing_else : (a : D) (c : List ℕ) → later a old → left_between a new c → left_between a old c ⊎ during c
  pub keeps : (a : D) (c : List ℕ) → later a old → left_between a old c → left_between a new c

-- A crash at any moment from old to new leaves bytes that have P.
pub record LeavesOnly {D : Type 0} (later : D → D → Type 0) (left_between : D → D → List ℕ → Type 0) (old new : D) (P : List ℕ
    → Type 0) : Type 0 where
  pub goes_on : later old new
  pub each : (c : List ℕ) → left_between old new c → P c
  -- for a run that began earlier
  pub before : (a : D) (c : List ℕ) → later a old → left_between a new c → left_between a old c ⊎ P c

-- The calls

-- a request as it was answered
abbrev pub called : {T E : Type 0} → Request → Result T E → Call
called request result = record { request = request; failed = is_err result }

-- write_at, cut and sync are counted
abbrev pub is_counted : Request → Bool
is_counted request.Len = false
is_counted (request.ReadAt place room) = false
is_counted (request.WriteAt place bytes) = true
is_counted (request.Cut len) = true
is_counted request.Sync = true

abbrev pub if_counted : Bool → Call → List Call → List Call
if_counted false call calls = calls
if_counted true call calls = call ∷ calls

-- the counted ones of these calls
abbrev pub counted : List Call → List Call
counted [] = []
counted (call ∷ calls) = if_counted (is_counted call.request) call (counted calls)

-- The counted calls that are told before and after these. A disk may cease to tell them, and then doesn't
-- begin again.
abbrev pub Lists : Option (List Call) → Option (List Call) → List Call → Type 0
Lists before None calls = Unit {0}
Lists None (Some after) calls = ⊥
Lists (Some before) (Some after) calls = after ≡ before ++ calls

-- These requests were made in turn, up to the first that failed.
abbrev pub InTurn : List Request → Bool → List Call → Type 0
InTurn [] failed calls = (failed ≡ false) × (calls ≡ [])
InTurn (request ∷ requests) failed calls =
    ((failed ≡ true) × (calls ≡ record { request = request; failed = true } ∷ []))
    ⊎ ((later : List Call) × (calls ≡ record { request = request; failed = false } ∷ later) × InTurn requests failed later)

-- What is armed: that a counted call fails, that the machine stops at it, or nothing.
pub data Armament : Type 0 where
  fail : ℕ → Armament
  stop : ℕ → Image → Armament
  nothing : Armament

-- arming leaves all that a disk tells of its content
pub record KeepsContent {D : Type 0} (follows : D → Bool) (seen : D → List ℕ) (may_leave : D → List ℕ → Type 0) (calls : D
    → Option (List Call)) (faults : D → ℕ) (old new : D) : Type 0 where
  pub follows_same : follows new ≡ follows old
  pub seen_same : seen new ≡ seen old
  pub no_more : NoMore (may_leave old) (may_leave new)
  pub no_fewer : NoMore (may_leave new) (may_leave old)
  pub calls_same : calls new ≡ calls old
  pub faults_same : faults new ≡ faults old
