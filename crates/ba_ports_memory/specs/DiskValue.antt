-- Believe: a MemDisk as plain values, and what each call makes of them.
use Rattle.std.specs.Prelude.{◌≡◌, ◌⊎◌, ◌+◌, ◌-◌, ◌/◌, ℕ, nat_eq, nat_lt, Bool, true, false, if◌then◌else◌, List, [], ◌∷◌, ◌++◌, length}
use Rattle.std.specs.Prelude.{take, drop, replicate, Option, Some, None, is_some, Result, is_err}
use Rattle.ba_ports.specs.Counts.{risen}
use Rattle.ba_ports.specs.Disk.{written_at, Torn, CutShort, Armament, fail, stop, nothing}
use Rattle.ba_ports.specs.declared.images.Image.{Image}
use Rattle.ba_ports.specs.declared.images.Image.TheVariants as image
use Rattle.ba_ports_memory.specs.declared.media.Armed.{Armed}
use Rattle.ba_ports_memory.specs.declared.changes.Change.{Change}
use Rattle.ba_ports_memory.specs.declared.changes.Change.TheVariants as change
use Rattle.ba_ports_memory.specs.declared.media.Course.{Course}
use Rattle.ba_ports_memory.specs.declared.media.Course.TheVariants.{GoesOn, Refused, Met}
use Rattle.ba_ports_memory.specs.declared.media.Trouble.{Trouble}
use Rattle.ba_ports_memory.specs.declared.media.Trouble.TheVariants.{Fails, Stops}
use Rattle.ba_ports.specs.declared.requests.Call.{Call}
use Rattle.ba_ports.specs.declared.requests.Request.{Request}
use Rattle.ba_ports.specs.declared.requests.Request.TheVariants as request

-- what a MemDisk holds
pub record MediumValue : Type 0 where
  -- the contents at the last restart or good sync
  pub synced : List ℕ
  -- what was issued since, in order
  pub pending : List Change
  -- the counted calls so far, but those that found no memory
  pub calls : List Call
  -- what is armed, for the counted call of a number
  pub armed : Option Armed
  -- the image of the stop, where the machine has stopped since the last restart
  pub stopped : Option Image

-- a MemDisk
pub record DiskValue : Type 0 where
  pub medium : MediumValue
  -- how often it has failed
  pub faults : ℕ
  -- a counted call found no memory
  pub starved : Bool

-- Images

-- these bytes at a place of the file. Where the file ends before the place, they aren't there.
abbrev pub put : ℕ → List ℕ → List ℕ → List ℕ
put place bytes file = if nat_lt (length file) place then file else written_at place bytes file

-- what an image leaves of one change to a file
abbrev pub imaged : Image → Change → List ℕ → List ℕ
imaged image.Old (change.Write place bytes) file = file
imaged image.New (change.Write place bytes) file = put place bytes file
imaged image.Filled (change.Write place bytes) file = put place (replicate (length bytes) 255) file
imaged image.Half (change.Write place bytes) file = put place (take (length bytes / 2) bytes) file
imaged image.Old (change.Cut len) file = file
imaged image.New (change.Cut len) file = take len file
imaged image.Filled (change.Cut len) file = file
imaged image.Half (change.Cut len) file = take (len + (length file - len) / 2) file

-- what it leaves of several, in their order
abbrev pub all_imaged : Image → List Change → List ℕ → List ℕ
all_imaged image [] file = file
all_imaged image (change ∷ changes) file = all_imaged image changes (imaged image change file)

-- the bytes that a read gives
abbrev pub bytes_of : MediumValue → List ℕ
bytes_of m = all_imaged image.New m.pending m.synced

-- What a crash may leave

abbrev pub LeftOfOne : Change → List ℕ → List ℕ → Type 0
LeftOfOne (change.Write place bytes) = Torn place (length bytes)
LeftOfOne (change.Cut len) = CutShort len

-- what may be left of a file to which these changes are pending
abbrev pub LeftOf : List Change → List ℕ → List ℕ → Type 0
LeftOf [] file left = left ≡ file
LeftOf (change ∷ changes) file left = (between : List ℕ) × LeftOfOne change file between × LeftOf changes between left

abbrev pub MayBeLeft : MediumValue → List ℕ → Type 0
MayBeLeft m = LeftOf m.pending m.synced

-- The counted calls

-- what is armed comes at the call of its number
abbrev pub course_by : Option Armed → ℕ → Course
course_by None number = GoesOn
course_by (Some armed) number = if nat_eq armed.number number then Met armed.trouble else GoesOn

abbrev pub course_of : Option Image → Option Armed → ℕ → Course
course_of (Some image) armed number = Refused
course_of None armed number = course_by armed number

-- what the next counted call meets
abbrev pub course : MediumValue → Course
course m = course_of m.stopped m.armed (length m.calls + 1)

abbrev pub goes_wrong : Course → Bool
goes_wrong GoesOn = false
goes_wrong Refused = true
goes_wrong (Met trouble) = true

-- the call fails
abbrev pub fails : Request → MediumValue → Bool
fails request.Len m = is_some m.stopped
fails (request.ReadAt place room) m = is_some m.stopped
fails (request.WriteAt place bytes) m = goes_wrong (course m)
fails (request.Cut len) m = goes_wrong (course m)
fails request.Sync m = goes_wrong (course m)

-- with one more counted call
abbrev pub with_call : Request → MediumValue → MediumValue → MediumValue
with_call request before m = record m { calls = before.calls ++ record { request = request; failed = goes_wrong (course before) } ∷ [] }

-- with one more change pending
abbrev pub issued : Change → MediumValue → MediumValue
issued change m = record m { pending = m.pending ++ change ∷ [] }

-- nothing is pending
abbrev pub settled : MediumValue → MediumValue
settled m = record m { synced = bytes_of m; pending = [] }

-- a failure or a stop has come
abbrev pub troubled : Trouble → MediumValue → MediumValue → MediumValue
troubled Fails before m = record before { armed = None }
troubled (Stops image) before m = record m { armed = None; stopped = Some image }

-- What a write or a cut leaves, from the medium before it and the same with the change issued. A sync
-- issues nothing.
abbrev pub changed_by : Course → MediumValue → MediumValue → MediumValue
changed_by GoesOn before m = m
changed_by Refused before m = before
changed_by (Met trouble) before m = troubled trouble before m

abbrev pub synced_by : Course → MediumValue → MediumValue
synced_by GoesOn m = settled m
synced_by Refused m = m
synced_by (Met trouble) m = troubled trouble m m

-- what each call leaves
abbrev pub after : Request → MediumValue → MediumValue
after request.Len m = m
after (request.ReadAt place room) m = m
after (request.WriteAt place bytes) m = with_call (request.WriteAt place bytes) m
    (changed_by (course m) m (issued (change.Write place bytes) m))
after (request.Cut len) m = with_call (request.Cut len) m (changed_by (course m) m (issued (change.Cut len) m))
after request.Sync m = with_call request.Sync m (synced_by (course m) m)

abbrev pub after_all : List Call → MediumValue → MediumValue
after_all [] m = m
after_all (call ∷ calls) m = after_all calls (after call.request m)

-- Requests made in turn, up to the first that fails: whether one failed, and the medium after them.
abbrev pub unless_failed : Bool → MediumValue → Bool × MediumValue → Bool × MediumValue
unless_failed true m others = (true, m)
unless_failed false m others = others

abbrev pub run : List Request → MediumValue → Bool × MediumValue
run [] m = (false, m)
run (request ∷ requests) m = unless_failed (fails request m) (after request m) (run requests (after request m))

-- nothing is armed, and the machine runs
pub record IsUntroubled (m : MediumValue) : Type 0 where
  pub unarmed : m.armed ≡ None
  pub running : m.stopped ≡ None

-- the disk after a call
abbrev pub step : Request → DiskValue → DiskValue
step request disk = record disk {
  medium = after request disk.medium;
  faults = if fails request disk.medium then risen disk.faults else disk.faults;
}

-- the disk after a counted call that found no memory
abbrev pub starve : DiskValue → DiskValue
starve disk = record disk { faults = risen disk.faults; starved = true }

-- the call did what it does, and failed where it fails; or it found no memory
abbrev pub Makes : {T E : Type 0} → Request → Result T E → DiskValue → DiskValue → Type 0
Makes request result old new =
    ((new ≡ step request old) × (is_err result ≡ fails request old.medium))
    ⊎ ((new ≡ starve old) × (is_err result ≡ true))

-- Between two states

-- the second is the first after the counted calls that it has more
abbrev pub IsLater : MediumValue → MediumValue → Type 0
IsLater a b = (more : List Call) × (b.calls ≡ a.calls ++ more) × (b ≡ after_all more a)

-- what a crash may have left after some of these calls
abbrev pub MayHaveBeenLeft : MediumValue → MediumValue → List ℕ → Type 0
MayHaveBeenLeft a b left = (n : ℕ) × MayBeLeft (after_all (take n (drop (length a.calls) b.calls)) a) left

-- these calls, each with its answer, lead from the first disk to the second
abbrev pub CallsLead : DiskValue → List Call → DiskValue → Type 0
CallsLead a [] b = b ≡ a
CallsLead a (call ∷ calls) b = (call.failed ≡ fails call.request a.medium) × CallsLead (step call.request a) calls b

-- the same, of a disk that tells its calls
abbrev pub Drives : DiskValue → List Call → DiskValue → Type 0
Drives a calls b = b.starved ≡ false → CallsLead a calls b

-- the counted calls, which a starved disk doesn't tell
abbrev pub told_calls : DiskValue → Option (List Call)
told_calls disk = if disk.starved then None else Some disk.medium.calls

-- Arming and restarting

abbrev pub armed_for : Armament → ℕ → Option Armed
armed_for (fail k) made = Some (record { number = made + k; trouble = Fails })
armed_for (stop k image) made = Some (record { number = made + k; trouble = Stops image })
armed_for nothing made = None

abbrev pub rearmed_medium : Armament → MediumValue → MediumValue
rearmed_medium armament m = record m { armed = armed_for armament (length m.calls) }

abbrev pub rearm : Armament → DiskValue → DiskValue
rearm armament disk = record disk { medium = rearmed_medium armament disk.medium }

-- the image that a restart takes: that of the stop, and all of it without a stop
abbrev pub chosen : Option Image → Image
chosen None = image.New
chosen (Some image) = image

abbrev pub restarted_medium : MediumValue → MediumValue
restarted_medium m = record m {
  synced = all_imaged (chosen m.stopped) m.pending m.synced;
  pending = [];
  stopped = None;
}

abbrev pub restarted : DiskValue → DiskValue
restarted disk = record disk { medium = restarted_medium disk.medium }

-- a disk that holds these bytes as synced, with nothing armed
abbrev pub holding : List ℕ → DiskValue
holding bytes = record {
  medium = record { synced = bytes; pending = []; calls = []; armed = None; stopped = None };
  faults = 0;
  starved = false;
}
