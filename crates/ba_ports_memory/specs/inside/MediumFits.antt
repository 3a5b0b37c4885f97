-- Inside: what a Medium keeps: the contents at the last restart, and the changes since, the first of which are synced.
use Rattle.std.specs.Prelude.{◌≡◌, ◌≤◌, ℕ, List, [], length, take, drop, Option, Some, None}
use Rattle.ba_ports_memory.specs.DiskValue.{all_imaged}
use Rattle.ba_ports_memory.specs.declared.changes.Change.{Change}
use Rattle.ba_ports.specs.declared.images.Image.{Image}
use Rattle.ba_ports.specs.declared.images.Image.TheVariants as image
use Rattle.ba_ports_memory.specs.declared.media.Stopped.{Stopped}

abbrev pub image_of : Option Stopped → Option Image
image_of None = None
image_of (Some stop) = Some stop.image

-- the contents at the last good sync
abbrev pub synced_of : List ℕ → List Change → ℕ → List ℕ
synced_of base changes settled = all_imaged image.New (take settled changes) base

-- what an image leaves
abbrev pub left_of : Image → List ℕ → List Change → ℕ → List ℕ
left_of image base changes settled = all_imaged image (drop settled changes) (synced_of base changes settled)

-- what a read gives, which is kept once there was a change
abbrev pub shown_or : List ℕ → Option (List ℕ) → List ℕ
shown_or base None = base
shown_or base (Some shown) = shown

abbrev pub IsShown : Option (List ℕ) → List Change → List ℕ → Type 0
IsShown None changes base = changes ≡ []
IsShown (Some shown) changes base = shown ≡ all_imaged image.New changes base

-- a stop keeps what it leaves
abbrev pub IsLeft : Option Stopped → List ℕ → List Change → ℕ → Type 0
IsLeft None base changes settled = Unit {0}
IsLeft (Some stop) base changes settled = stop.left ≡ left_of stop.image base changes settled

pub record MediumFits (base : List ℕ) (shown : Option (List ℕ)) (changes : List Change) (settled : ℕ)
    (stopped : Option Stopped) : Type 0 where
  pub within : settled ≤ length changes
  pub is_shown : IsShown shown changes base
  pub is_left : IsLeft stopped base changes settled
